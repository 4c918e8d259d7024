-- when a fault may be answered
pub mod Faults
-- what a call took from a source or added to a sink
pub mod Moved
-- sources and sinks in memory
pub mod Memory
