pub mod CommandLaws  -- the command of each job is lawful
pub mod SourceLaws  -- what a job is handed, from the texts of its sources
pub mod RunLaws  -- the ring in whose names a refusal of a run is told, and the limit of a list
pub mod PlainInputLaws  -- where no coefficient leaves its range
