pub mod Turns  -- a run that takes the pairs in turn
pub mod Settling  -- the reduced basis of the strands of a run
