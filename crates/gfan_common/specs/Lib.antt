pub mod Printing  -- texts that several commands print
pub mod Forms  -- the polynomials of a set that is read, and the conditions of an order on a weight and on them
pub mod Causes  -- refusals of algorithms, as refusals of the run
pub mod CheckedSets  -- the refusal of a check of a marked set, as one of the run
pub mod ToolForms  -- checks of the input of the small tools, and of those on cones
pub mod ReducedSets  -- lists of marked sets that are read as reduced bases
pub mod Refused  -- a refusal with the ring whose names its message uses
pub mod Performed  -- the effect of a command on the output, for what it reads
