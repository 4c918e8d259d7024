pub mod Seen  -- what the outside shows of itself
pub mod Loading  -- sources by their names, loaded one after another
pub mod Origins  -- sources as the code lists them
pub mod Readings  -- what the texts of some sources say
pub mod Commands  -- a command as one record
pub mod Runs  -- what a run of a command does
pub mod Programs  -- what a run of a program does that has a command for each job
