pub mod Commands  -- the command of each job
pub mod Run  -- the line of a refusal of a run
pub mod Work  -- what is left to do of a job on the texts of its sources
