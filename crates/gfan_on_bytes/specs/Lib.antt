pub mod OnBytes  -- the texts of a job, if the input and the files are bytes in memory
