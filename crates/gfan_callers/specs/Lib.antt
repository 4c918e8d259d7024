pub mod Lists  -- a list of bases that is under way by several workers
pub mod Told  -- the line that a status comes with
pub mod TwoFiles  -- two files and their bytes
