pub mod Frontier  -- a list as a row of pieces
pub mod Wave  -- what a wave and a call do to a row
pub mod Plans  -- how a row is cut up for a wave, and put together again
