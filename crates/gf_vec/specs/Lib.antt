pub mod Vector  -- dot products, sums and combinations of vectors
pub mod Steps  -- the operations of a call, and the first that leaves the range
pub mod Primitive  -- a vector divided by its content
pub mod RootSign  -- the sign of the first nonzero number among the sum and the entries
