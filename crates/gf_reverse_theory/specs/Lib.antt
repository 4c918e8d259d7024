pub mod AllBases  -- the list of all bases, as a total function
pub mod Upward  -- the way up from a basis
pub mod LeadingNumber  -- leading monomials up to a weight, read as a number
pub mod Heights  -- weights above all monomials of lists
pub mod Lists  -- paths, the list of all bases, and what is left for a walker
pub mod Answers  -- what the calls that the tree stands on answer
pub mod Laws  -- the theorems that functions of this crate name
pub mod TermOrders  -- reduced bases for any term order
