pub mod Parts  -- initial forms of a marked list, parts along a vector
pub mod Lifts  -- lifts of members of the initial ideal
pub mod Crossings  -- leading monomials on both sides of a facet
pub mod Laws  -- the theorems that functions of this crate name
