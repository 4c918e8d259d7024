pub mod Along  -- the terms along a vector
pub mod Members  -- monic members, and such with reduced tails
pub mod Monomials  -- members that are monomials alone
pub mod Strands  -- polynomials on strands
pub mod Splits  -- the parts along a vector, as they are kept
pub mod Forms  -- remainders on strands
