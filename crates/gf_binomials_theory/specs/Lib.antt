pub mod Binomials  -- differences of two monomials, each of which may be missing
pub mod Antichains  -- polynomials none of whose monomials divides another
pub mod Laws  -- the theorems that functions of this crate name
