pub mod Steps  -- one step of reduction, and why a reduction is refused
pub mod NormalForms  -- what a normal form asks for
pub mod Divisions  -- division with cofactors
pub mod MonicForms  -- marked polynomials made monic
pub mod SPolynomials  -- S-polynomials of any marked polynomials
pub mod Autoreduction  -- the reduced basis from any basis
pub mod Dividends  -- a polynomial under reduction, with an index in it
pub mod Reducers  -- which member reduces a term
pub mod Remainders  -- remainders by any steps
pub mod Tables  -- a polynomial under reduction as a table
pub mod Keys  -- exponents arranged so that lists compare as monomials do
pub mod Chains  -- many steps at once
