pub mod Monomial  -- what is kept of a monomial, sums of exponents within the limit
pub mod Polynomial  -- term lists, coefficients, descending lists
pub mod Refusals  -- why a call is refused, by the kind of the refusal
pub mod Sums  -- sums and differences, and where they leave the range
pub mod Products  -- products with a term or a fraction, and where they leave their ranges
pub mod Collecting  -- sums of like terms from the left
pub mod InitialForms  -- the terms of greatest weight
pub mod Marking  -- marked polynomials
pub mod Laws  -- what a function of this crate names
pub use Rattle.gf_frac.specs.Fraction
