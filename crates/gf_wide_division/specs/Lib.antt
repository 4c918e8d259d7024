pub mod Values  -- terms with wide coefficients, as the polynomials that they stand for
pub mod Dividends  -- a polynomial under reduction, as a list of terms
pub mod Monic  -- a polynomial divided by one of its coefficients
pub mod Pairs  -- what is left of an S-polynomial
