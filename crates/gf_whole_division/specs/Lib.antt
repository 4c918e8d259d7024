pub mod Values  -- terms with whole coefficients, as the polynomials that they stand for
pub mod Combinations  -- polynomials that are added up
pub mod Reductions  -- multiples of what steps lead to
