pub mod FactorLaws  -- whole numbers among fractions, and multiples of polynomials
pub mod ValueLaws  -- terms with whole coefficients, and what they stand for
pub mod CombinationLaws  -- the sum of multiples of two polynomials, term by term
pub mod ReductionLaws  -- steps up to a factor
