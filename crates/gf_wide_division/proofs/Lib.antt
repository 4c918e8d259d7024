pub mod ValueLaws  -- terms with wide coefficients, and what they stand for
pub mod DividendLaws  -- indices in a dividend, and what is taken at them
pub mod PairLaws  -- the S-polynomial, from nothing by two subtractions
pub mod MonicLaws  -- a polynomial divided by one of its coefficients
pub mod RemainderLaws  -- what is left of a dividend
