pub mod MultipleLaws  -- whether exponents are a multiple of a vector apart
pub mod AlongLaws  -- the terms along a vector, one after another
pub mod MonomialLaws  -- members that are monomials alone
pub mod IndexLaws  -- members at indices
pub mod MoveLaws  -- monomials on a strand
pub mod StrandLaws  -- polynomials on strands
pub mod PointLaws  -- points one by one
pub mod StrandMarks  -- the marks of strands
pub mod FormLaws  -- remainders on strands
pub mod FurtherLaws  -- remainders of points whose multiples are positive
pub mod SplitLaws  -- the parts along a vector, as they are kept
