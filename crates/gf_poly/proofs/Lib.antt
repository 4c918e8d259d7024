pub mod MonomialLaws  -- exponents entry by entry, and as slices
pub mod PlacedLaws  -- monomials in all indices, with zeros behind their exponents
pub mod LexLaws  -- comparisons by lex, and equal monomials
pub mod FillingLaws  -- monomials in one more variable
pub mod WordLaws  -- the word of the variables that occur
pub mod PolynomialLaws  -- sums and products of polynomials
pub mod DescendingLaws  -- deglex, descending lists
pub mod NeighboursLaws  -- lists that descend, seen by their neighbouring terms
pub mod CoefficientLaws  -- coefficients of descending lists, which are known by them
pub mod MergeLaws  -- one step of a merge
pub mod ProductLaws  -- products term by term
pub mod CollectLaws  -- sums of like terms, in a list in order
pub mod SortLaws  -- a stable sort keeps coefficients and like terms
pub mod MarkingLaws  -- marked terms, monic polynomials, lists of them
pub mod InitialFormLaws  -- the terms of greatest weight
