pub mod WholeLaws  -- small whole numbers, on which operations stay in range
pub mod MonomialLaws  -- monomials that may be missing, and differences of two
pub mod BinomialLaws  -- steps, S-polynomials, monic forms
pub mod RunLaws  -- runs of Buchberger's algorithm
pub mod PrincipalRuns  -- runs on one polynomial none of whose monomials divides another
pub mod PrincipalBases  -- reduced bases of ideals with one generator
pub mod LawsHold  -- the theorems of specs/Laws.antt
