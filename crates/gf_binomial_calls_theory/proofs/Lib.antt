pub mod FlipLaws  -- operations of flips
pub mod TreeLaws  -- why a flip or a search may be refused
pub mod CheckLaws  -- why a test of a marked set may be refused
pub mod InitialLaws  -- initial forms of differences of two monomials
pub mod SaturationLaws  -- why a saturation may be refused
pub mod WrittenLaws  -- what plainly written polynomials mean
pub mod SetLaws  -- sets of them
pub mod LimitLaws  -- limits of runs and flips of an ideal with one generator
pub mod SystemLimits  -- the systems of normals of an ideal with one generator
pub mod CheckLimits  -- limits of the checks of a marked set of one binomial
pub mod TermLimits  -- limits of searches over bases of monomials
pub mod LawsHold  -- the theorems of specs/Laws.antt
