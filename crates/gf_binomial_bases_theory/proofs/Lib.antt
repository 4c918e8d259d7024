pub mod CutLaws  -- monomials without the variables past the first n
pub mod CongruenceLaws  -- monomials whose difference is in the ideal
pub mod DecidedLaws  -- membership is decided
pub mod ReducedLaws  -- reduced bases
pub mod BinomialParts  -- parts of members
pub mod CarriedLaws  -- what steps make of a difference, modulo the parts
pub mod LiftedBinomials  -- lifts
pub mod LawsHold  -- the theorems of specs/Laws.antt
