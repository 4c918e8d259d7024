pub mod DecidedLaws  -- what is decided of numbers and lists
pub mod DicksonLaws  -- Dickson's lemma, as an induction principle
pub mod DifferenceLaws  -- differences of polynomials
pub mod RemainderLaws  -- remainders of members, monic forms
pub mod RunLaws  -- Buchberger's algorithm with numbers of any size
pub mod KeptLaws  -- polynomials as a program keeps them
pub mod ReducedFormLaws  -- the reduced basis, with numbers of any size
pub mod ExistenceLaws  -- the reduced basis exists, and is one list
pub mod ContainmentLaws  -- bases that are the same because of their marks
pub mod GradedBasisLaws  -- what grades the generators grades the reduced basis
pub mod AllBasesLaws  -- a list of all marked reduced bases
pub mod FiniteLaws  -- the list of a region, and who has one
pub mod RegionBases  -- each vector of a region has a basis of the region
pub mod ShiftedWeightLaws  -- any vector, where the ideal is homogeneous
pub mod LawsHold  -- the theorems of specs/Laws.antt
