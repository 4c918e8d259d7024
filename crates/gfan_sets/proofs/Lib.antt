pub mod ToolLaws  -- each of the small tools answers in one way
pub mod BuchbergerLaws  -- what `_buchberger` answers
pub mod MarkedLaws  -- what `_ismarkedgroebnerbasis` answers, and why it doesn't
pub mod ContainmentLaws  -- whether an ideal contains polynomials
pub mod WeightVectorLaws  -- the weights of sets
pub mod ExactLaws  -- refusals of each command are told in one way
pub mod SaturationLaws  -- what `_saturation` answers, and why it doesn't
