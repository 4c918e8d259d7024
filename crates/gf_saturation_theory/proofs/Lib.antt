pub mod SubstitutionLaws  -- monomials exchanged; the last variable exchanged for an inverse
pub mod SaturationLaws  -- Rabinowitsch's trick; one saturation after another
pub mod OneByOneLaws  -- the saturation, one variable after another
pub mod EliminationLaws  -- elimination of the last variable
pub mod OneTermLaws  -- polynomials of one term
pub mod LawsHold  -- the theorems of specs/Laws.antt
