pub mod ExponentsLaws  -- products, divisibility, entry by entry
pub mod WeightLaws  -- weights and degrees
pub mod OrderLaws  -- strict, total, as code compares
pub mod WholeWeightLaws  -- whole weights as rows, the order of a row
pub mod SixOrdersLaws  -- the six are monomial orders, and which are term orders
pub mod LawsHold  -- the laws of specs/Laws.antt
