pub mod SignLaws  -- the sign of a normal at a weight
pub mod WeightLaws  -- the weight of an order that compares by lex in the end
pub mod StepLaws  -- the facets that lead towards a weight
pub mod WalkLaws  -- from one basis to the next, and the end
