pub mod FractionLaws  -- the field of fractions
pub mod PartsLaws  -- the two numbers of a fraction as the code works them out
mod LowestLaws  -- which sums and products are in lowest terms as they come
pub mod WorkingLaws  -- what the code works out is the sum, or the product, of the fractions
