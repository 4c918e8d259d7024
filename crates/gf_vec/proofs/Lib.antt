pub mod VectorLaws  -- dot products of sums, multiples and combinations
pub mod DividedLaws  -- division by the content
pub mod DotLaws  -- dot products on the right, of joined lists, with values; what they tell of vectors
pub mod EntryLaws  -- entries of multiples, sums and parts; cancelled factors
pub mod VectorIdentities  -- identities of vectors, each in one line
pub mod PrimitiveLaws  -- primitive vectors, and that two on one ray are one
pub mod StepLaws  -- the first operation that leaves the range
pub mod WeightLaws  -- the weight of an exponent list, one entry further
mod RootSignLaws  -- the sum of the entries, one entry further
pub mod DotSteps  -- a dot product and its steps, one entry further
pub mod SumLaws  -- sums and negatives in place, one entry further
