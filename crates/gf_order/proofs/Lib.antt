pub mod SumLaws  -- the difference of two weights, entry by entry
pub mod ComparisonLaws  -- what a comparison answers
pub mod KindLaws  -- the entries of a kept order's weight
pub mod TotalLaws  -- comparisons are total, and products keep them
