pub mod RowsLaws  -- rows as they are made
mod ListingLaws  -- ascending lists of vectors
mod NarrowLaws  -- a dot product, one entry further, and the size of its partial sums
pub mod SmallLaws  -- vectors with small entries
pub mod AnswerLaws  -- what an answer about a normal tells
pub mod CrossingLaws  -- normals that a flip may cross, shown or refuted without their systems
mod SpanLaws  -- what shows that a normal is in the cone of other vectors
pub mod RegionLaws  -- regions of weights, the sign at a root, cones in a region
