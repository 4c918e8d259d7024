pub mod Meeting  -- rows that are zero on a vector, the opposite of a vector, the halves of a meet
pub mod Rank  -- free vectors are no more than any that span them; dimensions
pub mod FaceLaws  -- the rays of a face are those on which its rows are zero
pub mod FaceDimension  -- the dimension of a face is one more than that of its facets
pub mod FanLaws  -- where the meets of cones are faces of them, all faces are a fan
pub mod SameCones  -- faces depend on the cones alone, and not on their rows
pub mod OwnRows  -- the inequalities that are zero on a face give it
pub mod SeparatingLaws  -- rows that keep two cones apart
pub mod Ordered  -- lists that were sorted by a key; ascending numbers
pub mod PartNumbers  -- faces by the numbers of their rays, and their dimensions
pub mod HeightLoops  -- loops over parts and numbers, one further
mod LawsHold  -- what functions of this crate name
