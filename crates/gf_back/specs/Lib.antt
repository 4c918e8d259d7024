-- What the contracts of this crate cite.
pub mod Back  -- the two sides of a facet that was crossed, and the way back
