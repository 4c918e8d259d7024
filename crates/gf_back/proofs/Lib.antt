-- Laws of this crate.
pub mod BackLaws  -- the way back across a facet
