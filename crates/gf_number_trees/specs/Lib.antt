pub mod NumberTree  -- the tree: halves, and that it is one
pub mod Finite  -- the tree is finite
