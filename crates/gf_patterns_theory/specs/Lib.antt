pub mod Refinements  -- the faces of cones, the common refinement of two fans, lists of cones with the same faces
pub mod Interiors  -- relative interiors, told without rows
pub mod Patterns  -- the terms of greatest weight, and the closed cones of vectors with them
pub mod PatternRows  -- the cones of one or two exponents by rows
pub mod Vertices  -- points that are alone the highest somewhere, and the cones of these
pub mod Cuts  -- parts of cones by a second list, which cover what both share
pub mod PatternFans  -- lists of cones whose faces are a prevariety or a Minkowski fan
pub mod Laws  -- the theorems that functions of this crate name
