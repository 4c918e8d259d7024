pub mod Levels  -- cones cut by all points of a polynomial at once
pub mod Parts  -- the parts of one cone on which a point is highest
pub mod Generators  -- what generates a cone without lines, and cones that hold others
pub mod VertexPoints  -- the points of the vertices of a polynomial alone
pub mod Laws  -- the theorems that functions of this crate name
