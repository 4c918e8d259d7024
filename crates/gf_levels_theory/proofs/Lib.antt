pub mod PartLaws  -- the parts of one cone on which points are highest
pub mod LevelLaws  -- levels of two lists, of parts that hold others, and as cuts
pub mod ProductLaws  -- products with what generates a cone
pub mod VertexPoints  -- the points of vertices, and the cones of these
mod PatternLevels  -- the fan of polynomials, cut by one more
mod LawsHold  -- what functions of this crate name
