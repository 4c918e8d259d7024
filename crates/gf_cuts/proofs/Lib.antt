pub mod BelowLaws  -- lists of numbers none of which is above that of another list, and thinned lists of indices
pub mod HeightLaws  -- products with what generates a cone, and points that are nowhere above another one on it
pub mod AboveLaws  -- rows that say that one point is above others
pub mod MarkLaws  -- marks of indices where two lists are the same
pub mod TieLaws  -- which points are as high as the highest one, and where, as marks show
pub mod TiedLaws  -- the part of a cone on which two points are equally high, by its rays
pub mod LevelLaws  -- the parts of one cone in one list, and the levels of several cones
pub mod LoopLaws  -- lists made in loops, one element further
pub mod OuterLaws  -- cones that hold others
pub mod DrawnLaws  -- parts of cones whose rows are those of the cones, and differences of points
