pub mod Heights  -- products of points with what generates a cone, and points that are nowhere above another one, or as high as one
pub mod Drawn  -- by which rows the parts of cones are cut out
