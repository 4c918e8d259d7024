pub mod Ways  -- which normals lead up, and the least of them
pub mod Remembered  -- what a cone remembers of its normals
