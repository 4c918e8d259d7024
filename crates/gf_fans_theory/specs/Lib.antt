pub mod Dimension  -- the dimension of what vectors span
pub mod FaceLists  -- faces of a cone by the lists of their rays
pub mod Heights  -- all faces by numbers, and their dimensions by what is inside what
pub mod Fans  -- fans of cones
pub mod Separating  -- rows that keep two cones apart but for the rays that they share
pub mod Laws  -- the theorems that functions of this crate name
