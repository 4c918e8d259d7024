pub mod Weights  -- the printed weight, and the printed witness of a facet
pub mod Cuts  -- the intersection of a cone with a region, as a program keeps it
pub mod Refusals  -- why they can't be computed
pub mod Laws  -- the theorems that functions of this crate name
pub mod Roots  -- the region of weights that rows cut out, and its root
