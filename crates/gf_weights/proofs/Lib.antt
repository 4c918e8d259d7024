pub mod CutLaws  -- the cut cone, and its rays
mod CrossLaws  -- facets that a flip may cross, by rays
pub mod WeightLaws  -- printed weights and witnesses
pub mod UniqueLaws  -- there is one of each
mod RefusalLaws  -- what a refusal says
mod FacetLoop  -- the loop over normals, one index further
pub mod RaysExist  -- a cone that is cut has its rays, and a marked list its normals
pub mod WitnessesExist  -- and its weight and witnesses
mod LawsHold  -- what functions of this crate name
pub mod RootLaws  -- the region that rows cut out: its root is in it; why there is none
pub mod RegionLaws  -- there is one at most
mod RegionWithin  -- one that stays within all limits
