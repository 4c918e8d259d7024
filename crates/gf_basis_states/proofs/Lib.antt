-- Laws of this crate.
pub mod CrossableLaws  -- the list of the normals that a flip may cross
pub mod PromptLaws  -- the lines of facets
pub mod StepLaws  -- across a facet and back
pub mod TrailLaws  -- where lines lead, and what is told, is one
