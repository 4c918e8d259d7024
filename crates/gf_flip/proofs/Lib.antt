pub mod SmallNormals  -- normals within the limit
pub mod RefusalSteps  -- refusals are operations of the flip
pub mod AloneLaws  -- members of which one term is along the vector
pub mod ChosenLaws  -- lifts of chosen members, one after another
pub mod PartJobs  -- what a run on the parts asks for
pub mod FlipSteps  -- the steps of a flip
pub mod StartLaws  -- what a run on the parts begins with
pub mod RunSteps  -- the run on the parts, and the lifts of what it leads to
pub mod ReachedLaws  -- bases that a walk reaches
pub use Rattle.gf_buchberger.proofs.TaskLaws
