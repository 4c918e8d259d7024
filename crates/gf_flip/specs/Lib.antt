pub mod Limits  -- exponents within the limit
pub mod Operations  -- the operations of a flip, and why it is refused
pub mod TreeErrors  -- why a search over bases is refused
pub mod Chosen  -- lifts of chosen members
pub mod Reached  -- bases that a walk reaches
pub use Rattle.gf_lifts.specs.Crossings
pub use Rattle.gf_buchberger.specs.declared.bases.BasisError
pub use Rattle.gf_buchberger.specs.Bases
pub use Rattle.gf_buchberger.specs.Tasks
pub use Rattle.gf_lifts.specs.LiftRefusals
