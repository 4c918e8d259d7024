pub mod ToldConeLaws  -- what is told of a cone, and that only numbers keep it from being told
pub mod GroebnerConeLaws  -- what `_groebnercone` answers, and why it doesn't
pub mod FanTextLaws  -- why cones have no fan
pub mod ToPolyhedralFanLaws  -- the fan of the cones of marked sets
pub mod HomogeneitySpaceLaws  -- the homogeneity space of a set
pub mod TropicalLaws  -- the fans of polynomials
pub mod FanFileLaws  -- what a fan file says within limits, and what is refused of it exactly
pub mod CommonRefinementLaws  -- the common refinement of the fans of two texts
pub mod MigrateFanLaws  -- the fan of a text, in the version 2
pub mod BasisTestLaws  -- whether polynomials are a tropical basis, and why that is not told
pub use Rattle.gf_initial_monomials.proofs.OutcomeLaws
pub use Rattle.gf_tropical_basis_test.proofs.LawsHold
pub use Rattle.gf_tropical_basis_test.proofs.CheckLaws
