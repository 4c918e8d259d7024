pub mod TestLaws  -- initial forms decide, one vector of the relative interior serves a face, and the test of all faces decides
pub mod InsideLaws  -- tropical varieties are contained in prevarieties
pub mod MaximalConeLaws  -- the maximal cones of a prevariety are its cones
pub mod IndexLaws  -- the maximal cones of a fan by their indices
pub mod FaceTestLaws  -- what a basis and a cone say of the test of all faces
pub mod WalkLaws  -- the bases one after another
pub mod PassingLaws  -- vectors that passed at one basis pass at each other one
pub mod VerdictLaws  -- the verdict is right
pub mod EndLaws  -- the verdict of the whole
pub mod LimitLaws  -- within limits only memory may be wanting
pub mod MonomialTests  -- one monomial is within them
pub use Rattle.gf_binomial_calls_theory.proofs.LawsHold
pub use Rattle.gf_binomial_calls_theory.proofs.CheckLaws
