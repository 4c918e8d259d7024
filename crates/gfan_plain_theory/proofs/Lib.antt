pub mod PlainReadLaws  -- what is read of monomials and differences of two, written without numbers
pub mod PlainTexts  -- texts that are written so
pub mod PlainToolLaws  -- what saturations, cones and tests do with them
pub mod PlainListLaws  -- what a list does with them
pub mod PlainLaws  -- no command on them reports the overflow of a coefficient
pub use Rattle.gfan_generated.proofs.SummaryLaws
pub use Rattle.gfan_lists.proofs.ListCommandLaws
pub use Rattle.gfan_lists.proofs.TextsLaws
pub use Rattle.gfan_lists.proofs.PastLaws
pub use Rattle.gfan_fans.proofs.GroebnerConeLaws
pub use Rattle.gfan_fans.proofs.ToPolyhedralFanLaws
pub use Rattle.gfan_fans.proofs.HomogeneitySpaceLaws
pub use Rattle.gfan_fans.proofs.TropicalLaws
pub use Rattle.gfan_fans.proofs.BasisTestLaws
pub use Rattle.gfan_fans.proofs.CommonRefinementLaws
pub use Rattle.gfan_fans.proofs.MigrateFanLaws
pub use Rattle.gfan_sets.proofs.WeightVectorLaws
pub use Rattle.gfan_sets.proofs.ToolLaws
pub use Rattle.gfan_sets.proofs.ExactLaws
pub use Rattle.gfan_sets.proofs.SaturationLaws
