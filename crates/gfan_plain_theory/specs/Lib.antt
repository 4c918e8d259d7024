pub mod PlainInputs  -- inputs that are written as monomials and differences of two monomials
pub mod PlainLaws  -- what no command on such inputs reports
pub use Rattle.gfan_generated.specs.Generated
pub use Rattle.gfan_lists.specs.declared.bases.ListOptions
pub use Rattle.gfan_lists.specs.Ways
pub use Rattle.gfan_lists.specs.ListCommand
pub use Rattle.gfan_lists.specs.Asked
pub use Rattle.gfan_fans.specs.GroebnerCone
pub use Rattle.gfan_fans.specs.ToPolyhedralFan
pub use Rattle.gfan_fans.specs.HomogeneitySpace
pub use Rattle.gfan_fans.specs.declared.tropical.TropicalFan
pub use Rattle.gfan_fans.specs.Tropical
pub use Rattle.gfan_fans.specs.BasisTest
pub use Rattle.gfan_fans.specs.CommonRefinement
pub use Rattle.gfan_fans.specs.MigrateFan
pub use Rattle.gfan_sets.specs.Buchberger
pub use Rattle.gfan_sets.specs.Marked
pub use Rattle.gfan_sets.specs.Containment
pub use Rattle.gfan_sets.specs.LeadingTerms
pub use Rattle.gfan_sets.specs.MarkPolynomialSet
pub use Rattle.gfan_sets.specs.InitialForms
pub use Rattle.gfan_sets.specs.Homogenize
pub use Rattle.gfan_sets.specs.PolynomialSetUnion
pub use Rattle.gfan_sets.specs.Stats
pub use Rattle.gfan_sets.specs.WeightVector
pub use Rattle.gfan_sets.specs.Saturation
