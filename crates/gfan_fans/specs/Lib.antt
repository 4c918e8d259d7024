pub mod FanTexts  -- why there is no fan, as a refusal of the run
pub mod ToPolyhedralFan  -- the input and output of `_topolyhedralfan`
pub mod HomogeneitySpace  -- the input and output of `_homogeneityspace`
pub mod Tropical  -- the input and output of `_tropicalhypersurface`, `_tropicalintersection` and `_minkowskisum`
pub mod BasisTest  -- the input and output of `_tropicalintersection --basistest`
pub mod ToldCones  -- the descriptions of cones by `_groebnercone`
pub mod GroebnerCone  -- the input and output of `_groebnercone`
pub mod CommonRefinement  -- the input and output of `_fancommonrefinement`
pub mod MigrateFan  -- the input and output of `_migratefan`
pub use Rattle.gf_tropical_basis_test.specs.declared.error.BasisTestError
pub use Rattle.gf_tropical_basis_test.specs.Refusals
pub use Rattle.gf_tropical.specs.declared.error.TropicalError
pub use Rattle.gf_initial_monomials.specs.declared.error.InitialError
pub use Rattle.gf_tropical_basis_test.specs.Written
pub use Rattle.gf_tropical_basis_test.specs.Sets
