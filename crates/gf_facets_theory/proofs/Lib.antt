pub mod VectorLaws  -- vectors by their entries; negatives
pub mod PrimitiveLaws  -- primitive vectors, primitive parts
pub mod WholeLaws  -- whole weights, strict comparisons
pub mod RegionLaws  -- weights past a facet
pub mod RowLaws  -- rows and monomials
pub mod NormalLaws  -- normals and monomials; vectors inside a facet
pub mod ConeLaws  -- the closed and the open cone by rows and by normals
pub mod UnitLaws  -- unit vectors
pub mod SystemLaws  -- positive weights are the solutions of a system
pub mod LexPositiveLaws  -- lex-positive vectors: sums, multiples, combinations
pub mod PointsByLex  -- points by a linear map with lex-positive values
pub mod VectorOrder  -- the order of vectors
pub mod AscendingLaws  -- ascending lists of vectors
pub mod RootSignLaws  -- the root sign of a program
pub mod NormalListLaws  -- the list of the normals; the others of one
pub mod FacetSystems  -- facet or combination, flippable or combination
pub mod TurningLaws  -- which normals are crossed first on the way to a vector
pub mod FirstLaws  -- the normal that is crossed first is one of a facet
pub mod FacetConeLaws  -- the facets alone define the cone
pub mod LawsHold  -- the theorems of specs/Laws.antt
pub use Rattle.gf_ideal_theory.proofs.ListLaws
