pub mod Rows  -- rows and normals of a marked list
pub mod Systems  -- unit vectors; the system of a marked list
pub mod LexPositive  -- vectors whose first nonzero entry is positive; the order of vectors
pub mod LinearMaps  -- linear maps of vectors
pub mod Regions  -- regions of positive vectors
pub mod Normals  -- the normals of a marked list in ascending order
pub mod Combinations  -- a multiple of a vector as a combination of others
pub mod Facets  -- closed and open cone, facets, and those that a flip may cross
pub mod Beyond  -- monomials that are further along a vector
pub mod MarkedBases  -- the marked reduced Gröbner bases of an ideal
pub mod InitialIdeals  -- initial ideals, and where monomials generate them
pub mod Neighbours  -- the two bases on both sides of a facet
pub mod Laws  -- the theorems that functions of this crate name
pub use Rattle.gf_gordan.specs.Alternative
