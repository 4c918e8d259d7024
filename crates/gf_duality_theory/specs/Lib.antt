pub mod Rays  -- cones by rows; rays and lineality vectors that generate them
pub mod Generators  -- what is generated, as a relation; what holds after each row
pub mod Combining  -- sums and differences of multiples of two vectors, and their operations
pub mod Elimination  -- elimination, echelon bases, null spaces, and their operations
pub mod Straightening  -- vectors brought along others
pub mod Faces  -- faces, interior points, facets
pub mod Laws  -- what functions of this crate name
