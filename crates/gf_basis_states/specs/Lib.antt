-- What the contracts of this crate cite.
pub mod Crossable  -- the normals that a flip may cross, as a list
pub mod Prompts  -- what is printed for a basis
pub mod BasisRules  -- bases as states
pub mod Trails  -- the bases to which lines lead, and what is printed on the way
