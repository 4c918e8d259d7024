pub mod Ways  -- in which ways a list may be asked for
pub mod Certificates  -- the item of a basis in the list, with certificates or without
pub mod Bases  -- the text of the list of `_bases`, and why it is refused
pub mod Within  -- the region of a file, and the root in it
pub mod GivenBasis  -- the root above a marked Gröbner basis
pub mod After  -- the basis after which a list continues
pub mod ListCommand  -- the command `_bases`
pub mod Asked  -- what is read for a list, as the code has it
pub mod BasesWriting  -- the writing of the list of `_bases`
pub mod Ahead  -- bases that are taken out of a list before they are written
pub use Rattle.gf_tree.specs.Parents
pub use Rattle.gf_tree.specs.TreeError
pub use Rattle.gf_tree.specs.Ideals
pub use Rattle.gf_lists_theory.specs.Starts
pub use Rattle.gf_tree.specs.Refusals
