pub mod Tests  -- vectors at which the initial ideal has no polynomial with a single term, and how they are tested
pub mod TropicalBases  -- the theorems on tropical bases that functions of this crate name
pub mod Passing  -- vectors that passed at one basis pass at each other one
pub mod Verdicts  -- what a verdict says, and the first vector that fails
pub mod Refusals  -- why there is no verdict
pub mod Starts  -- the basis at which the search starts
pub mod Limits  -- when the only possible error is that memory runs out
pub mod Laws  -- the theorem that a function of this crate names
pub use Rattle.gf_tree.specs.TreeError
pub use Rattle.gf_binomial_calls_theory.specs.Written
pub use Rattle.gf_binomial_calls_theory.specs.Sets
