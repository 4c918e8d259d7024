pub mod Widening  -- polynomials in one more variable, and in one less
pub mod Marks  -- which variables occur in the marks of a basis
pub mod Graded  -- grades, which variables are enough, bases and division
pub mod Units  -- variables as polynomials
pub mod OneTerm  -- polynomials of one term as they are kept, and marks that are 1
pub mod Proposals  -- vectors that are proposed, and what runs start from
pub mod Chains  -- saturations by one variable after another
pub mod Saturating  -- what a saturation is answered with, the sets on the way, refusals
pub use Rattle.gf_buchberger.specs.Tasks
pub use Rattle.gf_buchberger.specs.Bases
