pub mod MatchingLaws  -- lists that match index by index
pub mod PartLaws  -- the parts of a basis are a basis
pub mod InitialLaws  -- the initial ideal; remainders
pub mod LiftLaws  -- what steps of a basis take from a member of the ideal of the parts
pub mod ClassLaws  -- classes of monomials; what the order along a facet marks
pub mod SideLaws  -- the two sides of a facet
pub mod MonomialIdealLaws  -- initial ideals that monomials generate
pub mod LiftedLaws  -- lifts are a basis on the other side
pub mod FlipLaws  -- neighbours: one at most, and what lifts lead to
pub mod NeighbourLaws  -- a neighbour exists across each flippable facet
pub mod CrossingLaws  -- leading monomials on both sides of a facet
pub mod LawsHold  -- the theorems of specs/Laws.antt
pub use Rattle.gf_bases_theory.proofs.FiniteLaws
pub use Rattle.gf_bases_theory.proofs.DifferenceLaws
