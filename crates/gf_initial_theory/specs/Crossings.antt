-- Two bases on the two sides of a facet, and what their leading monomials have to do with its normal.
-- Laws: proofs/CrossingLaws.antt. Source: Fukuda, Jensen, Thomas, Computing Gröbner fans, 4.
use Rattle.std.specs.Prelude.{◌≡◌, ◌↔◌, ℕ, false, List, Contains, ℤ}
use Rattle.gf_exponents_theory.specs.Exponents.{Exponents, same}
use Rattle.gf_poly.specs.Polynomial.{Terms}
use Rattle.gf_poly.specs.Marking.{MarkedPolynomial}
use Rattle.gf_ideal_theory.specs.Membership.{HasMonomial, AreInVariables}
use Rattle.gf_ideal_theory.specs.Reduction.{IsDivisible}
use Rattle.gf_ideal_theory.specs.Bases.{IsBasis, HasReducedTails}
use Rattle.gf_facets_theory.specs.Beyond.{IsStepsFrom}

-- the two have the same leading monomials
abbrev pub LeadAlike : List MarkedPolynomial → List MarkedPolynomial → Type 0
LeadAlike bs cs = (x : Exponents) → IsDivisible (Contains bs) x ↔ IsDivisible (Contains cs) x

-- one ideal with two bases: the one lies below its marks by multiples of a and leads as bs does, the other above its
-- marks and leads as cs does
pub record HaveParts (n : ℕ) (a : List ℤ) (bs cs : List MarkedPolynomial) : Type 0 where
  pub ideal : List Terms
  pub variables : AreInVariables n ideal
  pub here : List MarkedPolynomial
  pub there : List MarkedPolynomial
  pub basis_here : IsBasis n ideal here
  pub basis_there : IsBasis n ideal there
  pub reduced : HasReducedTails here
  pub below : (p : MarkedPolynomial) → Contains here p → (x : Exponents) → HasMonomial p.poly x → (k : ℕ) × IsStepsFrom k a x p.head
  pub above : (p : MarkedPolynomial) → Contains there p → (x : Exponents) → HasMonomial p.poly x → (k : ℕ) × IsStepsFrom k a p.head x
  pub lead_here : LeadAlike here bs
  pub lead_there : LeadAlike there cs
  pub within : (p : MarkedPolynomial) → Contains here p → (x : Exponents) → HasMonomial p.poly x → (b : MarkedPolynomial) × Contains bs b × HasMonomial b.poly x
  pub member : MarkedPolynomial
  pub contained : Contains here member
  pub other : Exponents
  pub has_other : HasMonomial member.poly other
  pub unmarked : same other member.head ≡ false
