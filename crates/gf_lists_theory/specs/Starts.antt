-- The basis at which the list of all bases of an ideal starts. Laws: proofs/BasesListLaws.antt.
use Rattle.std.specs.Prelude.{ℕ, List}
use Rattle.gf_exponents_theory.specs.SixOrders.{MonomialOrder}
use Rattle.gf_exponents_theory.specs.Orders.{gains, IsWeightedBelow}
use Rattle.gf_poly.specs.Polynomial.{Terms}
use Rattle.gf_poly.specs.Marking.{MarkedPolynomials}
use Rattle.gf_ideal_theory.specs.Membership.{AreInVariables}
use Rattle.gf_ideal_theory.specs.Bases.{IsReducedBasisFor}
use Rattle.gf_buchberger.specs.Bases.{IsArrangedBasis}
use Rattle.gf_facets_theory.specs.Regions.{Region}
use Rattle.gf_reverse_theory.specs.Upward.{IsNodeIn}
use Rattle.gf_tree.specs.Ideals.{ideal_within}

-- root is the basis at which the list starts
abbrev pub IsFirstBasis : ℕ → List Terms → MarkedPolynomials → Type 0
IsFirstBasis n fs root = IsArrangedBasis MonomialOrder.deglex n fs root

-- the list of the ideal of fs in n variables starts at root
pub record StartsAt (n : ℕ) (fs : List Terms) (root : MarkedPolynomials) : Type 0 where
  pub inside : AreInVariables n fs
  pub first : IsFirstBasis n fs root

-- the list of the ideal of fs in n variables and in a region starts at root: the basis for the root of the region, ties broken by lex
pub record StartsIn (n : ℕ) (k : Region) (fs : List Terms) (root : MarkedPolynomials) : Type 0 where
  pub node : IsNodeIn (ideal_within n fs k) root
  pub by_root : IsReducedBasisFor n fs (IsWeightedBelow (gains k.root)) root.items
