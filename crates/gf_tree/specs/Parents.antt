-- The parent of a basis in the tree of the bases of its ideal, and the root of that tree. Laws: proofs/ParentLaws.antt.
-- Source: Fukuda, Jensen, Thomas, Computing Gröbner fans, 3.
use Rattle.std.specs.Prelude.{◌≡◌, List, ℤ, Option, Some, None}
use Rattle.gf_exponents_theory.specs.Orders.{gains, IsWeightedBelow}
use Rattle.gf_poly.specs.Marking.{MarkedPolynomials, polys}
use Rattle.gf_ideal_theory.specs.Bases.{IsReducedBasisFor}
use Rattle.gf_reverse_search.specs.Path.{IsRoot}
use Rattle.gf_reverse_search.specs.Tree.{IsChildOf}
use Rattle.gf_facets_theory.specs.Regions.{Region, all_positive}
use Rattle.gf_facets_theory.specs.Neighbours.{AreAdjacent}
use Rattle.gf_reverse_theory.specs.Upward.{Fan, IsNodeIn, IsNode, IsWayUp, IsParent, LeadsUp, fan_of}
use Rattle.gf_cone.specs.Cones.{ConeRows, IsConeOf}
use Rattle.gf_reverse_theory.specs.Answers.{IsAcross}
use Rattle.gf_tree.specs.declared.above.Parent.{Parent}
use Rattle.gf_tree.specs.declared.above.Parent.TheVariants.{Root, Up}

-- the ideal of a basis, with the region of all positive weights
abbrev pub ideal_of : MarkedPolynomials → Fan
ideal_of v = fan_of (all_positive v.variables) v

-- root: no flippable normal is negative at the root of the region. Up: a is the least such normal, and u is the basis across its facet
abbrev pub IsParentTold : Region → MarkedPolynomials → Parent → Type 0
IsParentTold k v Root = (a : List ℤ) → LeadsUp v.variables k v.items a → ⊥
IsParentTold k v (Up a u) = IsWayUp v.variables k v.items a × IsNodeIn (fan_of k v) u × AreAdjacent v.variables (polys v.items) k v.items a u.items

-- some basis: it is the neighbour of u across the facet with normal a. None: no basis is a child of u across this facet
abbrev pub IsBelowTold : Region → MarkedPolynomials → List ℤ → Option MarkedPolynomials → Type 0
IsBelowTold k u a (Some w) = IsAcross k u a (Some w)
IsBelowTold k u a None = IsChildOf (IsParent k) u a None

-- some basis: it is w, and a is the way up from w. None: a isn't the way up from w
abbrev pub IsLedBack : Region → MarkedPolynomials → List ℤ → Option MarkedPolynomials → Type 0
IsLedBack k w a (Some v) = (v ≡ w) × IsWayUp w.variables k w.items a
IsLedBack k w a None = IsWayUp w.variables k w.items a → ⊥

-- v is the reduced basis of its ideal for the root of the region, ties broken by lex
abbrev pub IsRootBasis : Region → MarkedPolynomials → Type 0
IsRootBasis k v = IsReducedBasisFor v.variables (polys v.items) (IsWeightedBelow (gains k.root)) v.items

-- u is the root of the tree of the bases of the ideal of v in the region
pub record IsRootFor (k : Region) (v u : MarkedPolynomials) : Type 0 where
  pub basis : IsNodeIn (fan_of k v) u
  pub own : IsNode k u
  pub is_root : IsRoot (IsParent k) u
  pub by_root : IsRootBasis k u

-- c is the cone of v in some region
abbrev pub IsSomeCone : MarkedPolynomials → ConeRows → Type 0
IsSomeCone v c = (k : Region) × IsConeOf v.variables k v.items c
