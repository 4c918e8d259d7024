-- What the calls that the tree stands on answer.
use Rattle.std.specs.Prelude.{◌≡◌, ◌⊎◌, List, ℤ, Contains, Option, Some, None}
use Rattle.gf_poly.specs.Marking.{MarkedPolynomials, polys}
use Rattle.gf_facets_theory.specs.Rows.{IsNormal}
use Rattle.gf_facets_theory.specs.Regions.{Region}
use Rattle.gf_facets_theory.specs.Facets.{IsFlippable}
use Rattle.gf_facets_theory.specs.Neighbours.{AreAdjacent}
use Rattle.gf_reverse_theory.specs.Upward.{LeadsUp, IsWayUp}

-- each normal is among these
abbrev pub HasNormals : MarkedPolynomials → List (List ℤ) → Type 0
HasNormals v ns = (a : List ℤ) → IsNormal v.items a → Contains ns a

-- the neighbour across a, or that a is not flippable
abbrev pub IsAcross : Region → MarkedPolynomials → List ℤ → Option MarkedPolynomials → Type 0
IsAcross k v a (Some w) = (w.variables ≡ v.variables) × AreAdjacent v.variables (polys v.items) k v.items a w.items
IsAcross k v a None = IsFlippable v.variables k v.items a → ⊥

-- the way up, or that there is none
abbrev pub IsWayAnswer : Region → MarkedPolynomials → Option (List ℤ) → Type 0
IsWayAnswer k v (Some a) = IsWayUp v.variables k v.items a
IsWayAnswer k v None = (a : List ℤ) → LeadsUp v.variables k v.items a → ⊥

-- a call at v was refused so, or one at a neighbour of v
abbrev pub IsRefusedNear : {E : Type 0} → Region → (MarkedPolynomials → E → Type 0) → MarkedPolynomials → E → Type 0
IsRefusedNear k refuses v e = refuses v e ⊎ ((w : MarkedPolynomials) × (b : List ℤ) × IsAcross k v b (Some w) × refuses w e)
