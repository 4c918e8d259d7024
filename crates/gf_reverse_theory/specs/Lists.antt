-- The list of all bases of an ideal in a region, in the order of their paths.
-- A path is the list of the normals that are crossed from the root down, each a normal of the upper basis.
-- Laws: proofs/ListLaws.antt.
use Rattle.std.specs.Prelude.{◌≡◌, ◌⊎◌, ◌++◌, ℕ, List, ℤ}
use Rattle.gf_poly.specs.Marking.{MarkedPolynomials}
use Rattle.gf_reverse_search.specs.declared.mark.Mark.{Mark}
use Rattle.gf_reverse_search.specs.declared.mark.Mark.TheVariants.{Listed}
use Rattle.gf_reverse_search.specs.Path.{Leads, IsRoot}
use Rattle.gf_reverse_search.specs.Left.{IsLeft}
use Rattle.gf_reverse_search.specs.Standing.{StandsBelow}
use Rattle.gf_reverse_search.specs.Listing.{Among, Rises, LeadTo}
use Rattle.gf_reverse_search.specs.Whole.{EachOnce}
use Rattle.gf_facets_theory.specs.Regions.{Region}
use Rattle.gf_facets_theory.specs.LexPositive.{IsBefore}
use Rattle.gf_reverse_theory.specs.Upward.{Fan, IsNodeIn, fan_of, IsNode, IsParent}

-- p is the path of v: it leads down from a basis that nothing is above
pub record IsPathOf (k : Region) (v : MarkedPolynomials) (p : List (List ℤ)) : Type 0 where
  pub root : MarkedPolynomials
  pub is_root : IsRoot (IsParent k) root
  pub leads : Leads (IsParent k) root p v

-- exactly the marked reduced Gröbner bases of F, each once, and their paths rise
pub record IsListFor (F : Fan) (nodes : List MarkedPolynomials) : Type 0 where
  pub only : (x : MarkedPolynomials) → Among nodes x → IsNodeIn F x
  pub all : (x : MarkedPolynomials) → IsNodeIn F x → Among nodes x
  pub once : EachOnce nodes
  pub root : MarkedPolynomials
  pub is_root : IsRoot (IsParent F.region) root
  pub paths : List (List (List ℤ))
  pub lead : LeadTo (IsParent F.region) root paths nodes
  pub rises : Rises IsBefore paths

-- the list of the bases of the ideal that v generates
abbrev pub IsListOfBases : Region → MarkedPolynomials → List MarkedPolynomials → Type 0
IsListOfBases k v = IsListFor (fan_of k v)

-- x is left for a walker: its path goes on from that of the walker's top, and is left at the path of the walker's basis
pub record IsLeftBasis (k : Region) (mark : Mark (List ℤ)) (top : List (List ℤ)) (here : List (List ℤ)) (x : MarkedPolynomials) : Type 0 where
  pub rest : List (List ℤ)
  pub path : IsPathOf k x (top ++ rest)
  pub left : IsLeft IsBefore mark here (top ++ rest)

-- the walker answers v: it is left, each other that is left comes after it, and these are what is left then
pub record AnswersBasis (k : Region) (old : Mark (List ℤ)) (top here : List (List ℤ)) (v : MarkedPolynomials) (then : List (List ℤ)) : Type 0 where
  pub answer : IsPathOf k v then
  pub first : IsLeftBasis k old top here v
  pub others : (x : MarkedPolynomials) → IsNodeIn (fan_of k v) x → IsLeftBasis k old top here x → (v ≡ x) ⊎ IsLeftBasis k Listed top then x
  pub stay : (x : MarkedPolynomials) → IsNodeIn (fan_of k v) x → IsLeftBasis k Listed top then x → IsLeftBasis k old top here x

-- a walker at r below a top with the path p answers v, in the words of whole paths
abbrev pub AnswersByPaths : Region → Mark (List ℤ) → MarkedPolynomials → ℕ → MarkedPolynomials → Type 0
AnswersByPaths k old here depth v = (top : MarkedPolynomials) (p r : List (List ℤ)) → StandsBelow (IsParent k) top r here depth → IsNode k top →
    IsPathOf k top p → (then : List (List ℤ)) × AnswersBasis k old p (p ++ r) v then
