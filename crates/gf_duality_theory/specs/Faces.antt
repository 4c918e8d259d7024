-- Faces of cones, their interior points, facets.
use Rattle.std.specs.Prelude.{◌≡◌, ℕ, List, [], ◌∷◌, ◌++◌, ℤ, pos, ◌<ℤ◌, ◌⊎◌, length, All, Any, AllPairs, ◌↔◌, Contains, replicate}
use Rattle.std.specs.Ordering.{int_cmp}
use Rattle.std.specs.Cmp.Lexicographic.{slice_cmp}
use Rattle.std.specs.declared.cmp.Ordering.TheVariants.{Less}
use Rattle.gf_int_theory.specs.Content.{IsPrimitive}
use Rattle.gf_vec.specs.Vector.{dot, combined}
use Rattle.gf_gordan.specs.Alternative.{AreRows}
use Rattle.gf_duality_theory.specs.Rays.{Satisfies, IsRays}

-- a cone by its rows
pub record Rows : Type 0 where
  pub inequalities : List (List ℤ)
  pub equations : List (List ℤ)

-- v satisfies the rows
abbrev pub IsInCone : Rows → List ℤ → Type 0
IsInCone c v = Satisfies c.inequalities c.equations v

-- the same vectors of n entries are in both
abbrev pub SameCone : ℕ → Rows → Rows → Type 0
SameCone n c d = (v : List ℤ) → length v ≡ n → IsInCone c v ↔ IsInCone d v

-- the part of a cone on which these rows are zero
abbrev pub part : Rows → List (List ℤ) → Rows
part c zero = record { inequalities = c.inequalities; equations = c.equations ++ zero }

-- a face of a cone: its part on which some of its inequalities, perhaps none, are zero
abbrev pub IsFaceOf : ℕ → Rows → Rows → Type 0
IsFaceOf n f c = (zero : List (List ℤ)) × (All (Contains c.inequalities) zero × SameCone n f (part c zero))

-- the sum of vectors of n entries
abbrev pub sum_of : ℕ → List (List ℤ) → List ℤ
sum_of n rays = combined n (replicate (length rays) (pos 1)) rays

-- v is in the cone, and each inequality is positive there or zero on the whole cone
pub record IsInterior (n : ℕ) (c : Rows) (v : List ℤ) : Type 0 where
  pub width : length v ≡ n
  pub inside : IsInCone c v
  pub positive : All (λ h. (pos 0 <ℤ dot h v) ⊎ ((x : List ℤ) → length x ≡ n → IsInCone c x → dot h x ≡ pos 0)) c.inequalities

-- t is positive somewhere on the cone, and a row that is zero wherever t is on it, is zero on the cone or nowhere else
pub record IsFacetRow (n : ℕ) (c : Rows) (t : List ℤ) : Type 0 where
  pub listed : Contains c.inequalities t
  pub proper : (x : List ℤ) × ((length x ≡ n) × IsInCone c x × (pos 0 <ℤ dot t x))
  pub greatest : (s x : List ℤ) → Contains c.inequalities s → length x ≡ n → IsInCone c x → pos 0 <ℤ dot s x →
      ((y : List ℤ) → length y ≡ n → IsInCone c y → dot t y ≡ pos 0 → dot s y ≡ pos 0) → (y : List ℤ) → length y ≡ n → IsInCone c y → dot s y ≡ pos 0 →
      dot t y ≡ pos 0

-- for each facet the least row that defines it, ascending
pub record AreFacetRows (n : ℕ) (c : Rows) (rows : List (List ℤ)) : Type 0 where
  pub each : All (IsFacetRow n c) rows
  pub every : (t : List ℤ) → IsFacetRow n c t → Any (λ s. SameCone n (part c (s ∷ [])) (part c (t ∷ [])) × (slice_cmp int_cmp t s ≡ Less → ⊥)) rows
  pub ascending : AllPairs (λ s t. slice_cmp int_cmp s t ≡ Less) rows
  pub once : AllPairs (λ s t. SameCone n (part c (s ∷ [])) (part c (t ∷ [])) → ⊥) rows

-- ---- cones of inequalities alone

-- the cone on which these rows aren't negative
abbrev pub cone_of : List (List ℤ) → Rows
cone_of rows = record { inequalities = rows; equations = [] }

-- v is a witness of the row a: a is zero there, and all other rows are positive
pub record IsWitness (n : ℕ) (rows : List (List ℤ)) (a v : List ℤ) : Type 0 where
  pub width : length v ≡ n
  pub zero : dot a v ≡ pos 0
  pub others : (b : List ℤ) → Contains rows b → (b ≡ a) ⊎ (pos 0 <ℤ dot b v)

-- part has the rays on which t is zero
pub record IsPartAt (rays : List (List ℤ)) (t : List ℤ) (part : List (List ℤ)) : Type 0 where
  pub each : (x : List ℤ) → Contains part x → Contains rays x × (dot t x ≡ pos 0)
  pub every : (x : List ℤ) → Contains rays x → dot t x ≡ pos 0 → Contains part x

-- rows on which w is positive, each primitive, and the rays of their cone
pub record IsOfFullDimension (n : ℕ) (rows lin rays : List (List ℤ)) (w : List ℤ) : Type 0 where
  pub rows_width : AreRows n rows
  pub primitive : All IsPrimitive rows
  pub width : length w ≡ n
  pub inside : (h : List ℤ) → Contains rows h → pos 0 <ℤ dot h w
  pub are_rays : IsRays n rows [] lin rays
