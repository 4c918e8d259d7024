-- Unit vectors: what they give, and which vectors they are positive on.
-- To cite: length-unit, dot-unit, unit_of, unit_there, units_wide, units_on_positive, positive_by_units.
use Rattle.std.proofs.Common.{◌≡◌, ℕ, zero, suc, ◌<◌, List, [], ◌∷◌, ◌++◌, length, Contains, All, ℤ, pos, ◌+ℤ◌, ◌*ℤ◌, ◌<ℤ◌, arith, refl, sym, ap, ◌∙◌, subst}
use Rattle.std.proofs.Common.{inl, inr, get_or}
use Rattle.std.proofs.lemmas.Bool.{cases_lt}
use Rattle.std.proofs.lemmas.Int.{ints}
use Rattle.std.proofs.lemmas.List.{get_or_default}
use Rattle.std.proofs.lemmas.List.Elements.{Contains-append_left, Contains-append_right, Contains-append_cases}
use Rattle.gf_int_theory.proofs.ListLaws.{Contains-here}
use Rattle.gf_vec.specs.Vector.{dot}
use Rattle.gf_vec.proofs.VectorLaws.{dot-zeros, length-zeros}
use Rattle.gf_ideal_theory.proofs.ListLaws.{Contains-cases}
use Rattle.gf_facets_theory.specs.Systems.{unit, units}

pub length-unit : (n i : ℕ) → length (unit n i) ≡ n
length-unit zero i = refl
length-unit (suc n) zero = ap suc (length-zeros n)
length-unit (suc n) (suc i) = ap suc (length-unit n i)

-- on a vector a unit vector gives an entry
pub dot-unit : (n i : ℕ) (v : List ℤ) → i < n → length v ≡ n → dot (unit n i) v ≡ get_or v i (pos 0)
dot-unit zero i v l e = absurd (omega arith)
dot-unit (suc n) i [] l e = absurd (omega arith)
dot-unit (suc n) zero (x ∷ v) l e = ap (λ z. pos 1 *ℤ x +ℤ z) (dot-zeros n v) ∙ omega (arith, ints)
dot-unit (suc n) (suc i) (x ∷ v) l e = omega (arith, ints, dot-unit n i v (omega arith) (omega arith))

-- each of the list is one of them
pub unit_of : (n k : ℕ) (t : List ℤ) → Contains (units n k) t → (i : ℕ) × (i < k) × (t ≡ unit n i)
unit_of n zero t c = absurd (omega (arith, c.1))
unit_of n (suc k) t c = elim (Contains-append_cases (units n k) (unit n k ∷ []) t c) [
  | inl m ↦ (let r = unit_of n k t m in (r.0, omega (arith, r.1), r.2))
  | inr m ↦ elim (Contains-cases (unit n k) t [] m) [ inl e ↦ (k, omega arith, sym e) | inr o ↦ absurd (omega (arith, o.1)) ]
]

-- and each of them is there
pub unit_there : (n k i : ℕ) → i < k → Contains (units n k) (unit n i)
unit_there n zero i l = absurd (omega arith)
unit_there n (suc k) i l = elim (cases_lt i k) [
  | inl s ↦ Contains-append_left (units n k) (unit n k ∷ []) (unit n i) (unit_there n k i s)
  | inr g ↦ (let e : k ≡ i = omega arith in subst (λ (j : ℕ). Contains (units n k ++ unit n k ∷ []) (unit n j)) e
      (Contains-append_right (units n k) (unit n k ∷ []) (unit n k) (Contains-here (unit n k) [])))
]

pub units_wide : (n k : ℕ) (t : List ℤ) → Contains (units n k) t → length t ≡ n
units_wide n k t c = let u = unit_of n k t c in ap (λ (z : List ℤ). length z) u.2 ∙ length-unit n u.0

-- they are positive on positive vectors
pub units_on_positive : (n : ℕ) (v : List ℤ) → length v ≡ n → All (λ x. pos 0 <ℤ x) v → (t : List ℤ) →
    Contains (units n n) t → pos 0 <ℤ dot t v
units_on_positive n v e p t c =
    let u = unit_of n n t c in
    let d : dot t v ≡ get_or v u.0 (pos 0) = ap (λ (z : List ℤ). dot z v) u.2 ∙ dot-unit n u.0 v u.1 e in
    let h : pos 0 <ℤ get_or v u.0 (pos 0) = p u.0 (pos 0) (omega (arith, u.1, e)) in
    omega (arith, ints, d, h)

-- and on no others
pub positive_by_units : (n : ℕ) (v : List ℤ) → length v ≡ n → ((t : List ℤ) → Contains (units n n) t → pos 0 <ℤ dot t v) →
    All (λ x. pos 0 <ℤ x) v
positive_by_units n v e h k d l =
    let p = h (unit n k) (unit_there n n k (omega (arith, l, e))) in
    let u = dot-unit n k v (omega (arith, l, e)) e in
    let w = get_or_default v k (pos 0) d l in
    omega (arith, ints, p, u, w)
