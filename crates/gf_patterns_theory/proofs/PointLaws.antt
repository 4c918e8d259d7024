-- The points of a polynomial: as many entries as it has variables, all different, at least one where it isn't zero.
use Rattle.std.proofs.Common.{◌≡◌, ◌≢◌, ℕ, suc, List, [], ◌∷◌, length, map, drop, ℤ, pos, arith, sym, refl, ap, ◌∙◌, subst, Contains, inl, inr, All, AllPairs}
use Rattle.std.proofs.lemmas.Int.{ints}
use Rattle.std.proofs.lemmas.List.Elements.{All-contains}
use Rattle.std.proofs.lemmas.List.Kept.{AllPairs-cons}
use Rattle.std.specs.declared.cmp.Ordering.TheVariants.{Greater}
use Rattle.gf_exponents_theory.specs.Exponents.{Exponents}
use Rattle.gf_exponents_theory.specs.Orders.{deglex}
use Rattle.gf_int_theory.proofs.ListLaws.{Contains-here, all_by}
use Rattle.gf_poly.specs.Polynomial.{Terms, HasVariables, IsDescending}
use Rattle.gf_poly.specs.declared.Term.{Term}
use Rattle.gf_poly.proofs.DescendingLaws.{IsAbove-contains, never_greater}
use Rattle.gf_gordan.specs.Alternative.{AreRows}
use Rattle.gf_duality_theory.proofs.ListLaws.{none_in, in_tail, in_cons}
use Rattle.gf_patterns_theory.specs.Patterns.{points, HavePoints}

pub in_points : (f : Terms) (t : Term) → Contains f t → Contains (points f) (map pos t.mono)
in_points [] t k = absurd (none_in t k)
in_points (s ∷ f) t k = elim (in_cons s f t k) [
  | inl e ↦ subst (λ (z : Term). Contains (points (s ∷ f)) (map pos z.mono)) (sym e) (Contains-here (map pos s.mono) (points f))
  | inr i ↦ in_tail (map pos s.mono) (points f) (map pos t.mono) (in_points f t i)
]

pub of_points : (f : Terms) (h : List ℤ) → Contains (points f) h → (t : Term) × (Contains f t × (h ≡ map pos t.mono))
of_points [] h k = absurd (none_in h k)
of_points (t ∷ f) h k = elim (in_cons (map pos t.mono) (points f) h k) [
  | inl e ↦ (t, (Contains-here t f, e))
  | inr i ↦ let r = of_points f h i in (r.0, (in_tail t f r.0 r.1.0, r.1.1))
]

pub length-points : (f : Terms) → length (points f) ≡ length f
length-points [] = refl
length-points (t ∷ f) = ap suc (length-points f)

long_pos : (x : Exponents) → length (map pos x) ≡ length x
long_pos [] = refl
long_pos (a ∷ x) = ap suc (long_pos x)

wide : (n : ℕ) (f : Terms) → HasVariables n f → (h : List ℤ) → Contains (points f) h → length h ≡ n
wide n [] v h k = absurd (none_in h k)
wide n (t ∷ f) v h k = elim (in_cons (map pos t.mono) (points f) h k) [ inl e ↦ ap length e ∙ long_pos t.mono ∙ v.0 | inr i ↦ wide n f v.1 h i ]

pub points_wide : (n : ℕ) (f : Terms) → HasVariables n f → AreRows n (points f)
points_wide n f v = all_by (λ t. length t ≡ n) (points f) (wide n f v)

-- a polynomial that isn't 0 has a point
pub some_point : (f : Terms) → f ≢ [] → (b : List ℤ) × Contains (points f) b
some_point [] h = absurd (h refl)
some_point (t ∷ f) h = (map pos t.mono, Contains-here (map pos t.mono) (points f))

abbrev head_or : List ℤ → ℤ
head_or [] = pos 0
head_or (z ∷ zs) = z

pos_head : (a b : ℕ) (x y : Exponents) → map pos (a ∷ x) ≡ map pos (b ∷ y) → a ≡ b
pos_head a b x y e = let q : pos a ≡ pos b = ap head_or e in omega (arith, ints, q)

-- no two monomials have the same point
pub from_pos : (x y : Exponents) → map pos x ≡ map pos y → x ≡ y
from_pos [] [] e = refl
from_pos [] (b ∷ y) e = absurd (let q : 0 ≡ suc (length (map pos y)) = ap length e in omega (arith, q))
from_pos (a ∷ x) [] e = absurd (let q : suc (length (map pos x)) ≡ 0 = ap length e in omega (arith, q))
from_pos (a ∷ x) (b ∷ y) e = ap (λ z. z ∷ x) (pos_head a b x y e) ∙ ap (λ z. b ∷ z) (from_pos x y (ap (drop 1) e))

-- no two points are the same
pub points_distinct : (f : Terms) → IsDescending f → AllPairs (λ x y. x ≢ y) (points f)
points_distinct [] d = λ i j z l m. absurd (omega (arith, m))
points_distinct (t ∷ f) d = AllPairs-cons (λ (x : List ℤ) (y : List ℤ). x ≢ y) (map pos t.mono) (points f)
    (all_by (λ y. map pos t.mono ≢ y) (points f) (λ y k e. let r = of_points f y k in
    never_greater t.mono (subst (λ z. deglex t.mono z ≡ Greater) (sym (from_pos t.mono r.0.mono (e ∙ r.1.1))) (IsAbove-contains t.mono f r.0 d.1 r.1.0))))
    (points_distinct f d.2)

-- ---- lists of polynomials

-- a list of points is that of a polynomial
pub of_sets : (set : List Terms) (A : List (List ℤ)) → Contains (map points set) A → (f : Terms) × (Contains set f × (A ≡ points f))
of_sets [] A k = absurd (none_in A k)
of_sets (f ∷ set) A k = elim (in_cons (points f) (map points set) A k) [
  | inl e ↦ (f, (Contains-here f set, e))
  | inr i ↦ let r = of_sets set A i in (r.0, (in_tail f set r.0 r.1.0, r.1.1))
]

pub have_points : (set : List Terms) → All (λ f. f ≢ []) set → HavePoints (map points set)
have_points set h A k = let r = of_sets set A k in subst (λ z. (b : List ℤ) × Contains z b) (sym r.1.1)
    (some_point r.0 (All-contains (λ f. f ≢ []) set r.0 h r.1.0))
