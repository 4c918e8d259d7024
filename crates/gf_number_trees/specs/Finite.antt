-- The tree of the numbers is finite.
use Rattle.std.proofs.Common.{◌≡◌, ℕ, ◌/◌, ◌%◌, ◌<◌, ◌⊎◌, List, [], ◌∷◌, length, arith, inl, inr, sym, ◌∙◌, zero, suc}
use Rattle.std.proofs.lemmas.Bool.{cases_order}
use Rattle.gf_reverse_search.specs.Listing.{Among}
use Rattle.gf_reverse_search.specs.Path.{IsRoot}
use Rattle.gf_reverse_search.specs.Whole.{Parent, IsFinite}
use Rattle.gf_reverse_search.proofs.FinitenessLaws.{finite_tree}
use Rattle.gf_number_trees.specs.NumberTree.{IsNumber, IsHalf, numbers_strict, numbers_tree, numbers_nodes}

-- a number is below its half
pub numbers_fall : (limit v c u : ℕ) → IsHalf limit v c u → u < v
numbers_fall limit v c u h = (let e = h.whole in let x = h.some in omega arith)

climbs : (limit v : ℕ) → IsNumber limit v → Parent (IsHalf limit) v ⊎ IsRoot (IsHalf limit) v
climbs limit v n = elim (cases_order v 1) [
  | inl e ↦ inr (λ c u h. let f = h.whole in let x = h.some in omega arith)
  | inr k ↦ elim k [
    | inl h ↦ absurd (let x = n.0 in omega arith)
    | inr h ↦ inl (record { label = v % 2; node = v / 2; is = record { some = omega arith; inside = n.1; bit = omega arith; whole = omega arith } })
  ]
]

root_is_one : (limit a : ℕ) → IsNumber limit a → IsRoot (IsHalf limit) a → a ≡ 1
root_is_one limit a n r = elim (cases_order a 1) [
  | inl e ↦ e
  | inr k ↦ elim k [
    | inl h ↦ absurd (let x = n.0 in omega arith)
    | inr h ↦ absurd (r (a % 2) (a / 2) (record { some = omega arith; inside = n.1; bit = omega arith; whole = omega arith }))
  ]
]

-- the numbers from n down to 1
abbrev pub down_to_one : ℕ → List ℕ
down_to_one zero = []
down_to_one (suc n) = suc n ∷ down_to_one n

among_number : (n x : ℕ) → Among (down_to_one n) x → IsNumber n x
among_number zero x j = absurd j
among_number (suc n) x (inl e) = (omega arith, omega arith)
among_number (suc n) x (inr j) = (let p = among_number n x j in (p.0, (let q = p.1 in omega arith)))

number_among : (n x : ℕ) → IsNumber n x → Among (down_to_one n) x
number_among zero x p = absurd (let a = p.0 in let b = p.1 in omega arith)
number_among (suc n) x p = elim (cases_order x (suc n)) [
  | inl e ↦ inl (sym e)
  | inr k ↦ elim k [
    | inl h ↦ inr (number_among n x (p.0, omega arith))
    | inr h ↦ absurd (let b = p.1 in omega arith)
  ]
]

-- what is below a number can be listed
pub numbers_finite : (limit top : ℕ) → IsNumber limit top → IsFinite {N = ℕ} {L = ℕ} (λ a b. a < b) (IsHalf limit) top (length (down_to_one limit))
numbers_finite limit top node = finite_tree (IsHalf limit) (IsNumber limit) (λ v c u h n. (numbers_nodes limit v c u h).0)
    (λ v c u h n. (numbers_nodes limit v c u h).1) (λ v. v) (λ v c u n h. numbers_fall limit v c u h) (climbs limit) (λ a b. a < b) numbers_strict
    (numbers_tree limit)
    (down_to_one limit) (number_among limit) (among_number limit) (λ a b n r m s. root_is_one limit a n r ∙ sym (root_is_one limit b m s)) top node
