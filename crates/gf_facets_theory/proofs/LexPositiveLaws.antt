-- Lex-positive vectors: sums, multiples, combinations, and that a vector is zero, lex-positive, or the negative of one that
-- is. To cite: lex-zeros, lex-cases, lex-not_both, lex-plus, lex-times, lex-untimes, lex-combined.
use Rattle.std.proofs.Common.{◌≡◌, ℕ, zero, suc, List, [], ◌∷◌, length, ℤ, pos, ◌<ℤ◌, ◌≤ℤ◌, ◌⊎◌, arith, sym, refl, ap, ap₂, ◌∙◌, inl, inr, subst}
use Rattle.std.proofs.lemmas.Int.{ints}
use Rattle.std.specs.List.{AllByRecursion}
use Rattle.gf_int_theory.specs.Content.{scaled}
use Rattle.gf_int_theory.proofs.SignLaws.{IsSigned, sign_of, 0<-*ℤ, 0<-cancel, zero-cancel}
use Rattle.gf_vec.specs.Vector.{vector_sum, zeros, combined, SomePositive}
use Rattle.gf_vec.proofs.VectorLaws.{length-times, length-combined, plus-zeros, zeros-plus}
use Rattle.gf_facets_theory.specs.Rows.{negated}
use Rattle.gf_facets_theory.specs.LexPositive.{IsLexPositive}
use Rattle.gf_facets_theory.proofs.VectorLaws.{times-zero}

-- ---- zeros
pub lex-zeros : (n : ℕ) → IsLexPositive (zeros n) → ⊥
lex-zeros zero x = elim x [ ]
lex-zeros (suc n) (inl h) = absurd (omega (arith, ints, h))
lex-zeros (suc n) (inr h) = lex-zeros n h.1

-- ---- one of three
pub lex-cases : (xs : List ℤ) → (xs ≡ zeros (length xs)) ⊎ (IsLexPositive xs ⊎ IsLexPositive (negated xs))
lex-cases [] = inl refl
lex-cases (x ∷ xs) = elim (sign_of x) [
  | IsSigned.negative h ↦ inr (inr (inl (omega (arith, ints, h))))
  | IsSigned.positive h ↦ inr (inl (inl h))
  | IsSigned.none e ↦ elim (lex-cases xs) [
    | inl z ↦ inl (ap₂ ◌∷◌ e z)
    | inr k ↦ elim k [
      | inl p ↦ inr (inl (inr (e, p)))
      | inr q ↦ inr (inr (inr ((omega (arith, ints, e)), q)))
    ]
  ]
]

-- not both
pub lex-not_both : (xs : List ℤ) → IsLexPositive xs → IsLexPositive (negated xs) → ⊥
lex-not_both [] h k = elim h [ ]
lex-not_both (x ∷ xs) (inl h) (inl k) = absurd (omega (arith, ints, h, k))
lex-not_both (x ∷ xs) (inl h) (inr k) = absurd (let e = k.0 in omega (arith, ints, h, e))
lex-not_both (x ∷ xs) (inr h) (inl k) = absurd (let e = h.0 in omega (arith, ints, e, k))
lex-not_both (x ∷ xs) (inr h) (inr k) = lex-not_both xs h.1 k.1

-- ---- sums and multiples
pub lex-plus : (xs ys : List ℤ) → IsLexPositive xs → IsLexPositive ys → IsLexPositive (vector_sum xs ys)
lex-plus [] ys h k = elim h [ ]
lex-plus (x ∷ xs) [] h k = elim k [ ]
lex-plus (x ∷ xs) (y ∷ ys) (inl h) (inl k) = inl (omega (arith, ints, h, k))
lex-plus (x ∷ xs) (y ∷ ys) (inl h) (inr k) = inl (let e = k.0 in omega (arith, ints, h, e))
lex-plus (x ∷ xs) (y ∷ ys) (inr h) (inl k) = inl (let e = h.0 in omega (arith, ints, e, k))
lex-plus (x ∷ xs) (y ∷ ys) (inr h) (inr k) = inr ((let e = h.0 in let f = k.0 in omega (arith, ints, e, f)), lex-plus xs ys h.1 k.1)

pub lex-times : (k : ℤ) (xs : List ℤ) → pos 0 <ℤ k → IsLexPositive xs → IsLexPositive (scaled k xs)
lex-times k [] p h = elim h [ ]
lex-times k (x ∷ xs) p (inl h) = inl (0<-*ℤ k x p h)
lex-times k (x ∷ xs) p (inr h) = inr ((rw h.0 (omega (arith, ints))), lex-times k xs p h.1)

pub lex-untimes : (k : ℤ) (xs : List ℤ) → pos 0 <ℤ k → IsLexPositive (scaled k xs) → IsLexPositive xs
lex-untimes k [] p h = elim h [ ]
lex-untimes k (x ∷ xs) p (inl h) = inl (0<-cancel k x p h)
lex-untimes k (x ∷ xs) p (inr h) = inr (zero-cancel k x p h.0, lex-untimes k xs p h.1)

-- ---- combinations

-- a combination of lex-positive rows by multipliers that aren't negative is lex-positive, or all multipliers are zero
pub lex-combined : (n : ℕ) (ms : List ℤ) (rows : List (List ℤ)) → length ms ≡ length rows → AllByRecursion (λ t. length t ≡ n) rows →
    AllByRecursion (λ m. pos 0 ≤ℤ m) ms → AllByRecursion IsLexPositive rows →
    IsLexPositive (combined n ms rows) ⊎ ((combined n ms rows ≡ zeros n) × (SomePositive ms → ⊥))
lex-combined n [] [] e w h k = inr (refl, λ s. s)
lex-combined n [] (t ∷ ts) e w h k = absurd (omega arith)
lex-combined n (m ∷ ms) [] e w h k = absurd (omega arith)
lex-combined n (m ∷ ms) (t ∷ ts) e w h k = more (lex-combined n ms ts (omega arith) w.1 h.1 k.1)
  where
    skip : m ≡ pos 0 → vector_sum (scaled m t) (combined n ms ts) ≡ combined n ms ts
    skip z = ap (λ c. vector_sum (scaled c t) (combined n ms ts)) z ∙ ap (λ v. vector_sum v (combined n ms ts)) (times-zero t n w.0) ∙ zeros-plus n
        (combined n ms ts) (length-combined n ms ts w.1)

    more : IsLexPositive (combined n ms ts) ⊎ ((combined n ms ts ≡ zeros n) × (SomePositive ms → ⊥)) →
        IsLexPositive (combined n (m ∷ ms) (t ∷ ts)) ⊎ ((combined n (m ∷ ms) (t ∷ ts) ≡ zeros n) × (SomePositive (m ∷ ms) → ⊥))
    more r = elim (sign_of m) [
      | IsSigned.negative s ↦ absurd (let p : pos 0 ≤ℤ m = h.0 in omega (arith, ints, s, p))
      | IsSigned.none z ↦ elim r [
        | inl p ↦ inl (subst IsLexPositive (sym (skip z)) p)
        | inr q ↦ inr (skip z ∙ q.0, λ s. elim s [ inl a ↦ absurd (omega (arith, ints, a, z)) | inr b ↦ q.1 b ])
      ]
      | IsSigned.positive s ↦ elim r [
        | inl p ↦ inl (lex-plus (scaled m t) (combined n ms ts) (lex-times m t s k.0) p)
        | inr q ↦ inl (subst IsLexPositive (sym (ap (vector_sum (scaled m t)) q.0 ∙ plus-zeros n (scaled m t) (length-times m t ∙ w.0))) (lex-times m t s k.0))
      ]
    ]
