-- The root sign that a program computes is negative exactly where a vector is, in the region of all positive vectors.
-- To cite: dot-ones, first-less, less-first, negative_sign, sign_negative.
use Rattle.std.specs.Ordering.{int_cmp, MatchOrdering}
use Rattle.std.specs.declared.cmp.Ordering.{Ordering}
use Rattle.std.specs.declared.cmp.Ordering.TheVariants.{Less, Equal, Greater}
use Rattle.std.proofs.Common.{◌≡◌, ℕ, zero, suc, List, [], ◌∷◌, length, replicate, ℤ, pos, ◌+ℤ◌, ◌<ℤ◌, arith, refl, sym, ap, ap₂, ◌∙◌, inl, inr}
use Rattle.std.proofs.lemmas.Int.{ints}
use Rattle.std.proofs.lemmas.Cmp.{int_ranked}
use Rattle.gf_vec.specs.Vector.{dot}
use Rattle.gf_vec.specs.RootSign.{total_of, sign_or, first_sign, root_sign}
use Rattle.gf_facets_theory.specs.Rows.{negated}
use Rattle.gf_facets_theory.specs.LexPositive.{IsLexPositive, rooted, IsNegative}

pub dot-ones : (n : ℕ) (a : List ℤ) → length a ≡ n → dot a (replicate n (pos 1)) ≡ total_of a
dot-ones zero [] e = refl
dot-ones zero (x ∷ a) e = absurd (omega arith)
dot-ones (suc n) [] e = absurd (omega arith)
dot-ones (suc n) (x ∷ a) e = ap₂ ◌+ℤ◌ (omega (arith, ints)) (dot-ones n a (omega arith))

pub first-less : (xs : List ℤ) → first_sign xs ≡ Less → IsLexPositive (negated xs)
first-less [] h = absurd (cc)
first-less (x ∷ xs) h = at (int_cmp x (pos 0)) (int_ranked x (pos 0) (int_cmp x (pos 0)) refl) h (first-less xs)
  where
    at : (o : Ordering) → MatchOrdering o (x <ℤ pos 0) (x ≡ pos 0) (pos 0 <ℤ x) → sign_or o (first_sign xs) ≡ Less →
        (first_sign xs ≡ Less → IsLexPositive (negated xs)) → IsLexPositive (negated (x ∷ xs))
    at Less m h rec = inl (omega (arith, ints, m))
    at Equal m h rec = inr (omega (arith, ints, m), rec h)
    at Greater m h rec = absurd (cc)

pub less-first : (xs : List ℤ) → IsLexPositive (negated xs) → first_sign xs ≡ Less
less-first [] h = absurd h
less-first (x ∷ xs) h = at (int_cmp x (pos 0)) (int_ranked x (pos 0) (int_cmp x (pos 0)) refl) h (less-first xs)
  where
    at : (o : Ordering) → MatchOrdering o (x <ℤ pos 0) (x ≡ pos 0) (pos 0 <ℤ x) → IsLexPositive (negated (x ∷ xs)) →
        (IsLexPositive (negated xs) → first_sign xs ≡ Less) → sign_or o (first_sign xs) ≡ Less
    at Less m h rec = refl
    at Equal m (inl h) rec = absurd (omega (arith, ints, m, h))
    at Equal m (inr h) rec = rec h.1
    at Greater m (inl h) rec = absurd (omega (arith, ints, m, h))
    at Greater m (inr h) rec = absurd (let e = h.0 in omega (arith, ints, m, e))

pub negative_sign : (n : ℕ) (a : List ℤ) → length a ≡ n → IsNegative (replicate n (pos 1)) a → root_sign a ≡ Less
negative_sign n a e h = ap (λ z. first_sign (z ∷ a)) (sym (dot-ones n a e)) ∙ less-first (rooted (replicate n (pos 1)) a) h

pub sign_negative : (n : ℕ) (a : List ℤ) → length a ≡ n → root_sign a ≡ Less → IsNegative (replicate n (pos 1)) a
sign_negative n a e h = first-less (rooted (replicate n (pos 1)) a) (ap (λ z. first_sign (z ∷ a)) (dot-ones n a e) ∙ h)
