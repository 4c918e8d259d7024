-- Comparisons of lists by the first entry that differs, and equal monomials by their indices and their words.
-- To cite: AgreeUpTo-more, lex_less, lex_greater, lex_end, IsSameUpTo-more, IsSameUpTo-end, placed-same, word-unique.
use Rattle.std.specs.Prelude.{◌≡◌, ℕ, zero, suc, ◌+◌, ◌-◌, ◌<◌, ◌≤◌, ◌⊎◌, ◌↔◌, Bool, IsTrue, List, [], ◌∷◌, length, min}
use Rattle.std.specs.Ordering.{nat_cmp, ordering_then}
use Rattle.std.specs.Cmp.{nat_cmp_is}
use Rattle.std.specs.declared.cmp.Ordering.TheVariants.{Less, Equal, Greater}
use Rattle.std.proofs.Common.{arith, ap, sym, subst, ◌∙◌, inl, inr, get_or}
use Rattle.std.proofs.lemmas.Bool.{cases_lt}
use Rattle.std.proofs.lemmas.Nat.Bits.{same_from_bits_below}
use Rattle.gf_exponents_theory.specs.Exponents.{Exponents, entry}
use Rattle.gf_exponents_theory.specs.Orders.{lex}
use Rattle.gf_exponents_theory.proofs.ExponentsLaws.{entry-get_or, entry-past, same_lists}
use Rattle.gf_poly.specs.declared.TheConstants.{ROOM}
use Rattle.gf_poly.specs.Monomial.{IsPlaced, IsWordOf}

-- the first i entries are the same
pub record AgreeUpTo (x y : List ℕ) (i : ℕ) : Type 0 where
  pub at : (k : ℕ) → k < i → get_or x k 0 ≡ get_or y k 0

pub AgreeUpTo-more : (x y : List ℕ) (i : ℕ) → get_or x i 0 ≡ get_or y i 0 → AgreeUpTo x y i → AgreeUpTo x y (i + 1)
AgreeUpTo-more x y i e h = record { at = λ k l. index k (cases_lt k i) l }
  where
    index : (k : ℕ) → (k < i) ⊎ (i ≤ k) → k < i + 1 → get_or x k 0 ≡ get_or y k 0
    index k (inl m) l = h.at k m
    index k (inr m) l = let q : i ≡ k = omega arith in subst (λ (j : ℕ). get_or x j 0 ≡ get_or y j 0) q e

rest : (a b : ℕ) (x y : List ℕ) (i : ℕ) → AgreeUpTo (a ∷ x) (b ∷ y) (suc i) → AgreeUpTo x y i
rest a b x y i h = record { at = λ k l. h.at (suc k) (omega arith) }

-- equal first entries don't decide
lex_rest : (a b : ℕ) (x y : List ℕ) → a ≡ b → lex (a ∷ x) (b ∷ y) ≡ lex x y
lex_rest a b x y e = ap (λ o. ordering_then o (lex x y)) (sym (nat_cmp_is a b Equal (omega arith)))

-- the first entries that differ decide
pub lex_less : (x y : List ℕ) (i : ℕ) → i < length x → i < length y → AgreeUpTo x y i → get_or x i 0 < get_or y i 0 → lex x y ≡ Less
lex_less [] y i l m h d = absurd (omega arith)
lex_less (a ∷ x) [] i l m h d = absurd (omega arith)
lex_less (a ∷ x) (b ∷ y) zero l m h d = ap (λ o. ordering_then o (lex x y)) (sym (nat_cmp_is a b Less (omega (arith, d))))
lex_less (a ∷ x) (b ∷ y) (suc i) l m h d = lex_rest a b x y (h.at 0 (omega arith)) ∙ lex_less x y i (omega arith) (omega arith) (rest a b x y i h) d

pub lex_greater : (x y : List ℕ) (i : ℕ) → i < length x → i < length y → AgreeUpTo x y i → get_or y i 0 < get_or x i 0 → lex x y ≡ Greater
lex_greater [] y i l m h d = absurd (omega arith)
lex_greater (a ∷ x) [] i l m h d = absurd (omega arith)
lex_greater (a ∷ x) (b ∷ y) zero l m h d = ap (λ o. ordering_then o (lex x y)) (sym (nat_cmp_is a b Greater (omega (arith, d))))
lex_greater (a ∷ x) (b ∷ y) (suc i) l m h d = lex_rest a b x y (h.at 0 (omega arith)) ∙ lex_greater x y i (omega arith) (omega arith) (rest a b x y i h) d

-- where one begins as the other does the lengths decide
pub lex_end : (x y : List ℕ) (i : ℕ) → min (length x) (length y) ≤ i → AgreeUpTo x y i → lex x y ≡ nat_cmp (length x) (length y)
lex_end [] [] i l h = nat_cmp_is 0 0 Equal (omega arith)
lex_end [] (b ∷ y) i l h = nat_cmp_is 0 (length (b ∷ y)) Less (omega arith)
lex_end (a ∷ x) [] i l h = nat_cmp_is (length (a ∷ x)) 0 Greater (omega arith)
lex_end (a ∷ x) (b ∷ y) zero l h = absurd (omega arith)
lex_end (a ∷ x) (b ∷ y) (suc i) l h = lex_rest a b x y (h.at 0 (omega arith)) ∙ lex_end x y i (omega arith) (rest a b x y i h) ∙ lengths (length x) (length y)
  where
    lengths : (m n : ℕ) → nat_cmp m n ≡ nat_cmp (suc m) (suc n)
    lengths m n = elim (cases_lt m n) [
      | inl l ↦ sym (nat_cmp_is m n Less l) ∙ nat_cmp_is (suc m) (suc n) Less (omega (arith, l))
      | inr g ↦ elim (cases_lt n m) [
        | inl l ↦ sym (nat_cmp_is m n Greater l) ∙ nat_cmp_is (suc m) (suc n) Greater (omega (arith, l))
        | inr k ↦ sym (nat_cmp_is m n Equal (omega (arith, g, k))) ∙ nat_cmp_is (suc m) (suc n) Equal (omega (arith, g, k))
      ]
    ]

-- whether the first i entries are the same, as a flag says
pub record IsSameUpTo (x y : List ℕ) (same : Bool) (i : ℕ) : Type 0 where
  pub so : IsTrue same → AgreeUpTo x y i
  pub all : x ≡ y → IsTrue same

pub IsSameUpTo-more : (x y : List ℕ) (i : ℕ) (old new : Bool) → (IsTrue new ↔ (IsTrue old × (get_or x i 0 ≡ get_or y i 0))) → IsSameUpTo x y old i →
    IsSameUpTo x y new (i + 1)
IsSameUpTo-more x y i old new g h = record {
  so = λ t. AgreeUpTo-more x y i (g.0 t).1 (h.so (g.0 t).0);
  all = λ q. g.1 (h.all q, ap (λ z. get_or z i 0) q);
}

pub IsSameUpTo-end : (x y : List ℕ) (i : ℕ) (same : Bool) → length x ≡ length y → length x ≤ i → IsSameUpTo x y same i → IsTrue same ↔ (x ≡ y)
IsSameUpTo-end x y i same e l h = (λ t. same_lists x y e (λ k. index t k (cases_lt k i)), h.all)
  where
    index : IsTrue same → (k : ℕ) → (k < i) ⊎ (i ≤ k) → entry x k ≡ entry y k
    index t k (inl m) = sym (entry-get_or x k) ∙ (h.so t).at k m ∙ entry-get_or y k
    index t k (inr m) = entry-past x k (omega arith) ∙ sym (entry-past y k (omega arith))

-- monomials are the same where their indices are
pub placed-same : (x y indices others : Exponents) → length x ≡ length y → IsPlaced x indices → IsPlaced y others → (indices ≡ others) ↔ (x ≡ y)
placed-same x y indices others e h k = (
  λ q. same_lists x y e (λ i. sym (h.at i) ∙ ap (λ z. entry z i) q ∙ k.at i),
  λ q. same_lists indices others (h.full ∙ sym k.full) (λ i. h.at i ∙ ap (λ z. entry z i) q ∙ sym (k.at i)),
)

-- a monomial has one word
pub word-unique : (x : Exponents) (v w : ℕ) → IsWordOf x v → IsWordOf x w → v ≡ w
word-unique x v w h k = same_from_bits_below ROOM v w h.fits k.fits (λ j b. let e : ROOM - 1 - j + j + 1 ≡ ROOM = omega arith in
    h.bits (ROOM - 1 - j) j e ∙ sym (k.bits (ROOM - 1 - j) j e))
