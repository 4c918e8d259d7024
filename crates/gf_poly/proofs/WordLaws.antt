-- The word of the variables that occur in a monomial: of products, of least common multiples, of divisors, and in comparisons by lex.
-- To cite: word_set, word_kept, word-ones, word-raised, word-plus, word-join, within_word, compare-by_words. The rest are steps.
use Rattle.std.specs.Prelude.{◌≡◌, ◌≢◌, ℕ, zero, suc, ◌+◌, ◌-◌, ◌*◌, ◌/◌, ◌%◌, ◌^◌, ◌<◌, ◌≤◌, ◌⊎◌, [], ◌∷◌, length, replicate, take, min, bit_and, bit_or}
use Rattle.std.specs.Prelude.{bit_xor}
use Rattle.std.specs.Int.{bit_at, w32}
use Rattle.std.specs.Ordering.{nat_cmp, ordering_then}
use Rattle.std.specs.Cmp.{nat_cmp_is}
use Rattle.std.specs.declared.cmp.Ordering.TheVariants.{Less, Greater}
use Rattle.std.proofs.Common.{arith, ap, sym, ◌∙◌, inl, inr, get_or}
use Rattle.std.proofs.Math.ListN.{set}
use Rattle.std.specs.Int.Bits.{xor_zero_r}
use Rattle.std.proofs.lemmas.List.{length-take}
use Rattle.std.proofs.lemmas.Bool.{cases_lt}
use Rattle.std.proofs.lemmas.Nat.{shr_split, div_below, or_lt, xor_lt, and_le_l, pow_pos}
use Rattle.std.proofs.Math.Nat.{pow-suc, mod-le}
use Rattle.std.proofs.Math.Pow.{pow-lt}
use Rattle.std.proofs.lemmas.Nat.Bits.{bit_at-zero, bit_at_and, bit_at_or, bit_at_set_same, bit_at_set_other, bit_at_above, bit_at_xor, same_from_bits_below}
use Rattle.gf_exponents_theory.specs.Exponents.{Exponents, entry, plus, join, Divides}
use Rattle.gf_exponents_theory.specs.Orders.{lex}
use Rattle.gf_exponents_theory.proofs.ExponentsLaws.{entry-past, entry-plus, entry-join}
use Rattle.gf_poly.specs.declared.TheConstants.{ROOM}
use Rattle.gf_poly.specs.Monomial.{IsWordOf}
use Rattle.gf_poly.proofs.MonomialLaws.{same_or_not, entry-take_more, entry-take_last, entries_by_divides, entry-ones, entry-raised, entry-set_other}

-- ---- one variable more
-- the bit of variable i
bit_fits : (i : ℕ) → 1 * 2 ^ (ROOM - 1 - i) % 2 ^ 32 < 2 ^ ROOM
bit_fits i = omega (arith, mod-le (1 * 2 ^ (ROOM - 1 - i)) (2 ^ 32), pow-lt {i = ROOM - 1 - i} {j = ROOM} (omega arith))

-- it occurs
pub word_set : (x z : Exponents) (i w : ℕ) → i < ROOM → 0 < entry z i → ((k : ℕ) → k ≢ i → entry z k ≡ entry x k) → IsWordOf x w →
    IsWordOf z (bit_or w (1 * 2 ^ (ROOM - 1 - i) % 2 ^ 32))
word_set x z i w r p same h = record {
  fits = or_lt ROOM w (1 * 2 ^ (ROOM - 1 - i) % 2 ^ 32) h.fits (bit_fits i);
  bits = λ k j e. index k j e (same_or_not k i);
}
  where
    index : (k j : ℕ) → k + j + 1 ≡ ROOM → (k ≡ i) ⊎ (k ≢ i) → bit_at (bit_or w (1 * 2 ^ (ROOM - 1 - i) % 2 ^ 32)) j ≡ min (entry z k) 1
    index k j e (inl q) =
        let here : j ≡ ROOM - 1 - i = omega arith in
        omega (
          arith,
          ap (λ n. bit_at (bit_or w (1 * 2 ^ (ROOM - 1 - i) % 2 ^ 32)) n) here,
          bit_at_set_same w32 w (ROOM - 1 - i) (omega arith),
          ap (λ n. entry z n) q,
        )
    index k j e (inr d) = bit_at_set_other w32 w (ROOM - 1 - i) (omega arith) j (λ q. d (omega arith)) ∙ h.bits k j e ∙ ap (λ n. min n 1) (sym (same k d))

-- among the first i + 1 exponents, and it doesn't occur
pub word_kept : (x : Exponents) (i w : ℕ) → entry x i ≡ 0 → IsWordOf (take i x) w → IsWordOf (take (i + 1) x) w
word_kept x i w z h = record { fits = h.fits; bits = λ k j e. h.bits k j e ∙ ap (λ n. min n 1) (same k (same_or_not k i)) }
  where
    same : (k : ℕ) → (k ≡ i) ⊎ (k ≢ i) → entry (take i x) k ≡ entry (take (i + 1) x) k
    same k (inl q) = ap (λ n. entry (take i x) n) q ∙ entry-past (take i x) i (omega (arith, length-take i x)) ∙ sym z ∙ sym (entry-take_last x i) ∙
        ap (λ n. entry (take (i + 1) x) n) (sym q)
    same k (inr d) = sym (entry-take_more x i k d)

-- ---- the monomial 1, a power more, products, least common multiples, divisors
pub word-ones : (n : ℕ) → IsWordOf (replicate n 0) 0
word-ones n = record { fits = pow_pos ROOM; bits = λ i j e. omega (arith, bit_at-zero j, entry-ones n i) }

pub word-raised : (x : Exponents) (i by w : ℕ) → i < length x → i < ROOM → 0 < by → IsWordOf x w →
    IsWordOf (set x i (get_or x i 0 + by)) (bit_or w (1 * 2 ^ (ROOM - 1 - i) % 2 ^ 32))
word-raised x i by w l r p h = word_set x (set x i (get_or x i 0 + by)) i w r (omega (arith, entry-raised x i by l))
    (λ k d. entry-set_other x i k (get_or x i 0 + by) d) h

pub word-plus : (x y : Exponents) (v w : ℕ) → IsWordOf x v → IsWordOf y w → IsWordOf (plus x y) (bit_or v w)
word-plus x y v w h k = record {
  fits = or_lt ROOM v w h.fits k.fits;
  bits = λ i j e. omega (arith, bit_at_or v w j, h.bits i j e, k.bits i j e, entry-plus x y i);
}

pub word-join : (x y : Exponents) (v w : ℕ) → IsWordOf x v → IsWordOf y w → IsWordOf (join x y) (bit_or v w)
word-join x y v w h k = record {
  fits = or_lt ROOM v w h.fits k.fits;
  bits = λ i j e. omega (arith, bit_at_or v w j, h.bits i j e, k.bits i j e, entry-join x y i);
}

-- each variable of a divisor occurs in its multiples
pub within_word : (x y : Exponents) (v w : ℕ) → IsWordOf x v → IsWordOf y w → Divides x y → bit_and v w ≡ v
within_word x y v w h k d = same_from_bits_below ROOM (bit_and v w) v (omega (arith, h.fits, and_le_l v w)) h.fits index
  where
    index : (j : ℕ) → j < ROOM → bit_at (bit_and v w) j ≡ bit_at v j
    index j b = let e : ROOM - 1 - j + j + 1 ≡ ROOM = omega arith in omega (
      arith,
      bit_at_and v w j,
      h.bits (ROOM - 1 - j) j e,
      k.bits (ROOM - 1 - j) j e,
      entries_by_divides x y d (ROOM - 1 - j),
    )

-- ---- comparisons by lex
-- the m bits of w, from the highest, say which of the first m variables occur in x
record IsWordIn (m : ℕ) (x : Exponents) (w : ℕ) : Type 0 where
  pub fits : w < 2 ^ m
  pub bits : (i j : ℕ) → i + j + 1 ≡ m → bit_at w j ≡ min (entry x i) 1

-- a number of m + 1 bits whose highest isn't set
low : (m w : ℕ) → w < 2 ^ suc m → bit_at w m ≡ 0 → w < 2 ^ m
low m w l b = omega (arith, shr_split w m, pow_pos m, ap (λ n. n * 2 ^ m) (quotient b))
  where
    quotient : w / 2 ^ m % 2 ≡ 0 → w / 2 ^ m ≡ 0
    quotient b = omega (arith, div_below w (2 ^ m) 2 (pow_pos m) (omega (arith, l, pow-suc 2 m)))

-- and one whose bit m is set
high : (m w : ℕ) → bit_at w m ≡ 1 → 2 ^ m ≤ w
high m w b = elim (cases_lt w (2 ^ m)) [ inl l ↦ absurd (omega (arith, b, bit_at_above w m m l (omega arith))) | inr g ↦ g ]

none_in : (m w : ℕ) → IsWordIn m [] w → w ≡ 0
none_in m w h = same_from_bits_below m w 0 h.fits (pow_pos m) (λ j l. h.bits (m - suc j) j (omega arith) ∙ sym (bit_at-zero j))

-- a first variable that doesn't occur
absent_in : (m : ℕ) (x : Exponents) (w : ℕ) → IsWordIn (suc m) (0 ∷ x) w → IsWordIn m x w
absent_in m x w h = record { fits = low m w h.fits (h.bits 0 m (omega arith)); bits = λ i j e. h.bits (suc i) j (omega arith) }

-- one that does
present_in : (m a : ℕ) (x : Exponents) (w : ℕ) → IsWordIn (suc m) (suc a ∷ x) w → bit_at w m ≡ 1
present_in m a x w h = omega (arith, h.bits 0 m (omega arith))

compare_in : (m : ℕ) (x y : Exponents) (v w : ℕ) → IsWordIn m x v → IsWordIn m y w → bit_and v w < bit_xor v w → lex x y ≡ nat_cmp v w
compare_in m [] [] v w h k d = let p = none_in m v h in let q = none_in m w k in absurd (omega (arith, rw (p, q) at d))
compare_in m [] (b ∷ y) v w h k d = let p = none_in m v h in nat_cmp_is v w Less (omega (arith, p, rw p at d))
compare_in m (a ∷ x) [] v w h k d = let q = none_in m w k in nat_cmp_is v w Greater (omega (arith, q, rw (q, xor_zero_r v) at d))
compare_in zero (a ∷ x) (b ∷ y) v w h k d = let p : v ≡ 0 = omega (arith, h.fits) in let q : w ≡ 0 =
    omega (arith, k.fits) in absurd (omega (arith, rw (p, q) at d))
compare_in (suc m) (zero ∷ x) (zero ∷ y) v w h k d = compare_in m x y v w (absent_in m x v h) (absent_in m y w k) d
compare_in (suc m) (zero ∷ x) (suc b ∷ y) v w h k d = ap (λ o. ordering_then o (lex x y)) (sym (nat_cmp_is 0 (suc b) Less (omega arith))) ∙ nat_cmp_is v w Less
    (omega (arith, (absent_in m x v h).fits, high m w (present_in m b y w k)))
compare_in (suc m) (suc a ∷ x) (zero ∷ y) v w h k d = ap (λ o. ordering_then o (lex x y)) (sym (nat_cmp_is (suc a) 0 Greater (omega arith))) ∙
    nat_cmp_is v w Greater (omega (arith, (absent_in m y w k).fits, high m v (present_in m a x v h)))
compare_in (suc m) (suc a ∷ x) (suc b ∷ y) v w h k d = absurd (omega (
  arith,
  d,
  high m (bit_and v w) (omega (arith, bit_at_and v w m, present_in m a x v h, present_in m b y w k)),
  low m (bit_xor v w) (xor_lt (suc m) v w h.fits k.fits) (omega (arith, bit_at_xor v w m, present_in m a x v h, present_in m b y w k)),
))

-- where a variable occurs in one of the two alone, and none before the first such one in both
pub compare-by_words : (x y : Exponents) (v w : ℕ) → IsWordOf x v → IsWordOf y w → bit_and v w < bit_xor v w → lex x y ≡ nat_cmp v w
compare-by_words x y v w h k d = compare_in ROOM x y v w (record { fits = h.fits; bits = h.bits }) (record { fits = k.fits; bits = k.bits }) d
