-- Monomials in ROOM indices, with zeros behind their exponents: the indices of products, quotients and least common multiples.
-- To cite: placed-front, placed_by_front, placed-monomial, placed_by_loop, placed-plus, placed-minus, placed-join, front-raised, placed-raised, placed-ones,
-- placed-divides.
use Rattle.std.specs.Prelude.{◌≡◌, ◌≢◌, ℕ, ◌+◌, ◌<◌, ◌≤◌, ◌^◌, ◌⊎◌, length, take, replicate, All}
use Rattle.std.proofs.Common.{arith, sym, ap, subst, ◌∙◌, inl, inr, get_or}
use Rattle.std.proofs.Math.ListN.{set}
use Rattle.std.proofs.Math.Seq.{take-set-lt}
use Rattle.std.proofs.lemmas.Bool.{cases_lt}
use Rattle.std.proofs.lemmas.List.{get_or-take, length-set, length-take, length-replicate, take-replicate}
use Rattle.std.proofs.lemmas.List.Elements.{All-replicate}
use Rattle.gf_exponents_theory.specs.Exponents.{Exponents, entry, plus, minus, join, Divides}
use Rattle.gf_exponents_theory.proofs.ExponentsLaws.{entry-get_or, entry-past, entry-plus, entry-minus, entry-join}
use Rattle.gf_poly.specs.declared.TheConstants.{ROOM}
use Rattle.gf_poly.specs.Monomial.{IsMonomial, IsPlaced, ProductFits}
use Rattle.gf_poly.proofs.MonomialLaws.{ArePlacedUpTo, divides_by_entries, entries_by_divides, entry-ones, entry-raised, entry-set_other, length-plus}
use Rattle.gf_poly.proofs.MonomialLaws.{length-minus, length-join, limit_by_entries, entry-limit, limit-raised, same_or_not, taken_is}

-- the first indices are the exponents
pub placed-front : (x indices : Exponents) (n : ℕ) → n ≡ length x → IsPlaced x indices → take n indices ≡ x
placed-front x indices n e h = taken_is n indices x (sym e) (omega (arith, h.room, h.full)) (λ i l. omega (arith, entry-get_or indices i, h.at i))

-- where they are, as many indices stand for their front
pub placed_by_front : (x indices : Exponents) (n : ℕ) → n ≡ length x → IsPlaced x indices → IsPlaced (take n indices) indices
placed_by_front x indices n e h = subst (λ y. IsPlaced y indices) (sym (placed-front x indices n e h)) h

-- the exponents of a monomial are within the limit
pub placed-limit : (x indices : Exponents) → IsPlaced x indices → All (λ k. k < 2 ^ 31) x
placed-limit x indices h = limit_by_entries x (λ i. omega (arith, h.at i, entry-limit indices h.limit i))

pub placed-monomial : (x indices : Exponents) → IsPlaced x indices → IsMonomial x
placed-monomial x indices h = record { room = h.room; limit = placed-limit x indices h }

-- a loop over the exponents of a monomial has placed them
pub placed_by_loop : (x all : Exponents) (i : ℕ) → length x ≤ i → IsMonomial x → ArePlacedUpTo x all i → IsPlaced x all
placed_by_loop x all i l m h = record {
  room = m.room;
  full = h.room;
  limit = limit_by_entries all (λ k. omega (arith, same k (cases_lt k i), entry-limit x m.limit k));
  at = λ k. same k (cases_lt k i);
}
  where
    same : (k : ℕ) → (k < i) ⊎ (i ≤ k) → entry all k ≡ entry x k
    same k (inl b) = h.at k b
    same k (inr b) = h.behind k b ∙ sym (entry-past x k (omega arith))

-- ---- products, quotients, least common multiples
pub placed-plus : (x y indices others : Exponents) → length x ≡ length y → IsPlaced x indices → IsPlaced y others → ProductFits indices others →
    IsPlaced (plus x y) (plus indices others)
placed-plus x y indices others e h k p = record {
  room = omega (arith, length-plus x y e, h.room);
  full = length-plus indices others (h.full ∙ sym k.full) ∙ h.full;
  limit = limit_by_entries (plus indices others) (λ i. omega (arith, p.at i, entry-plus indices others i));
  at = λ i. omega (arith, entry-plus indices others i, entry-plus x y i, h.at i, k.at i);
}

pub placed-minus : (x y indices others : Exponents) → length x ≡ length y → IsPlaced x indices → IsPlaced y others → IsPlaced (minus x y) (minus indices others)
placed-minus x y indices others e h k = record {
  room = omega (arith, length-minus x y e, h.room);
  full = length-minus indices others (h.full ∙ sym k.full) ∙ h.full;
  limit = limit_by_entries (minus indices others) (λ i. omega (arith, entry-limit indices h.limit i, entry-minus indices others i));
  at = λ i. omega (arith, entry-minus indices others i, entry-minus x y i, h.at i, k.at i);
}

pub placed-join : (x y indices others : Exponents) → length x ≡ length y → IsPlaced x indices → IsPlaced y others → IsPlaced (join x y) (join indices others)
placed-join x y indices others e h k = record {
  room = omega (arith, length-join x y e, h.room);
  full = length-join indices others (h.full ∙ sym k.full) ∙ h.full;
  limit = limit_by_entries (join indices others) (λ i. omega (arith, entry-limit indices h.limit i, entry-limit others k.limit i, entry-join indices others i));
  at = λ i. omega (arith, entry-join indices others i, entry-join x y i, h.at i, k.at i);
}

-- ---- the monomial 1, and one exponent raised
pub placed-ones : (n : ℕ) → n ≤ ROOM → IsPlaced (take n (replicate ROOM 0)) (replicate ROOM 0)
placed-ones n l = record {
  room = omega (arith, length-take {A = ℕ} n (replicate ROOM 0), length-replicate {A = ℕ} ROOM 0);
  full = length-replicate {A = ℕ} ROOM 0;
  limit = All-replicate (λ k. k < 2 ^ 31) ROOM 0 (omega arith);
  at = λ i. entry-ones ROOM i ∙ sym (ap (λ x. entry x i) (take-replicate n ROOM 0 l) ∙ entry-ones n i);
}

-- among the first indices the same exponent is raised
pub front-raised : (n : ℕ) (indices : Exponents) (i by : ℕ) → i < n →
    take n (set indices i (get_or indices i 0 + by)) ≡ set (take n indices) i (get_or (take n indices) i 0 + by)
front-raised n indices i by l =
    take-set-lt n indices i (get_or indices i 0 + by) l ∙ ap (λ a. set (take n indices) i (a + by)) (sym (get_or-take n indices i 0 l))

pub placed-raised : (n : ℕ) (indices : Exponents) (i by : ℕ) → i < n → n ≤ ROOM → get_or indices i 0 + by < 2 ^ 31 → IsPlaced (take n indices) indices →
    IsPlaced (take n (set indices i (get_or indices i 0 + by))) (set indices i (get_or indices i 0 + by))
placed-raised n indices i by l room fits h = record {
  room = omega (arith, length-take n (set indices i (get_or indices i 0 + by)), room);
  full = length-set indices i (get_or indices i 0 + by) ∙ h.full;
  limit = limit-raised indices i by (omega (arith, h.full, room)) fits h.limit;
  at = λ k. index k (same_or_not k i);
}
  where
    front : take n (set indices i (get_or indices i 0 + by)) ≡ set (take n indices) i (get_or (take n indices) i 0 + by)
    front = front-raised n indices i by l

    index : (k : ℕ) → (k ≡ i) ⊎ (k ≢ i) → entry (set indices i (get_or indices i 0 + by)) k ≡ entry (take n (set indices i (get_or indices i 0 + by))) k
    index k (inl q) =
        ap (λ j. entry (set indices i (get_or indices i 0 + by)) j) q ∙ entry-raised indices i by (omega (arith, h.full, room)) ∙ ap (λ e. e + by) (h.at i)
        ∙ sym (ap (λ j. entry (take n (set indices i (get_or indices i 0 + by))) j) q ∙ ap (λ y. entry y i) front ∙ entry-raised (take n indices) i by
        (omega (arith, length-take n indices, h.full, room)))
    index k (inr d) =
        entry-set_other indices i k (get_or indices i 0 + by) d ∙ h.at k
        ∙ sym (ap (λ y. entry y k) front ∙ entry-set_other (take n indices) i k (get_or (take n indices) i 0 + by) d)

-- ---- divisibility
pub placed-divides : (x y indices others : Exponents) → IsPlaced x indices → IsPlaced y others → Divides y x → Divides others indices
placed-divides x y indices others h k d = divides_by_entries others indices (λ i. omega (arith, h.at i, k.at i, entries_by_divides y x d i))
