-- The primitive vector of a row: there is one and one alone.
-- To cite: divided_exists, not_all_zero, multiple_content, multiple_divided, primitive_unique, divided-entry.
use Rattle.std.specs.Int.{◌∣◌}
use Rattle.std.proofs.Common.{◌≡◌, ◌⊎◌, ℕ, zero, suc, ◌*◌, ◌<◌, List, [], ◌∷◌, get_or, ℤ, pos, negsuc, ◌*ℤ◌, unsigned_abs, arith, refl, sym, ap, ◌∙◌, ◌/◌}
use Rattle.std.proofs.Common.{subst, inl, inr}
use Rattle.std.proofs.lemmas.Int.{ints, unsigned_abs-mul}
use Rattle.std.proofs.Math.IntN.{*ℤ-zero}
use Rattle.std.proofs.Math.Nat.{dvd-mul_right, dvd_of_mul-dvd-mul_left, mul-div_cancel'}
use Rattle.gf_int_theory.specs.Content.{DividesAll, AllZero, IsContent, IsPrimitive, scaled}
use Rattle.gf_int_theory.proofs.ContentLaws.{IsContent-exists, IsContent-same}
use Rattle.gf_vec.specs.Primitive.{IsDivided, IsPrimitivePart}
use Rattle.gf_vec.proofs.EntryLaws.{entry_times, same_by}
use Rattle.gf_vec.proofs.PrimitiveLaws.{times_cancel}
use Rattle.gf_facets_theory.proofs.VectorLaws.{IsNonzero}

-- ---- divided by the content

-- the divisor is a natural number
natural_divisor : (t : List ℤ) (c : ℤ) (a : List ℤ) → IsDivided t c a →
    (k : ℕ) × (0 < k) × (c ≡ pos k) × IsContent t k × (scaled (pos k) a ≡ t)
natural_divisor t (pos k) a d = (k, omega (arith, ints, d.positive), refl, d.content, d.multiple)
natural_divisor t (negsuc k) a d = absurd (omega (arith, ints, d.positive))

-- ---- multiples of a primitive vector

all_divided : (k : ℕ) (xs : List ℤ) → DividesAll k (scaled (pos k) xs)
all_divided k [] = tt
all_divided k (x ∷ xs) = (subst (λ n. k ∣ n) (sym (unsigned_abs-mul (pos k) x)) (dvd-mul_right k (unsigned_abs x)), all_divided k xs)

divided_less : (k m : ℕ) (xs : List ℤ) → 0 < k → DividesAll (k * m) (scaled (pos k) xs) → DividesAll m xs
divided_less k m [] l h = tt
divided_less k m (x ∷ xs) l h = (dvd_of_mul-dvd-mul_left m l (subst (λ n. k * m ∣ n) (unsigned_abs-mul (pos k) x) h.0), divided_less k m xs l h.1)

zero_entries : (xs : List ℤ) → AllZero xs → (i : ℕ) → get_or xs i (pos 0) ≡ pos 0
zero_entries [] z i = refl
zero_entries (x ∷ xs) z zero = z.0
zero_entries (x ∷ xs) z (suc i) = zero_entries xs z.1 i

-- a vector with an entry that isn't zero
pub not_all_zero : (a : List ℤ) → IsNonzero a → AllZero a → ⊥
not_all_zero a n z = n.1 (zero_entries a z n.0)

zero_multiple : (k : ℕ) (xs : List ℤ) → 0 < k → AllZero (scaled (pos k) xs) → AllZero xs
zero_multiple k [] l z = tt
zero_multiple k (x ∷ xs) l z = (same_by (pos k) x (pos 0) (omega (arith, ints, l)) (z.0 ∙ sym (*ℤ-zero (pos k))), zero_multiple k xs l z.1)

-- the content of k times a primitive vector is k
pub multiple_content : (k : ℕ) (a : List ℤ) → 0 < k → IsPrimitive a → IsNonzero a → IsContent (scaled (pos k) a) k
multiple_content k a l p n = let c = IsContent-exists (scaled (pos k) a) in at c.0 c.1 c.1.greatest
  where
    at : (c : ℕ) → IsContent (scaled (pos k) a) c →
        ((d : ℕ) → DividesAll d (scaled (pos k) a) → d ∣ c) ⊎ (AllZero (scaled (pos k) a) × (c ≡ 1)) →
        IsContent (scaled (pos k) a) k
    at c h (inr z) = absurd (not_all_zero a n (zero_multiple k a l z.0))
    at c h (inl f) =
        let e : k * (c / k) ≡ c = mul-div_cancel' k (f k (all_divided k a)) in
        let d : DividesAll (c / k) a = divided_less k (c / k) a l (subst (λ n. DividesAll n (scaled (pos k) a)) (sym e) h.divides) in
        elim (p (c / k) d) [
          | inr z ↦ absurd (not_all_zero a n z)
          | inl one ↦ subst (IsContent (scaled (pos k) a)) (sym e ∙ ap (λ (z : ℕ). k * z) one ∙ last k) h
        ]
      where
        last : (k : ℕ) → k * 1 ≡ k
        last k = omega arith

-- k times a primitive vector has it as its primitive part
pub multiple_divided : (k : ℕ) (a : List ℤ) → 0 < k → IsPrimitive a → IsNonzero a → IsDivided (scaled (pos k) a) (pos k) a
multiple_divided k a l p n = record { positive = omega (arith, ints, l); content = multiple_content k a l p n; multiple = refl }

-- and no other
pub primitive_unique : (t a b : List ℤ) → IsPrimitivePart t a → IsPrimitivePart t b → a ≡ b
primitive_unique t a b p q =
    let k = natural_divisor t p.0 a p.1 in
    let j = natural_divisor t q.0 b q.1 in
    let e : j.0 ≡ k.0 = IsContent-same t j.0 k.0 j.3 k.3 in
    times_cancel (pos k.0) a b (omega (arith, ints, k.1)) (k.4 ∙ sym j.4 ∙ ap (λ (i : ℕ). scaled (pos i) b) e)

-- an entry of a row, by its primitive part
pub divided-entry : (t : List ℤ) (a : List ℤ) → IsPrimitivePart t a →
    (k : ℕ) × (0 < k) × (scaled (pos k) a ≡ t) × ((i : ℕ) → get_or t i (pos 0) ≡ pos k *ℤ get_or a i (pos 0))
divided-entry t a p = let k = natural_divisor t p.0 a p.1 in (k.0, k.1, k.4, λ i. ap (λ (z : List ℤ). get_or z i (pos 0)) (sym k.4) ∙ entry_times (pos k.0) a i)
