-- A row that is zero in the column already: brought to zero there, it is itself divided by its content.
use Rattle.std.proofs.Common.{◌≡◌, ℕ, ◌*◌, ◌<◌, List, [], ◌∷◌, length, ℤ, pos, ◌*ℤ◌, ◌<ℤ◌, neg_ℤ, unsigned_abs, ◌⊎◌, inl, inr, arith, sym, refl, ap, ap₂, ◌∙◌}
use Rattle.std.proofs.Common.{subst}
use Rattle.std.proofs.lemmas.Int.{ints}
use Rattle.std.proofs.lemmas.Bool.{cases_eq}
use Rattle.gf_int_theory.specs.Content.{AllZero, scaled, quotients}
use Rattle.gf_int_theory.proofs.ContentLaws.{IsContent-exists}
use Rattle.gf_int_theory.proofs.RingLaws.{dn, ◌⊗◌}
use Rattle.gf_int_theory.proofs.SignLaws.{mul_positive}
use Rattle.gf_vec.specs.Vector.{vector_sum, entry_at}
use Rattle.gf_vec.specs.Primitive.{IsDivided, IsPrimitivePart}
use Rattle.gf_vec.proofs.DividedLaws.{IsDivided-quotients}
use Rattle.gf_vec.proofs.PrimitiveLaws.{times_cancel, primitive_of, primitive_same}
use Rattle.gf_vec.proofs.VectorIdentities.{vv, ◌⊞◌, ◌⊡◌, vsame}
use Rattle.gf_gordan.specs.Elimination.{signed_at}
use Rattle.gf_duality_theory.specs.Elimination.{IsTurned}

zero_or : (xs : List ℤ) → AllZero xs ⊎ (AllZero xs → ⊥)
zero_or [] = inl tt
zero_or (x ∷ xs) = elim (cases_eq (unsigned_abs x) 0) [
  | inr n ↦ inr (λ z. n (ap unsigned_abs z.0))
  | inl e ↦ elim (zero_or xs) [ inl z ↦ inl (let q : x ≡ pos 0 = omega (arith, ints, e) in (q, z)) | inr m ↦ inr (λ z. m z.1) ]
]

zero_scaled : (a b : ℤ) (xs : List ℤ) → AllZero xs → scaled a xs ≡ scaled b xs
zero_scaled a b [] z = refl
zero_scaled a b (x ∷ xs) z =
    let m : a *ℤ pos 0 ≡ b *ℤ pos 0 = omega (arith, ints) in
    ap₂ (λ (y : ℤ) (ys : List ℤ). y ∷ ys) (ap (λ y. a *ℤ y) z.0 ∙ m ∙ ap (λ y. b *ℤ y) (sym z.0)) (zero_scaled a b xs z.1)

scaled_twice : (g x : ℕ) (s : List ℤ) → scaled (pos g) (scaled (pos x) s) ≡ scaled (pos g *ℤ pos x) s
scaled_twice g x s = vsame (dn g ⊡ (dn x ⊡ vv s refl)) (dn g ⊗ dn x ⊡ vv s refl) (λ w. omega arith)

product_positive : (k n : ℕ) → 0 < k → 0 < n → pos 0 <ℤ (pos k *ℤ pos n)
product_positive k n h g = let m : 0 < k * n = mul_positive k n h g in omega (arith, ints, m)

-- a positive multiple of a vector has its primitive part
multiple_part : (k : ℕ) (t u : List ℤ) → 0 < k → IsPrimitivePart t u → IsPrimitivePart (scaled (pos k) t) u
multiple_part k t u h p =
    let w : List ℤ = scaled (pos k) t in
    let c = IsContent-exists w in
    let q : List ℤ = quotients (pos c.0) w in
    let d : IsDivided w (pos c.0) q = IsDivided-quotients w c.0 c.1 in
    let n : ℕ = unsigned_abs p.0 in
    let positive = p.1.positive in
    let en : p.0 ≡ pos n = omega (arith, ints, positive) in
    let hn : 0 < n = omega (arith, ints, positive) in
    let whole : scaled (pos c.0) q ≡ scaled (pos k *ℤ pos n) u =
    d.multiple ∙ ap (scaled (pos k)) (sym p.1.multiple ∙ ap (λ z. scaled z u) en) ∙ scaled_twice k n u in
    let same : q ≡ u = elim (zero_or u) [
      | inl z ↦ times_cancel (pos c.0) q u d.positive (whole ∙ zero_scaled (pos k *ℤ pos n) (pos c.0) u z)
      | inr nz ↦ primitive_same u q (pos c.0) (pos k *ℤ pos n) d.positive (product_positive k n h hn) whole (primitive_of t u p)
          (primitive_of w q (pos c.0, d)) nz
    ] in
    subst (IsPrimitivePart w) same (pos c.0, d)

size_positive : (x : ℤ) → (x ≡ pos 0 → ⊥) → 0 < unsigned_abs x
size_positive x n = omega (arith, ints, n)

-- a row that is zero in the column
pub turned_at_zero : (r t u : List ℤ) (j : ℕ) → length t ≡ length r → (entry_at r j ≡ pos 0 → ⊥) → signed_at r j t ≡ pos 0 → IsPrimitivePart t u →
    IsTurned r j t u
turned_at_zero r t u j l n e p =
    let k : ℕ = unsigned_abs (entry_at r j) in
    let h : 0 < k = size_positive (entry_at r j) n in
    let flat : vector_sum (scaled (pos k) t) (scaled (pos 0) r) ≡ scaled (pos k) t =
    vsame (dn k ⊡ vv t l ⊞ dn 0 ⊡ vv r refl) (dn k ⊡ vv t l) (λ w. omega arith) in
    let z : neg_ℤ (signed_at r j t) ≡ pos 0 = ap neg_ℤ e in
    subst (λ x. IsPrimitivePart x u) (sym (ap (λ a. vector_sum (scaled (pos k) t) (scaled a r)) z ∙ flat)) (multiple_part k t u h p)
