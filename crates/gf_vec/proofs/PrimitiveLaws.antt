-- Primitive vectors: what division by the content leaves, and that two on one ray are one.
-- Source of the second: Euclid, Elements, book 7, proposition 30.
use Rattle.std.proofs.Common.{◌≡◌, ℕ, zero, suc, ◌*◌, ◌/◌, ◌<◌, List, [], ◌∷◌, length, ℤ, pos, negsuc, ◌*ℤ◌, ◌<ℤ◌, arith, sym, refl, ap, ◌∙◌, subst, inl, inr}
use Rattle.std.proofs.Common.{unsigned_abs}
use Rattle.std.specs.Int.{IsGcd, ◌∣◌}
use Rattle.std.proofs.lemmas.Int.{ints, unsigned_abs-mul}
use Rattle.std.proofs.lemmas.Nat.Gcd.{IsGcd-swap}
use Rattle.std.proofs.Math.Nat.{dvd-mul_right, mul-div_cancel'}
use Rattle.gf_int_theory.specs.Content.{DividesAll, AllZero, IsPrimitive, scaled, quotients}
use Rattle.gf_int_theory.specs.Gcd.{gcd, gcd-is, gcd-positive, coprime-dvd, lowest-quotients}
use Rattle.gf_int_theory.proofs.ContentLaws.{times-quotients, IsPrimitive-quotients}
use Rattle.gf_int_theory.proofs.RingLaws.{dn, ◌⊗◌}
use Rattle.gf_vec.specs.Vector.{dot, entry_at}
use Rattle.gf_vec.specs.Primitive.{IsPrimitivePart}
use Rattle.gf_vec.proofs.VectorLaws.{dot-times, length-times}
use Rattle.gf_vec.proofs.DotLaws.{vector_ext}
use Rattle.gf_vec.proofs.EntryLaws.{same_by}
use Rattle.gf_vec.proofs.VectorIdentities.{vv, ◌⊡◌, vsame}

-- a positive factor of vectors is cancelled
pub times_cancel : (c : ℤ) (u v : List ℤ) → pos 0 <ℤ c → scaled c u ≡ scaled c v → u ≡ v
times_cancel c u v h e = vector_ext u v (sym (length-times c u) ∙ ap length e ∙ length-times c v)
    (λ w. same_by c (dot u w) (dot v w) h (sym (dot-times c u w) ∙ ap (λ z. dot z w) e ∙ dot-times c v w))

-- ---- after division by the content

pub primitive_of : (w u : List ℤ) → IsPrimitivePart w u → IsPrimitive u
primitive_of w u d =
    let n : ℕ = unsigned_abs d.0 in
    let e : d.0 ≡ pos n = omega (arith, ints, d.1.positive) in
    let q : u ≡ quotients (pos n) w = times_cancel d.0 u (quotients (pos n) w) d.1.positive (d.1.multiple ∙ sym (times-quotients n w d.1.content.divides) ∙
    ap (λ z. scaled z (quotients (pos n) w)) (sym e)) in
    subst IsPrimitive (sym q) (IsPrimitive-quotients w n d.1.content)

minus_size : (x : ℤ) → unsigned_abs (negsuc 0 *ℤ x) ≡ unsigned_abs x
minus_size x = omega (arith, ints)

divides_back : (d : ℕ) (xs : List ℤ) → DividesAll d (scaled (negsuc 0) xs) → DividesAll d xs
divides_back d [] h = tt
divides_back d (x ∷ xs) h = (subst (λ n. d ∣ n) (minus_size x) h.0, divides_back d xs h.1)

zero_on : (xs : List ℤ) → AllZero xs → AllZero (scaled (negsuc 0) xs)
zero_on [] h = tt
zero_on (x ∷ xs) h = (ap (λ z. negsuc 0 *ℤ z) h.0, zero_on xs h.1)

pub primitive_opposite : (xs : List ℤ) → IsPrimitive xs → IsPrimitive (scaled (negsuc 0) xs)
primitive_opposite xs p = λ d h. elim (p d (divides_back d xs h)) [ inl e ↦ inl e | inr z ↦ inr (zero_on xs z) ]

-- ---- on one line

times_sizes : (x y : ℕ) (s r : ℤ) → pos x *ℤ s ≡ pos y *ℤ r → x * unsigned_abs s ≡ y * unsigned_abs r
times_sizes x y s r e = sym (unsigned_abs-mul (pos x) s) ∙ ap unsigned_abs e ∙ unsigned_abs-mul (pos y) r

head_of : (x y : ℤ) (xs ys : List ℤ) → x ∷ xs ≡ y ∷ ys → x ≡ y
head_of x y xs ys e = ap (λ l. entry_at l 0) e

abbrev tail_list : List ℤ → List ℤ
tail_list [] = []
tail_list (x ∷ xs) = xs

tail_of : (x y : ℤ) (xs ys : List ℤ) → x ∷ xs ≡ y ∷ ys → xs ≡ ys
tail_of x y xs ys e = ap tail_list e

-- a factor that is coprime to the other one divides what the other one is taken of
divides_other : (x y : ℕ) (s r : List ℤ) → IsGcd x y 1 → scaled (pos x) s ≡ scaled (pos y) r → DividesAll x r
divides_other x y [] [] g e = tt
divides_other x y [] (b ∷ r) g e = let l : 0 ≡ suc (length (scaled (pos y) r)) = ap length e in absurd (omega arith)
divides_other x y (a ∷ s) [] g e = let l : suc (length (scaled (pos x) s)) ≡ 0 = ap length e in absurd (omega arith)
divides_other x y (a ∷ s) (b ∷ r) g e =
    let h : x * unsigned_abs a ≡ y * unsigned_abs b = times_sizes x y a b (head_of _ _ (scaled (pos x) s) (scaled (pos y) r) e) in
    let d : x ∣ x * unsigned_abs a = dvd-mul_right x (unsigned_abs a) in
    (coprime-dvd x y (unsigned_abs b) g (subst (λ n. x ∣ n) h d), divides_other x y s r g (tail_of _ _ (scaled (pos x) s) (scaled (pos y) r) e))

zero_times : (y : ℕ) (b : ℤ) → 0 < y → pos y *ℤ b ≡ pos 0 → b ≡ pos 0
zero_times y b h e = same_by (pos y) b (pos 0) (omega (arith, ints)) (e ∙ omega (arith, ints))

zero_back : (y : ℕ) (s r : List ℤ) → 0 < y → s ≡ scaled (pos y) r → AllZero s → AllZero r
zero_back y s [] h e z = tt
zero_back y [] (b ∷ r) h e z = let l : 0 ≡ suc (length (scaled (pos y) r)) = ap length e in absurd (omega arith)
zero_back y (a ∷ s) (b ∷ r) h e z = (
  zero_times y b h (sym (head_of a (pos y *ℤ b) s (scaled (pos y) r) e) ∙ z.0),
  zero_back y s r h (tail_of a (pos y *ℤ b) s (scaled (pos y) r) e) z.1,
)

same_of : (x y : ℕ) (s r : List ℤ) → 0 < y → IsGcd x y 1 → scaled (pos x) s ≡ scaled (pos y) r → IsPrimitive r → IsPrimitive s → (AllZero r → ⊥) → s ≡ r
same_of x y s r hy g e pr ps nz = elim (pr x (divides_other x y s r g e)) [
  | inr z ↦ absurd (nz z)
  | inl one ↦
      let es : s ≡ scaled (pos y) r = vsame (vv s refl) (dn 1 ⊡ vv s refl) (λ w. omega arith) ∙ ap (λ n. scaled (pos n) s) (sym one) ∙ e in
      elim (ps y (divides_other y x r s (IsGcd-swap x y 1 g) (sym e))) [
        | inr z ↦ absurd (nz (zero_back y s r hy es z))
        | inl two ↦ es ∙ ap (λ n. scaled (pos n) r) two ∙ vsame (dn 1 ⊡ vv r refl) (vv r refl) (λ w. omega arith)
      ]
]

naturals : (a : ℤ) → pos 0 <ℤ a → a ≡ pos (unsigned_abs a)
naturals a h = omega (arith, ints)

positive_size : (a : ℤ) → pos 0 <ℤ a → 0 < unsigned_abs a
positive_size a h = omega (arith, ints)

quotient_positive : (g x : ℕ) → 0 < g * x → 0 < x
quotient_positive g zero h = omega arith
quotient_positive g (suc x) h = omega arith

pos_product : (g x : ℕ) → pos (g * x) ≡ pos g *ℤ pos x
pos_product g x = omega (arith, ints)

split_factor : (g x : ℕ) (s : List ℤ) → scaled (pos (g * x)) s ≡ scaled (pos g) (scaled (pos x) s)
split_factor g x s = ap (λ n. scaled n s) (pos_product g x) ∙ vsame (dn g ⊗ dn x ⊡ vv s refl) (dn g ⊡ (dn x ⊡ vv s refl)) (λ w. omega arith)

-- primitive vectors, a positive multiple of the one being a positive multiple of the other, are one
pub primitive_same : (r s : List ℤ) (k a : ℤ) → pos 0 <ℤ k → pos 0 <ℤ a → scaled k s ≡ scaled a r → IsPrimitive r → IsPrimitive s → (AllZero r → ⊥) → s ≡ r
primitive_same r s k a hk ha e pr ps nz =
    let n : ℕ = unsigned_abs k in let m : ℕ = unsigned_abs a in
    let hm : 0 < m = positive_size a ha in
    let g : ℕ = gcd n m in
    let hg : 0 < g = gcd-positive n m hm in
    let i = gcd-is n m in
    let x : ℕ = n / g in let y : ℕ = m / g in
    let en : n ≡ g * x = sym (mul-div_cancel' g i.0) in
    let em : m ≡ g * y = sym (mul-div_cancel' g i.1) in
    let one : IsGcd x y 1 = lowest-quotients n m g x y i hg en em in
    let whole : scaled (pos (g * x)) s ≡ scaled (pos (g * y)) r = ap (λ t. scaled (pos t) s) (sym en) ∙ ap (λ t. scaled t s) (sym (naturals k hk)) ∙ e ∙
    ap (λ t. scaled t r) (naturals a ha) ∙ ap (λ t. scaled (pos t) r) em in
    let low : scaled (pos x) s ≡ scaled (pos y) r =
    times_cancel (pos g) (scaled (pos x) s) (scaled (pos y) r) (omega (arith, ints)) (sym (split_factor g x s) ∙ whole ∙ split_factor g y r) in
    same_of x y s r (quotient_positive g y (subst (λ t. 0 < t) em hm)) one low pr ps nz
