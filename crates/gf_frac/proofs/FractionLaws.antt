-- The field of fractions.
-- To cite: `over-+`, `over-*`, `over-neg` (the ruleset `overs`), `each_q` with `over-eq` for an identity in one line,
-- the laws of the ring, `*ℚ-reciprocal_ℚ`, `zero_of_*ℚ`, `zero_by_num`, `Decides-fraction_eq`. An identity between fractions:
--   each_q _ (λ a a' k. each_q _ (λ b b' l. simp overs (over-eq _ _ _ _ (simp dens (simp naturals (diff-eq _ _ _ _ (omega arith)))))))
use Rattle.std.specs.Int.RustNames.{unsigned_abs}
use Rattle.std.proofs.Common.{◌≡◌, ℕ, zero, suc, ◌+◌, ◌-◌, ◌*◌, ◌<◌, ℤ, pos, negsuc, ◌+ℤ◌, ◌*ℤ◌, ◌⊎◌, arith, sym, refl, ap, ◌∙◌, subst, inl, inr}
use Rattle.std.proofs.Math.Nat.{mul-pos}
use Rattle.std.proofs.lemmas.Int.{ints}
use lib.IntN.{neg_ℤ}
use Rattle.gf_int_theory.specs.Gcd.{gcd}
use Rattle.gf_int_theory.specs.Integers.{diff, each, diffs, diff-is, diff-eq, naturals, swap_middle}
use borrow.Author.Differences.{up, down}
use Rattle.std.specs.Bool.{Decides}
use Rattle.std.proofs.lemmas.Bool.Decides.{Decides-int_eq, Decides-eqb, Decides-and}
use Rattle.gf_frac.specs.Equality.{fraction_eq}
use Rattle.gf_frac.specs.Fraction.{same_parts, Fraction, over, over-is, over-eq, over-parts, same_crosswise, each_fraction, ◌+ℚ◌, ◌*ℚ◌, neg_ℚ, signed_as}
use Rattle.gf_frac.specs.Fraction.{reciprocal_ℚ, zero_ℚ, one_ℚ}

-- ---- operations on p / (n + 1)

less_one : (x y : Fraction) → suc (x.den * y.den - 1) ≡ x.den * y.den
less_one x y = let h : 0 < x.den * y.den = mul-pos x.positive y.positive in omega arith

sum_turns : (xn xd yn yd n m p r : ℤ) → xn *ℤ n ≡ p *ℤ xd → yn *ℤ m ≡ r *ℤ yd → (xn *ℤ yd +ℤ yn *ℤ xd) *ℤ (n *ℤ m) ≡ (p *ℤ m +ℤ r *ℤ n) *ℤ (xd *ℤ yd)
sum_turns xn xd yn yd n m p r h k = one xn xd yn yd n m ∙ ap (λ z. z *ℤ (yd *ℤ m) +ℤ (yn *ℤ m) *ℤ (xd *ℤ n)) h ∙
    ap (λ z. (p *ℤ xd) *ℤ (yd *ℤ m) +ℤ z *ℤ (xd *ℤ n)) k ∙ two p r xd yd n m
  where
    one : (xn xd yn yd n m : ℤ) → (xn *ℤ yd +ℤ yn *ℤ xd) *ℤ (n *ℤ m) ≡ (xn *ℤ n) *ℤ (yd *ℤ m) +ℤ (yn *ℤ m) *ℤ (xd *ℤ n)
    one = each _ (λ a a'. each _ (λ b b'. each _ (λ c c'. each _ (λ d d'. each _ (λ e e'. each _ (λ f f'. simp diffs (diff-eq _ _ _ _ (omega arith))))))))

    two : (p r xd yd n m : ℤ) → (p *ℤ xd) *ℤ (yd *ℤ m) +ℤ (r *ℤ yd) *ℤ (xd *ℤ n) ≡ (p *ℤ m +ℤ r *ℤ n) *ℤ (xd *ℤ yd)
    two = each _ (λ a a'. each _ (λ b b'. each _ (λ c c'. each _ (λ d d'. each _ (λ e e'. each _ (λ f f'. simp diffs (diff-eq _ _ _ _ (omega arith))))))))

-- the sum of two quotients
pub over-+ : (p r : ℤ) (n m : ℕ) → over p n +ℚ over r m ≡ over (p *ℤ pos (suc m) +ℤ r *ℤ pos (suc n)) (n * m + n + m)
unfolding ◌+ℚ◌
over-+ p r n m =
    let x = over p n in
    let y = over r m in
    over-eq _ _ _ _ (ap (λ z. (x.num *ℤ pos y.den +ℤ y.num *ℤ pos x.den) *ℤ pos z) (product n m)
    ∙ sum_turns x.num (pos x.den) y.num (pos y.den) (pos (suc n)) (pos (suc m)) p r (over-is p n) (over-is r m)
    ∙ ap (λ z. (p *ℤ pos (suc m) +ℤ r *ℤ pos (suc n)) *ℤ pos z) (sym (less_one x y)))
  where
    product : (n m : ℕ) → suc (n * m + n + m) ≡ suc n * suc m
    product n m = omega arith

-- the product of two quotients
pub over-* : (p r : ℤ) (n m : ℕ) → over p n *ℚ over r m ≡ over (p *ℤ r) (n * m + n + m)
unfolding ◌*ℚ◌
over-* p r n m =
    let x = over p n in
    let y = over r m in
    over-eq _ _ _ _ (ap (λ z. (x.num *ℤ y.num) *ℤ pos z) (product n m)
    ∙ swap_middle x.num y.num (pos (suc n)) (pos (suc m))
    ∙ ap (λ z. z *ℤ (y.num *ℤ pos (suc m))) (over-is p n) ∙ ap (λ z. (p *ℤ pos x.den) *ℤ z) (over-is r m)
    ∙ swap_middle p (pos x.den) r (pos y.den)
    ∙ ap (λ z. (p *ℤ r) *ℤ pos z) (sym (less_one x y)))
  where
    product : (n m : ℕ) → suc (n * m + n + m) ≡ suc n * suc m
    product n m = omega arith

-- the negative of a quotient
pub over-neg : (p : ℤ) (n : ℕ) → neg_ℚ (over p n) ≡ over (neg_ℤ p) n
unfolding neg_ℚ
over-neg p n =
    let x = over p n in
    let d : suc (x.den - 1) ≡ x.den = omega (arith, x.positive) in
    over-eq _ _ _ _ (neg_left x.num (pos (suc n)) ∙ ap neg_ℤ (over-is p n) ∙ sym (neg_left p (pos x.den)) ∙ ap (λ z. neg_ℤ p *ℤ pos z) (sym d))
  where
    neg_left : (a b : ℤ) → neg_ℤ a *ℤ b ≡ neg_ℤ (a *ℤ b)
    neg_left = each _ (λ a a'. each _ (λ b b'. simp diffs (diff-eq _ _ _ _ (omega arith))))

-- an operation on quotients, written as one quotient
pub ruleset overs = (over-+, over-*, over-neg)

-- ---- identities in one line

-- what holds of each quotient of a difference holds of each fraction
pub each_q : (P : Fraction → Type 0) → ((m n k : ℕ) → P (over (diff m n) k)) → (x : Fraction) → P x
each_q P h = each_fraction P (λ p k. subst (λ z. P (over z k)) (diff-is p) (at p k))
  where
    at : (p : ℤ) (k : ℕ) → P (over (diff (up p) (down p)) k)
    at p k = h (up p) (down p) k

-- the number k + 1, kept whole while products are multiplied out
unfoldable pub den : ℕ → ℕ
den k = suc k

-- so that products of denominators are products
pub suc-den : (k : ℕ) → suc k ≡ den k
unfolding den
suc-den k = refl

-- the denominator of a product
pub den-product : (n m : ℕ) → den (n * m + n + m) ≡ den n * den m
unfolding den
den-product n m = omega arith

-- denominators as products
pub ruleset dens = (suc-den, den-product)

-- ---- the ring

-- a sum doesn't depend on the order
pub +ℚ_comm : (x y : Fraction) → x +ℚ y ≡ y +ℚ x
+ℚ_comm = each_q _ (λ a a' k. each_q _ (λ b b' l. simp overs (over-eq _ _ _ _ (simp dens (simp naturals (diff-eq _ _ _ _ (omega arith)))))))

-- a sum doesn't depend on the brackets
pub +ℚ_assoc : (x y z : Fraction) → (x +ℚ y) +ℚ z ≡ x +ℚ (y +ℚ z)
+ℚ_assoc = each_q _
    (λ a a' k. each_q _ (λ b b' l. each_q _ (λ c c' m. simp overs (over-eq _ _ _ _ (simp dens (simp naturals (diff-eq _ _ _ _ (omega arith))))))))

-- a product doesn't depend on the order
pub *ℚ_comm : (x y : Fraction) → x *ℚ y ≡ y *ℚ x
*ℚ_comm = each_q _ (λ a a' k. each_q _ (λ b b' l. simp overs (over-eq _ _ _ _ (simp dens (simp naturals (diff-eq _ _ _ _ (omega arith)))))))

-- a product doesn't depend on the brackets
pub *ℚ_assoc : (x y z : Fraction) → (x *ℚ y) *ℚ z ≡ x *ℚ (y *ℚ z)
*ℚ_assoc = each_q _
    (λ a a' k. each_q _ (λ b b' l. each_q _ (λ c c' m. simp overs (over-eq _ _ _ _ (simp dens (simp naturals (diff-eq _ _ _ _ (omega arith))))))))

-- a product with a sum
pub *ℚ-+ℚ : (x y z : Fraction) → x *ℚ (y +ℚ z) ≡ x *ℚ y +ℚ x *ℚ z
*ℚ-+ℚ = each_q _ (λ a a' k. each_q _ (λ b b' l. each_q _ (λ c c' m. simp overs (over-eq _ _ _ _ (simp dens (simp naturals (diff-eq _ _ _ _ (omega arith))))))))

-- the summands in the middle change indices
pub +ℚ-middle : (a b c d : Fraction) → (a +ℚ b) +ℚ (c +ℚ d) ≡ (a +ℚ c) +ℚ (b +ℚ d)
+ℚ-middle = each_q _
    (λ a a' k. each_q _
    (λ b b' l. each_q _ (λ c c' m. each_q _ (λ d d' n. simp overs (over-eq _ _ _ _ (simp dens (simp naturals (diff-eq _ _ _ _ (omega arith)))))))))

-- ---- zero and one

suc-product : (n m : ℕ) → suc (n * m + n + m) ≡ suc n * suc m
suc-product n m = omega arith

-- zero on the right
pub +ℚ-zero : (x : Fraction) → x +ℚ zero_ℚ ≡ x
+ℚ-zero = each_fraction _ (λ a b. simp overs (over-eq _ _ _ _ (simp suc-product (law a (suc b)))))
  where
    law : (a : ℤ) (b : ℕ) → (a *ℤ pos 1 +ℤ pos 0 *ℤ pos b) *ℤ pos b ≡ a *ℤ pos (b * 1)
    law = each _ (λ a a'. λ b. simp naturals (diff-eq _ _ _ _ (omega arith)))

-- zero on the left
pub zero-+ℚ : (x : Fraction) → zero_ℚ +ℚ x ≡ x
zero-+ℚ x = +ℚ_comm zero_ℚ x ∙ +ℚ-zero x

-- one on the right
pub *ℚ-one : (x : Fraction) → x *ℚ one_ℚ ≡ x
*ℚ-one = each_fraction _ (λ a b. simp overs (over-eq _ _ _ _ (simp suc-product (law a (suc b)))))
  where
    law : (a : ℤ) (b : ℕ) → (a *ℤ pos 1) *ℤ pos b ≡ a *ℤ pos (b * 1)
    law = each _ (λ a a'. λ b. simp naturals (diff-eq _ _ _ _ (omega arith)))

-- one on the left
pub one-*ℚ : (x : Fraction) → one_ℚ *ℚ x ≡ x
one-*ℚ x = *ℚ_comm one_ℚ x ∙ *ℚ-one x

-- a product with zero
pub *ℚ-zero : (x : Fraction) → x *ℚ zero_ℚ ≡ zero_ℚ
*ℚ-zero = each_fraction _ (λ a b. simp overs (over-eq _ _ _ _ (simp suc-product (law a (suc b)))))
  where
    law : (a : ℤ) (b : ℕ) → (a *ℤ pos 0) *ℤ pos 1 ≡ pos 0 *ℤ pos (b * 1)
    law = each _ (λ a a'. λ b. simp naturals (diff-eq _ _ _ _ (omega arith)))

-- zero times a fraction
pub zero-*ℚ : (x : Fraction) → zero_ℚ *ℚ x ≡ zero_ℚ
zero-*ℚ x = *ℚ_comm zero_ℚ x ∙ *ℚ-zero x

-- ---- negatives

-- a fraction and its negative
pub +ℚ-neg_ℚ : (x : Fraction) → x +ℚ neg_ℚ x ≡ zero_ℚ
+ℚ-neg_ℚ = each_fraction _ (λ a b. simp overs (over-eq _ _ _ _ (simp suc-product (law a (suc b)))))
  where
    law : (a : ℤ) (b : ℕ) → (a *ℤ pos b +ℤ neg_ℤ a *ℤ pos b) *ℤ pos 1 ≡ pos 0 *ℤ pos (b * b)
    law = each _ (λ a a'. λ b. simp naturals (diff-eq _ _ _ _ (omega arith)))

-- a negative taken twice
pub neg_ℚ-neg_ℚ : (x : Fraction) → neg_ℚ (neg_ℚ x) ≡ x
neg_ℚ-neg_ℚ = each_q _ (λ a a' k. simp overs (over-eq _ _ _ _ (simp dens (simp naturals (diff-eq _ _ _ _ (omega arith))))))

-- the negative of a sum
pub neg_ℚ-+ℚ : (x y : Fraction) → neg_ℚ (x +ℚ y) ≡ neg_ℚ x +ℚ neg_ℚ y
neg_ℚ-+ℚ = each_q _ (λ a a' k. each_q _ (λ b b' l. simp overs (over-eq _ _ _ _ (simp dens (simp naturals (diff-eq _ _ _ _ (omega arith)))))))

-- a negative factor on the left
pub neg_ℚ-*ℚ : (x y : Fraction) → neg_ℚ x *ℚ y ≡ neg_ℚ (x *ℚ y)
neg_ℚ-*ℚ = each_q _ (λ a a' k. each_q _ (λ b b' l. simp overs (over-eq _ _ _ _ (simp dens (simp naturals (diff-eq _ _ _ _ (omega arith)))))))

-- a negative factor on the right
pub *ℚ-neg_ℚ : (x y : Fraction) → x *ℚ neg_ℚ y ≡ neg_ℚ (x *ℚ y)
*ℚ-neg_ℚ = each_q _ (λ a a' k. each_q _ (λ b b' l. simp overs (over-eq _ _ _ _ (simp dens (simp naturals (diff-eq _ _ _ _ (omega arith)))))))

-- ---- which fraction is zero

-- the numerator of zero
pub num-zero : zero_ℚ.num ≡ pos 0
unfolding over gcd
num-zero = refl

-- the numerator of one
pub num-one : one_ℚ.num ≡ pos 1
unfolding over gcd
num-one = refl

-- a fraction with numerator 0 is zero
pub zero_by_num : (x : Fraction) → x.num ≡ pos 0 → x ≡ zero_ℚ
zero_by_num x e = same_crosswise x zero_ℚ (ap (λ z. z *ℤ pos zero_ℚ.den) e ∙ none zero_ℚ.den x.den ∙ ap (λ z. z *ℤ pos x.den) (sym num-zero))
  where
    none : (d e : ℕ) → pos 0 *ℤ pos d ≡ pos 0 *ℤ pos e
    none d e = omega (arith, ints)

-- zero has numerator 0
pub num_by_zero : (x : Fraction) → x ≡ zero_ℚ → x.num ≡ pos 0
num_by_zero x e = ap (λ (z : Fraction). z.num) e ∙ num-zero

-- zero isn't one
pub zero-not-one : ¬ (zero_ℚ ≡ one_ℚ)
zero-not-one = λ e. let h : pos 0 ≡ pos 1 = sym num-zero ∙ ap (λ (z : Fraction). z.num) e ∙ num-one in omega (arith, ints, h)

-- a fraction is zero or it isn't
pub zero_or_not : (x : Fraction) → (x ≡ zero_ℚ) ⊎ (¬ (x ≡ zero_ℚ))
zero_or_not x = at x.num refl
  where
    at : (p : ℤ) → x.num ≡ p → (x ≡ zero_ℚ) ⊎ (¬ (x ≡ zero_ℚ))
    at (pos zero) e = inl (zero_by_num x e)
    at (pos (suc a)) e = inr (λ z. let h : pos (suc a) ≡ pos 0 = sym e ∙ num_by_zero x z in omega (arith, ints, h))
    at (negsuc a) e = inr (λ z. let h : negsuc a ≡ pos 0 = sym e ∙ num_by_zero x z in omega (arith, ints, h))

-- ---- reciprocals

times_signed : (p : ℤ) (d : ℕ) → p *ℤ signed_as p d ≡ pos (unsigned_abs p * d)
times_signed (pos zero) d = omega (arith, ints)
times_signed (pos (suc a)) d = omega (arith, ints)
times_signed (negsuc a) zero = omega (arith, ints)
times_signed (negsuc a) (suc d) = omega (arith, ints)

abs_positive : (p : ℤ) → ¬ (p ≡ pos 0) → 0 < unsigned_abs p
abs_positive (pos zero) h = absurd (h refl)
abs_positive (pos (suc a)) h = omega arith
abs_positive (negsuc a) h = omega arith

-- a nonzero fraction times its reciprocal
pub *ℚ-reciprocal_ℚ : (x : Fraction) → ¬ (x ≡ zero_ℚ) → x *ℚ reciprocal_ℚ x ≡ one_ℚ
unfolding reciprocal_ℚ
*ℚ-reciprocal_ℚ x h =
    let a : 0 < unsigned_abs x.num = abs_positive x.num (λ e. h (zero_by_num x e)) in
    let d : suc (x.den - 1) ≡ x.den = omega (arith, x.positive) in
    let m : suc (unsigned_abs x.num - 1) ≡ unsigned_abs x.num = omega arith in
    ap (λ z. z *ℚ over (signed_as x.num x.den) (unsigned_abs x.num - 1)) (sym (over-parts x))
    ∙ over-* x.num (signed_as x.num x.den) (x.den - 1) (unsigned_abs x.num - 1)
    ∙ over-eq _ _ _ _ (rw (suc-product (x.den - 1) (unsigned_abs x.num - 1), d, m, times_signed x.num x.den) (turn (unsigned_abs x.num) x.den))
  where
    turn : (a d : ℕ) → pos (a * d) *ℤ pos 1 ≡ pos 1 *ℤ pos (d * a)
    turn a d = omega (arith, ints)

-- the reciprocal of a nonzero fraction, times it
pub reciprocal_ℚ-*ℚ : (x : Fraction) → ¬ (x ≡ zero_ℚ) → reciprocal_ℚ x *ℚ x ≡ one_ℚ
reciprocal_ℚ-*ℚ x h = *ℚ_comm (reciprocal_ℚ x) x ∙ *ℚ-reciprocal_ℚ x h

-- a nonzero factor is cancelled
pub *ℚ_cancel : (x y z : Fraction) → ¬ (x ≡ zero_ℚ) → x *ℚ y ≡ x *ℚ z → y ≡ z
*ℚ_cancel x y z h e = sym (back y) ∙ ap (λ w. reciprocal_ℚ x *ℚ w) e ∙ back z
  where
    back : (y : Fraction) → reciprocal_ℚ x *ℚ (x *ℚ y) ≡ y
    back y = sym (*ℚ_assoc (reciprocal_ℚ x) x y) ∙ ap (λ w. w *ℚ y) (reciprocal_ℚ-*ℚ x h) ∙ one-*ℚ y

-- there are no zero divisors
pub zero_of_*ℚ : (x y : Fraction) → x *ℚ y ≡ zero_ℚ → (x ≡ zero_ℚ) ⊎ (y ≡ zero_ℚ)
zero_of_*ℚ x y e = at (zero_or_not x)
  where
    at : (x ≡ zero_ℚ) ⊎ (¬ (x ≡ zero_ℚ)) → (x ≡ zero_ℚ) ⊎ (y ≡ zero_ℚ)
    at (inl h) = inl h
    at (inr h) = inr (*ℚ_cancel x y zero_ℚ h (e ∙ sym (*ℚ-zero x)))

-- ---- as school says

-- a sum, crosswise
pub sum-crosswise : (x y : Fraction) → (x +ℚ y).num *ℤ pos (x.den * y.den) ≡ (x.num *ℤ pos y.den +ℤ y.num *ℤ pos x.den) *ℤ pos (x +ℚ y).den
unfolding ◌+ℚ◌
sum-crosswise x y = subst (λ z. (x +ℚ y).num *ℤ pos z ≡ (x.num *ℤ pos y.den +ℤ y.num *ℤ pos x.den) *ℤ pos (x +ℚ y).den) (less_one x y) (over-is _ _)

-- a product, crosswise
pub product-crosswise : (x y : Fraction) → (x *ℚ y).num *ℤ pos (x.den * y.den) ≡ (x.num *ℤ y.num) *ℤ pos (x *ℚ y).den
unfolding ◌*ℚ◌
product-crosswise x y = subst (λ z. (x *ℚ y).num *ℤ pos z ≡ (x.num *ℤ y.num) *ℤ pos (x *ℚ y).den) (less_one x y) (over-is _ _)

-- ---- equality

both_numbers : (x y : Fraction) → Decides (fraction_eq x y) ((x.num ≡ y.num) × (x.den ≡ y.den))
both_numbers x y = Decides-and _ _ (Decides-int_eq x.num y.num) (Decides-eqb x.den y.den)

-- `==` answers true exactly where the fractions are one
pub Decides-fraction_eq : (x y : Fraction) → Decides (fraction_eq x y) (x ≡ y)
Decides-fraction_eq x y = (
  λ h. let p = (both_numbers x y).0 h in same_parts x y p.0 p.1,
  λ e. (both_numbers x y).1 (ap (λ (z : Fraction). z.num) e, ap (λ (z : Fraction). z.den) e),
)
