-- Identities between fractions, each in one line.
-- To show one: `each_q` once for each variable, then the simplification that stands in each proof here.
use Rattle.std.proofs.Common.{◌≡◌, ◌≢◌, ℕ, ◌+◌, ◌-◌, ◌*◌, ◌<◌, suc, ℤ, pos, ◌*ℤ◌, arith, sym, ap, ◌∙◌}
use Rattle.std.proofs.lemmas.Int.{ints}
use Rattle.gf_int_theory.specs.Integers.{diff-eq, naturals}
use Rattle.gf_frac.specs.Fraction.{Fraction, over, over-eq, over-parts, whole, ◌+ℚ◌, ◌*ℚ◌, neg_ℚ, zero_ℚ, one_ℚ}
use Rattle.gf_frac.proofs.FractionLaws.{over-*, overs, each_q, dens, *ℚ_comm, *ℚ_assoc, one-*ℚ, neg_ℚ-*ℚ, zero-not-one}

pub merged : (p q a t : Fraction) → p *ℚ a +ℚ q *ℚ (a +ℚ t) ≡ (p +ℚ q) *ℚ a +ℚ q *ℚ t
merged = each_q _
    (λ a a' k. each_q _
    (λ b b' l. each_q _ (λ c c' m. each_q _ (λ d d' n. simp overs (over-eq _ _ _ _ (simp dens (simp naturals (diff-eq _ _ _ _ (omega arith)))))))))

pub exchange_inner : (a b r s : Fraction) → (a +ℚ b) +ℚ (r +ℚ s) ≡ a +ℚ (r +ℚ (b +ℚ s))
exchange_inner =
    each_q _ (λ a a' k.
    each_q _ (λ b b' l. each_q _ (λ c c' m. each_q _ (λ d d' n. simp overs (over-eq _ _ _ _ (simp dens (simp naturals (diff-eq _ _ _ _ (omega arith)))))))))

pub neg_one : (p : Fraction) → neg_ℚ one_ℚ *ℚ p ≡ neg_ℚ p
neg_one p = neg_ℚ-*ℚ one_ℚ p ∙ ap neg_ℚ (one-*ℚ p)

-- the other way round
pub turned : (b c p : Fraction) → b ≡ c +ℚ p → c ≡ b +ℚ neg_ℚ one_ℚ *ℚ p
turned b c p h = one c p ∙ ap (λ z. z +ℚ neg_ℚ p) (sym h) ∙ ap (λ z. b +ℚ z) (sym (neg_one p))
  where
    one : (c p : Fraction) → c ≡ (c +ℚ p) +ℚ neg_ℚ p
    one = each_q _ (λ a a' k. each_q _ (λ b b' l. simp overs (over-eq _ _ _ _ (simp dens (simp naturals (diff-eq _ _ _ _ (omega arith)))))))

-- what was taken away is added back
pub back : (h g c x : Fraction) → h ≡ g +ℚ neg_ℚ c *ℚ x → g ≡ h +ℚ c *ℚ x
back h g c x e = one g c x ∙ ap (λ z. z +ℚ c *ℚ x) (sym e)
  where
    one : (g c x : Fraction) → g ≡ (g +ℚ neg_ℚ c *ℚ x) +ℚ c *ℚ x
    one = each_q _
        (λ a a' k. each_q _ (λ b b' l. each_q _ (λ c c' m. simp overs (over-eq _ _ _ _ (simp dens (simp naturals (diff-eq _ _ _ _ (omega arith))))))))

pub taken_over : (s l r a : Fraction) → s ≡ l +ℚ neg_ℚ r → s ≡ a → l ≡ r +ℚ a
taken_over s l r a e f = one l r ∙ ap (λ z. r +ℚ z) (sym e ∙ f)
  where
    one : (l r : Fraction) → l ≡ r +ℚ (l +ℚ neg_ℚ r)
    one = each_q _ (λ a a' k. each_q _ (λ b b' l. simp overs (over-eq _ _ _ _ (simp dens (simp naturals (diff-eq _ _ _ _ (omega arith)))))))

pub one_not_zero : one_ℚ ≢ zero_ℚ
one_not_zero e = zero-not-one (sym e)

-- ---- for products

pub joined : (c d x p : Fraction) → c *ℚ x +ℚ (d *ℚ x +ℚ p) ≡ (c +ℚ d) *ℚ x +ℚ p
joined = each_q _
    (λ a a' k. each_q _
    (λ b b' l. each_q _ (λ c c' m. each_q _ (λ d d' n. simp overs (over-eq _ _ _ _ (simp dens (simp naturals (diff-eq _ _ _ _ (omega arith)))))))))

-- from x + p = y + q
pub crossed_over : (x p y q : Fraction) → x +ℚ p ≡ y +ℚ q → x ≡ y +ℚ (q +ℚ neg_ℚ p)
crossed_over x p y q h = one x p ∙ ap (λ z. z +ℚ neg_ℚ p) h ∙ two y q (neg_ℚ p)
  where
    one : (x p : Fraction) → x ≡ (x +ℚ p) +ℚ neg_ℚ p
    one = each_q _ (λ a a' k. each_q _ (λ b b' l. simp overs (over-eq _ _ _ _ (simp dens (simp naturals (diff-eq _ _ _ _ (omega arith)))))))

    two : (y q n : Fraction) → (y +ℚ q) +ℚ n ≡ y +ℚ (q +ℚ n)
    two = each_q _
        (λ a a' k. each_q _ (λ b b' l. each_q _ (λ c c' m. simp overs (over-eq _ _ _ _ (simp dens (simp naturals (diff-eq _ _ _ _ (omega arith))))))))

pub away : (m t c x : Fraction) → m ≡ t +ℚ c *ℚ x → t ≡ m +ℚ neg_ℚ c *ℚ x
away m t c x e = one t c x ∙ ap (λ z. z +ℚ neg_ℚ c *ℚ x) (sym e)
  where
    one : (t c x : Fraction) → t ≡ (t +ℚ c *ℚ x) +ℚ neg_ℚ c *ℚ x
    one = each_q _
        (λ a a' k. each_q _ (λ b b' l. each_q _ (λ c c' m. simp overs (over-eq _ _ _ _ (simp dens (simp naturals (diff-eq _ _ _ _ (omega arith))))))))

-- a sum of four, by twos
pub into_pieces : (m n r p l : Fraction) → (m +ℚ n) +ℚ (r +ℚ (p +ℚ l)) ≡ r +ℚ ((m +ℚ p) +ℚ (n +ℚ l))
into_pieces =
    each_q _ (λ a a' k.
    each_q _ (λ b b' l.
    each_q _ (λ c c' m. each_q _ (λ d d' n. each_q _ (λ e e' o. simp overs (over-eq _ _ _ _ (simp dens (simp naturals (diff-eq _ _ _ _ (omega arith))))))))))

pub into_lower : (t r p l : Fraction) → t +ℚ (r +ℚ (p +ℚ l)) ≡ r +ℚ (p +ℚ (t +ℚ l))
into_lower =
    each_q _ (λ a a' k.
    each_q _ (λ b b' l. each_q _ (λ c c' m. each_q _ (λ d d' n. simp overs (over-eq _ _ _ _ (simp dens (simp naturals (diff-eq _ _ _ _ (omega arith)))))))))

pub two_parts : (r p s q : Fraction) → r +ℚ (p +ℚ (s +ℚ q)) ≡ (r +ℚ s) +ℚ (p +ℚ q)
two_parts = each_q _
    (λ a a' k. each_q _
    (λ b b' l. each_q _ (λ c c' m. each_q _ (λ d d' n. simp overs (over-eq _ _ _ _ (simp dens (simp naturals (diff-eq _ _ _ _ (omega arith)))))))))

-- ---- whole numbers among fractions
pub whole-* : (j k : ℤ) → whole (j *ℤ k) ≡ whole j *ℚ whole k
whole-* j k = sym (over-* j k 0 0)

-- a fraction times its denominator
pub den_times : (c : Fraction) → whole (pos c.den) *ℚ c ≡ whole c.num
den_times c = ap (λ z. whole (pos c.den) *ℚ z) (sym (over-parts c)) ∙ over-* (pos c.den) c.num 0 (c.den - 1) ∙ over-eq _ _ _ _ (crossed c.den c.num c.positive)
  where
    crossed : (d : ℕ) (n : ℤ) → 0 < d → (pos d *ℤ n) *ℤ pos 1 ≡ n *ℤ pos (suc (0 * (d - 1) + 0 + (d - 1)))
    crossed d n h = let e : suc (0 * (d - 1) + 0 + (d - 1)) ≡ d = omega arith in rw e (swap d n)
      where
        swap : (d : ℕ) (n : ℤ) → (pos d *ℤ n) *ℤ pos 1 ≡ n *ℤ pos d
        swap d n = omega (arith, ints)

-- 1/d times d
pub inverse : (d : ℕ) → 0 < d → over (pos 1) (d - 1) *ℚ whole (pos d) ≡ one_ℚ
inverse d h = over-* (pos 1) (pos d) (d - 1) 0 ∙ over-eq _ _ _ _ (crossed d h)
  where
    crossed : (d : ℕ) → 0 < d → (pos 1 *ℤ pos d) *ℤ pos 1 ≡ pos 1 *ℤ pos (suc ((d - 1) * 0 + (d - 1) + 0))
    crossed d h = let e : suc ((d - 1) * 0 + (d - 1) + 0) ≡ d = omega arith in rw e (omega (arith, ints))

-- what d times x is decides x
pub divided_by : (d : ℕ) (x y : Fraction) → 0 < d → whole (pos d) *ℚ x ≡ y → x ≡ over (pos 1) (d - 1) *ℚ y
divided_by d x y p h = sym (one-*ℚ x) ∙ ap (λ z. z *ℚ x) (sym (inverse d p)) ∙ *ℚ_assoc (over (pos 1) (d - 1)) (whole (pos d)) x ∙
    ap (λ z. over (pos 1) (d - 1) *ℚ z) h

pub exchange : (c d x : Fraction) → (c *ℚ d) *ℚ x ≡ d *ℚ (c *ℚ x)
exchange c d x = ap (λ z. z *ℚ x) (*ℚ_comm c d) ∙ *ℚ_assoc d c x
