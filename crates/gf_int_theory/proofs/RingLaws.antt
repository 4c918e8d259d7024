-- The ring laws of whole numbers that the library lacks, by a calculus of differences.
-- `dv z` is a variable, `dn n` a natural number, and `⊕ ⊖ ⊗ dneg` are the operations; `same x y (omega arith)`
-- then shows that what x and y stand for is one number. Lemmas under binders that no `simp` reaches go this way;
-- specs/Integers.antt has the other engine.
use Rattle.std.proofs.Common.{◌≡◌, ℕ, ◌+◌, ◌*◌, ℤ, pos, ◌+ℤ◌, ◌-ℤ◌, ◌*ℤ◌, neg_ℤ, arith, ap}
use borrow.Author.Differences.{up, down, same_in, sum_is_lem, product_is, neg_is}
pub use Rattle.gf_int_theory.specs.Integers.{*ℤ_assoc, swap_middle, cancel_factor}

-- ---- the calculus

-- z as a difference of two natural numbers
pub record Diff (z : ℤ) : Type 0 where
  pub more : ℕ
  pub less : ℕ
  pub is : up z + less ≡ down z + more

-- a whole number as a difference
abbrev pub dv : (z : ℤ) → Diff z
dv z = record { more = up z; less = down z; is = omega arith }

-- a natural number as a difference
abbrev pub dn : (n : ℕ) → Diff (pos n)
dn n = record { more = n; less = 0; is = omega arith }

infixl 6 ◌⊕◌ ◌⊖◌
infixl 7 ◌⊗◌
-- the sum of two differences
abbrev pub ◌⊕◌ : {a b : ℤ} → Diff a → Diff b → Diff (a +ℤ b)
◌⊕◌ {a} {b} x y = record { more = x.more + y.more; less = x.less + y.less; is = omega (arith, sum_is_lem a b, x.is, y.is) }

-- the negative of a difference
abbrev pub dneg : {a : ℤ} → Diff a → Diff (neg_ℤ a)
dneg {a} x = record { more = x.less; less = x.more; is = omega (arith, neg_is a, x.is) }

-- one difference less another
abbrev pub ◌⊖◌ : {a b : ℤ} → Diff a → Diff b → Diff (a -ℤ b)
x ⊖ y = x ⊕ dneg y

-- how a product of differences adds up
pub mul_core : (u d p q v e r s : ℕ) → u + q ≡ d + p → v + s ≡ e + r → (u * v + d * e) + (p * s + q * r) ≡ (u * e + d * v) + (p * r + q * s)
mul_core u d p q v e r s h k = omega (arith, ap (λ n. n * v) h, ap (λ n. n * e) h, ap (λ n. p * n) k, ap (λ n. q * n) k)

-- the product of two differences
abbrev pub ◌⊗◌ : {a b : ℤ} → Diff a → Diff b → Diff (a *ℤ b)
◌⊗◌ {a} {b} x y = record {
  more = x.more * y.more + x.less * y.less;
  less = x.more * y.less + x.less * y.more;
  is = omega (arith, product_is a b, mul_core (up a) (down a) x.more x.less (up b) (down b) y.more y.less x.is y.is);
}

-- two numbers are one where their differences are
pub same : {a b : ℤ} (x : Diff a) (y : Diff b) → x.more + y.less ≡ y.more + x.less → a ≡ b
same {a} {b} x y h = same_in a b (omega (arith, x.is, y.is))

-- ---- the laws

-- a product with a sum
pub *ℤ-+ℤ : (a b c : ℤ) → a *ℤ (b +ℤ c) ≡ a *ℤ b +ℤ a *ℤ c
*ℤ-+ℤ a b c = same (dv a ⊗ (dv b ⊕ dv c)) (dv a ⊗ dv b ⊕ dv a ⊗ dv c) (omega arith)

-- a sum times a number
pub +ℤ-*ℤ : (a b c : ℤ) → (a +ℤ b) *ℤ c ≡ a *ℤ c +ℤ b *ℤ c
+ℤ-*ℤ a b c = same ((dv a ⊕ dv b) ⊗ dv c) (dv a ⊗ dv c ⊕ dv b ⊗ dv c) (omega arith)

-- a product with a difference
pub *ℤ--ℤ : (a b c : ℤ) → a *ℤ (b -ℤ c) ≡ a *ℤ b -ℤ a *ℤ c
*ℤ--ℤ a b c = same (dv a ⊗ (dv b ⊖ dv c)) (dv a ⊗ dv b ⊖ dv a ⊗ dv c) (omega arith)

-- a negative factor on the left
pub neg-*ℤ : (a b : ℤ) → neg_ℤ a *ℤ b ≡ neg_ℤ (a *ℤ b)
neg-*ℤ a b = same (dneg (dv a) ⊗ dv b) (dneg (dv a ⊗ dv b)) (omega arith)

-- a negative factor on the right
pub *ℤ-neg : (a b : ℤ) → a *ℤ neg_ℤ b ≡ neg_ℤ (a *ℤ b)
*ℤ-neg a b = same (dv a ⊗ dneg (dv b)) (dneg (dv a ⊗ dv b)) (omega arith)
