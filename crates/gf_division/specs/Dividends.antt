-- A polynomial under reduction, cut at an index: the terms above the index and the terms below it, each list descending.
-- Moves carry terms over the index; a subtraction changes terms below it.
-- Laws: proofs/DividendLaws.antt, proofs/SubtractionLaws.antt.
use Rattle.std.specs.Prelude.{◌≡◌, ◌≢◌, ◌⊎◌, ℕ, zero, [], ◌∷◌, ◌++◌, length, reverse, Contains}
use Rattle.std.specs.declared.cmp.Ordering.{Ordering}
use Rattle.std.specs.declared.cmp.Ordering.TheVariants.{Less, Greater}
use Rattle.gf_frac.specs.Fraction.{Fraction, ◌-ℚ◌, ◌*ℚ◌, neg_ℚ, zero_ℚ, one_ℚ}
use Rattle.gf_frac.specs.Fits.{Fits}
use Rattle.gf_frac.specs.declared.refusal.Op.TheVariants.{Sub, Mul}
use Rattle.gf_frac.specs.declared.refusal.Overflow.{Overflow}
use Rattle.gf_exponents_theory.specs.Exponents.{Exponents, plus, Divides}
use Rattle.gf_exponents_theory.specs.Orders.{deglex}
use Rattle.gf_poly.specs.declared.Term.{Term}
use Rattle.gf_poly.specs.declared.error.PolyError.{PolyError}
use Rattle.gf_poly.specs.declared.error.PolyError.TheVariants as errors
use Rattle.gf_poly.specs.Refusals.{ByKind, UnlessMemory}
use Rattle.gf_poly.specs.Monomial.{IsFirstOverflow}
use Rattle.gf_poly.specs.Polynomial.{Terms, coefficient, SamePolynomial, times, HasVariables, IsDescending}
use Rattle.gf_poly.specs.Sums.{PushesNonzero}
use Rattle.gf_poly.specs.Marking.{MarkedPolynomial, Each, head_of}
use Rattle.gf_division.specs.declared.dividend.Dividend.{Dividend}

-- ---- two lists

-- the terms above the index, and those below it
pub record Split : Type 0 where
  pub above : Terms
  pub below : Terms

-- all terms
abbrev pub joined_terms : Split → Terms
joined_terms s = s.above ++ s.below

-- what is kept: of the terms below the index the least stands first
abbrev pub split_of : Dividend → Split
split_of d = record { above = d.above.items; below = reverse d.below.items }

-- the terms descend, in n variables
pub record IsSound (n : ℕ) (s : Split) : Type 0 where
  pub descending : IsDescending (joined_terms s)
  pub variables : HasVariables n (joined_terms s)

-- t is the first term of f
pub record IsTermInFront (f : Terms) (t : Term) : Type 0 where
  pub rest : Terms
  pub is : f ≡ t ∷ rest

-- x divides the first term of f
pub record DividesFirst (x : Exponents) (f : Terms) : Type 0 where
  pub term : Term
  pub first : IsTermInFront f term
  pub divides : Divides x term.mono

-- ---- moves

-- the first term below the index goes above it
pub record PassesOne (old new : Split) : Type 0 where
  pub term : Term
  pub below : old.below ≡ term ∷ new.below
  pub above : new.above ≡ old.above ++ term ∷ []

-- each term of f is greater than x
abbrev pub AreOver : Exponents → Terms → Type 0
AreOver x f = Each (λ (t : Term). deglex t.mono x ≡ Greater) f

-- each term of f is greater than x, or at x
abbrev pub AreFrom : Exponents → Terms → Type 0
AreFrom x f = Each (λ (t : Term). (t.mono ≡ x) ⊎ (deglex t.mono x ≡ Greater)) f

-- how the first term compares with x; where there is none it counts as less
abbrev pub FirstIs : Terms → Exponents → Ordering → Type 0
FirstIs [] x o = o ≡ Less
FirstIs (t ∷ f) x o = o ≡ deglex t.mono x

-- the terms greater than x go above the index; the first one that stays compares with x so
pub record Descends (x : Exponents) (old new : Split) (o : Ordering) : Type 0 where
  pub passed : Terms
  pub above : new.above ≡ old.above ++ passed
  pub below : old.below ≡ passed ++ new.below
  pub over : AreOver x passed
  pub first : FirstIs new.below x o
  pub ends : o ≢ Greater

-- terms go below the index
pub record MovesUp (old new : Split) : Type 0 where
  pub passed : Terms
  pub above : old.above ≡ new.above ++ passed
  pub below : new.below ≡ passed ++ old.below

-- ---- subtractions

-- the difference of a and c, which leaves the range
pub record IsDifferenceOverflow (a c : Fraction) (o : Overflow) : Type 0 where
  pub operation : o.op ≡ Sub
  pub left : o.left ≡ a
  pub right : o.right ≡ c
  pub leaves : ¬ (Fits o.op o.left o.right)

-- why c isn't taken from a
abbrev pub IsDifferenceRefusal : Fraction → Fraction → PolyError → Type 0
IsDifferenceRefusal a c = ByKind (IsDifferenceOverflow a c) (λ o. ⊥)

-- c is taken from the coefficient of the first term below the index; what is left of the term goes above the index
pub record TakesFromFirst (c : Fraction) (old new : Split) : Type 0 where
  pub term : Term
  pub below : old.below ≡ term ∷ new.below
  pub above : PushesNonzero old.above new.above (record { coef = term.coef -ℚ c; mono = term.mono })

-- why it isn't taken from that of the first term of f
abbrev pub IsFirstRefusal : Terms → Fraction → PolyError → Type 0
IsFirstRefusal [] c e = ⊥
IsFirstRefusal (t ∷ f) c e = IsDifferenceRefusal t.coef c e

-- the product of c, which isn't 1, and a, which leaves the range
pub record IsScalingOverflow (c a : Fraction) (o : Overflow) : Type 0 where
  pub other : c ≢ one_ℚ
  pub operation : o.op ≡ Mul
  pub left : o.left ≡ c
  pub right : o.right ≡ a
  pub leaves : ¬ (Fits o.op o.left o.right)

-- c times the monomial x is taken away, and the index is below x
pub record TakesAway (c : Fraction) (x : Exponents) (old new : Split) : Type 0 where
  pub same : SamePolynomial (joined_terms new) (joined_terms old ++ record { coef = neg_ℚ c; mono = x } ∷ [])
  pub sound : IsSound (length x) new
  pub passed : Terms
  pub above : new.above ≡ old.above ++ passed
  pub from : AreFrom x new.above

-- the terms above the index are greater than each product of u with a term of g
abbrev pub AreOverProducts : Exponents → Terms → Terms → Type 0
AreOverProducts u g f = Each (λ (t : Term). AreOver (plus u t.mono) f) g

-- c times u times g is taken away
pub record Subtracts (c : Fraction) (u : Exponents) (g : Terms) (old new : Split) : Type 0 where
  pub same : SamePolynomial (joined_terms new) (joined_terms old ++ times (neg_ℚ c) u g)
  pub sound : IsSound (length u) new
  pub passed : Terms
  pub above : new.above ≡ old.above ++ passed

-- the product of c and the coefficient leaves the range, or that of u and the monomial, or the difference of the
-- coefficient of f at that monomial and the product of coefficients
abbrev pub IsRefusedAt : Terms → Fraction → Exponents → Term → PolyError → Type 0
IsRefusedAt f c u t (errors.Overflow o) = IsScalingOverflow c t.coef o ⊎ IsDifferenceOverflow (coefficient f (plus u t.mono)) (c *ℚ t.coef) o
IsRefusedAt f c u t (errors.Exponent o) = IsFirstOverflow u t.mono o
IsRefusedAt f c u t errors.Memory = ⊥

-- why c times u times g isn't taken away from f: at a term of g
pub record IsTermRefusal (f : Terms) (c : Fraction) (u : Exponents) (g : Terms) (e : PolyError) : Type 0 where
  pub term : Term
  pub contained : Contains g term
  pub cause : IsRefusedAt f c u term e

-- why c times u times g isn't taken away from f
abbrev pub IsSubtractionRefusal : Terms → Fraction → Exponents → Terms → PolyError → Type 0
IsSubtractionRefusal f c u g = UnlessMemory (IsTermRefusal f c u g)

-- ---- steps

-- the polynomial has the variables of b
pub record SharesVariables (b : MarkedPolynomial) (s : Split) : Type 0 where
  pub n : ℕ
  pub sound : IsSound n s
  pub poly : HasVariables n b.poly

-- the step at the first term below the index, by b: q is the quotient of that term by the mark, q times b is taken away,
-- and no term goes above the index
pub record TakesStep (b : MarkedPolynomial) (old : Split) (q : Term) (new : Split) : Type 0 where
  pub there : q.coef ≢ zero_ℚ
  pub coefficient_is : coefficient (joined_terms old) (head_of old.below zero) ≡ q.coef
  pub product : plus q.mono b.head ≡ head_of old.below zero
  pub variables : length q.mono ≡ length b.head
  pub same : SamePolynomial (joined_terms new) (joined_terms old ++ times (neg_ℚ q.coef) q.mono b.poly)
  pub sound : (n : ℕ) → IsSound n old → IsSound n new
  pub passed : Terms
  pub above : old.above ≡ new.above ++ passed
