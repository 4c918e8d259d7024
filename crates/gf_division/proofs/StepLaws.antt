-- One step at the first term below the index: what it gives, and why it is refused.
-- To cite: some_terms, greatest_over, front_descends, sound_up, step_taken, StepFacts, step_facts, first_refused, step_refused.
use Rattle.std.specs.Prelude.{◌≡◌, ◌≢◌, ℕ, zero, ◌<◌, [], ◌∷◌, ◌++◌, length, Contains}
use Rattle.std.specs.declared.cmp.Ordering.TheVariants.{Greater}
use Rattle.std.proofs.Common.{arith, refl, sym, ap, ◌∙◌, subst, inl, inr, get_or, take}
use Rattle.std.proofs.lemmas.List.{take_at}
use Rattle.gf_frac.specs.Fraction.{◌*ℚ◌, neg_ℚ, zero_ℚ}
use Rattle.gf_frac.specs.Fits.{Fits}
use Rattle.gf_frac.specs.declared.refusal.Op.{Op}
use Rattle.gf_frac.specs.declared.refusal.Overflow.{Overflow}
use Rattle.gf_exponents_theory.specs.Exponents.{Exponents, plus}
use Rattle.gf_exponents_theory.specs.Orders.{deglex}
use Rattle.gf_exponents_theory.proofs.ExponentsLaws.{same_of}
use Rattle.gf_poly.specs.declared.Term.{Term}
use Rattle.gf_poly.specs.declared.error.PolyError.{PolyError}
use Rattle.gf_poly.specs.declared.error.PolyError.TheVariants as errors
use Rattle.gf_poly.specs.declared.monomial.ExponentOverflow.{ExponentOverflow}
use Rattle.gf_poly.specs.Monomial.{IsFirstOverflow}
use Rattle.gf_poly.specs.Polynomial.{Terms, coefficient, times, IsAbove, IsDescending, HasVariables}
use Rattle.gf_poly.specs.Marking.{MarkedPolynomial, head_of, HasMarkedTerm}
use Rattle.gf_poly.proofs.DescendingLaws.{greater_trans}
pub use Rattle.gf_poly.proofs.CoefficientLaws.{term_length, term_coefficient}
use Rattle.gf_poly.proofs.ProductLaws.{deglex-plus, HasVariables-at}
use Rattle.gf_ideal_theory.specs.Operands.{IsIndex, IsStepOperation}
use Rattle.gf_ideal_theory.proofs.ListLaws.{Each-weaker}
pub use Rattle.gf_ideal_theory.proofs.KeptForms.{term_there}
use Rattle.gf_division.specs.Steps.{IsStepRefusal}
use Rattle.gf_division.specs.Dividends.{Split, joined_terms, IsSound, DividesFirst, AreOver, AreOverProducts, MovesUp, IsScalingOverflow, IsDifferenceOverflow}
use Rattle.gf_division.specs.Dividends.{Subtracts, IsSubtractionRefusal, SharesVariables, TakesStep}
use Rattle.gf_division.proofs.DescendingParts.{descending-front}
use Rattle.gf_division.proofs.DividendLaws.{terms_up, first_length}

-- ---- marked polynomials

-- a marked polynomial has terms
pub some_terms : (b : MarkedPolynomial) (f : Terms) → f ≡ b.poly → HasMarkedTerm b → 0 < length f
some_terms b f e m = omega (arith, m.term.1, ap length e)

-- its mark has its variables
pub head_length : (n : ℕ) (b : MarkedPolynomial) → HasVariables n b.poly → HasMarkedTerm b → length b.head ≡ n
head_length n b v m = term_length n b.poly (record { coef = m.mark; mono = b.head }) v m.term

-- so has what shares them
pub shared_sound : (b : MarkedPolynomial) (s : Split) → SharesVariables b s → HasMarkedTerm b → IsSound (length b.head) s
shared_sound b s v m = subst (λ (n : ℕ). IsSound n s) (sym (head_length v.n b v.poly m)) v.sound

pub shared_poly : (b : MarkedPolynomial) (s : Split) → SharesVariables b s → HasMarkedTerm b → HasVariables (length b.head) b.poly
shared_poly b s v m = subst (λ (n : ℕ). HasVariables n b.poly) (sym (head_length v.n b v.poly m)) v.poly

-- and the first of its terms
pub first_variables : (b : MarkedPolynomial) (s : Split) (g : Terms) (t : Term) (k : ℕ) → g ≡ b.poly → SharesVariables b s → HasMarkedTerm b →
    t ≡ get_or g 0 t → k ≡ length b.head → k ≡ length t.mono
first_variables b s g t k e v m i l =
    l ∙ sym (HasVariables-at (length b.head) g 0 t (some_terms b g e m) i (subst (HasVariables (length b.head)) (sym e) (shared_poly b s v m)))

-- ---- above the index

-- what is over u times the first term of g is over u times each
pub greatest_over : (u x : Exponents) (g f : Terms) (t : Term) → 0 < length g → t ≡ get_or g 0 t → x ≡ plus u t.mono → HasVariables (length u) g →
    IsDescending g → AreOver x f → AreOverProducts u g f
greatest_over u x [] f t l e q v d o = absurd (omega arith)
greatest_over u x (s ∷ g) f t l e q v d o = (first, later g v.1 d.1)
  where
    first : AreOver (plus u s.mono) f
    first = subst (λ (y : Exponents). AreOver y f) (q ∙ ap (λ (r : Term). plus u r.mono) e) o

    later : (h : Terms) → HasVariables (length u) h → IsAbove s.mono h → AreOverProducts u h f
    later [] w a = tt
    later (r ∷ h) w a = (
      Each-weaker (λ (k : Term). deglex k.mono (plus u s.mono) ≡ Greater) (λ (k : Term). deglex k.mono (plus u r.mono) ≡ Greater)
          (λ k m. greater_trans k.mono (plus u s.mono) (plus u r.mono) m (deglex-plus u s.mono r.mono (sym v.0) (v.0 ∙ sym w.0) ∙ a.0)) f first,
      later h w.1 a.1,
    )

pub front_descends : (n : ℕ) (s : Split) → IsSound n s → IsDescending s.above
front_descends n s h = descending-front s.above s.below h.descending

pub sound_up : (n : ℕ) (old new : Split) → MovesUp old new → IsSound n old → IsSound n new
sound_up n old new m h = record {
  descending = subst IsDescending (sym (terms_up old new m)) h.descending;
  variables = subst (HasVariables n) (sym (terms_up old new m)) h.variables;
}

pub sound_along : (n k : ℕ) (s : Split) → n ≡ k → IsSound n s → IsSound k s
sound_along n k s e h = subst (λ (m : ℕ). IsSound m s) e h

-- two fronts of one list, equally long
same_fronts : (f a b p q : Terms) → f ≡ a ++ p → f ≡ b ++ q → length a ≡ length b → a ≡ b
same_fronts f a b p q e k l = sym (take_at a p (length a) refl) ∙ ap (take (length a)) (sym e ∙ k) ∙ ap (λ (n : ℕ). take n (b ++ q)) l ∙ take_at b q (length b)
    refl

-- ---- the step

-- up to the greatest monomial of the multiple, down with the subtraction, and up again
pub step_taken : (b : MarkedPolynomial) (s r t w : Split) (q : Term) (g : Terms) (n : ℕ) → g ≡ b.poly → DividesFirst b.head s.below →
    IsSound (length b.head) s → length q.mono ≡ length b.head → coefficient (joined_terms s) (head_of s.below zero) ≡ q.coef → q.coef ≢ zero_ℚ →
    plus q.mono b.head ≡ head_of s.below zero → MovesUp s r → n ≡ length r.above → Subtracts q.coef q.mono g r t → MovesUp t w → length w.above ≡ n →
    TakesStep b s q w
step_taken b s r t w q g n eg f h l there nonzero product up en sub down index = record {
  there = nonzero;
  coefficient_is = there;
  product = product;
  variables = l;
  same = λ y.
      ap (λ (z : Terms). coefficient z y) (terms_up t w down) ∙ sub.same y
      ∙ ap (λ (z : Terms). coefficient z y) (ap (λ (z : Terms). z ++ times (neg_ℚ q.coef) q.mono g) (terms_up s r up) ∙
      ap (λ (z : Terms). joined_terms s ++ times (neg_ℚ q.coef) q.mono z) eg);
  sound = λ m k. sound_along (length b.head) m w (sym (first_length (length b.head) s f.term h f.first) ∙ first_length m s f.term k f.first)
      (sound_up (length b.head) t w down (sound_along (length q.mono) (length b.head) t l sub.sound));
  passed = up.passed;
  above = up.above ∙ ap (λ (z : Terms). z ++ up.passed) (same_fronts t.above r.above w.above sub.passed down.passed sub.above down.above (sym en ∙ sym index));
}

-- ---- why a step is refused

-- what is known of the step from f at x by b with the quotient q
pub record StepFacts (f : Terms) (b : MarkedPolynomial) (x : Exponents) (q : Term) : Type 0 where
  pub n : ℕ
  pub coefficient_is : coefficient f x ≡ q.coef
  pub nonzero : q.coef ≢ zero_ℚ
  pub product : plus q.mono b.head ≡ x
  pub variables : HasVariables n b.poly
  pub descending : IsDescending b.poly

pub step_facts : (n : ℕ) (f : Terms) (b : MarkedPolynomial) (x : Exponents) (q : Term) (g : Terms) → coefficient f x ≡ q.coef → q.coef ≢ zero_ℚ →
    plus q.mono b.head ≡ x → HasVariables n b.poly → g ≡ b.poly → IsDescending g → StepFacts f b x q
step_facts n f b x q g c z p v e d = record { n = n; coefficient_is = c; nonzero = z; product = p; variables = v; descending = subst IsDescending e d }

index : (f : Terms) (b : MarkedPolynomial) (x : Exponents) (q : Term) → StepFacts f b x q → IsIndex (λ (c : MarkedPolynomial). c ≡ b) f x b q.mono
index f b x q k = record { contained = refl; there = λ z. k.nonzero (sym k.coefficient_is ∙ z); divides = same_of x (plus q.mono b.head) (sym k.product) }

-- a sum of exponents at a term of b
exponents_refused : (f : Terms) (b : MarkedPolynomial) (x : Exponents) (q t : Term) (o : ExponentOverflow) → StepFacts f b x q → Contains b.poly t →
    IsFirstOverflow q.mono t.mono o → IsStepRefusal f b x (errors.Exponent o)
exponents_refused f b x q t o k c h = (
  record {
    member = b;
    rest = q.mono;
    index = index f b x q k;
    sum = record { monomial = t.mono; there = term_there k.n b.poly t k.variables k.descending c; variable = h.at; operands = inl (h.left, h.right) };
  },
  omega (arith, h.left, h.right, h.leaves),
)

product_refused : (f : Terms) (b : MarkedPolynomial) (x : Exponents) (q t : Term) (o : Overflow) → StepFacts f b x q → Contains b.poly t →
    IsScalingOverflow q.coef t.coef o → IsStepRefusal f b x (errors.Overflow o)
product_refused f b x q t o k c h =
    let P : Op → Type 0 = λ p. IsStepOperation (λ (d : MarkedPolynomial). d ≡ b) f x p o.left o.right × ¬ (Fits p o.left o.right) in
    subst P (sym h.operation) (
      record {
        member = b;
        rest = q.mono;
        index = index f b x q k;
        exponents = t.mono;
        operands = inl (h.left ∙ sym k.coefficient_is, h.right ∙ sym (term_coefficient k.n b.poly t k.variables k.descending c));
      },
      subst (λ p. ¬ (Fits p o.left o.right)) h.operation h.leaves,
    )

difference_refused : (f : Terms) (b : MarkedPolynomial) (x : Exponents) (q t : Term) (o : Overflow) → StepFacts f b x q → Contains b.poly t →
    IsDifferenceOverflow (coefficient f (plus q.mono t.mono)) (q.coef *ℚ t.coef) o → IsStepRefusal f b x (errors.Overflow o)
difference_refused f b x q t o k c h =
    let P : Op → Type 0 = λ p. IsStepOperation (λ (d : MarkedPolynomial). d ≡ b) f x p o.left o.right × ¬ (Fits p o.left o.right) in
    subst P (sym h.operation) (
      record {
        member = b;
        rest = q.mono;
        index = index f b x q k;
        exponents = t.mono;
        is_left = h.left;
        is_right = h.right ∙ ap (λ z. z *ℚ t.coef) (sym k.coefficient_is) ∙
            ap (λ z. coefficient f x *ℚ z) (sym (term_coefficient k.n b.poly t k.variables k.descending c));
      },
      subst (λ p. ¬ (Fits p o.left o.right)) h.operation h.leaves,
    )

-- at the first term of b
pub first_refused : (f : Terms) (b : MarkedPolynomial) (x : Exponents) (q t : Term) (g : Terms) (o : ExponentOverflow) → StepFacts f b x q → g ≡ b.poly →
    0 < length g → t ≡ get_or g 0 t → IsFirstOverflow q.mono t.mono o → IsStepRefusal f b x (errors.Exponent o)
first_refused f b x q t g o k e l i h = exponents_refused f b x q t o k (subst (λ (z : Terms). Contains z t) e (0, l, sym i)) h

-- in the subtraction
pub step_refused : (f k : Terms) (b : MarkedPolynomial) (x : Exponents) (q : Term) (g : Terms) (e : PolyError) → StepFacts f b x q → k ≡ f → g ≡ b.poly →
    IsSubtractionRefusal k q.coef q.mono g e → IsStepRefusal f b x e
step_refused f k b x q g e h ek eg r =
    at e (subst (λ (z : Terms). IsSubtractionRefusal f q.coef q.mono z e) eg (subst (λ (z : Terms). IsSubtractionRefusal z q.coef q.mono g e) ek r))
  where
    at : (e : PolyError) → IsSubtractionRefusal f q.coef q.mono b.poly e → IsStepRefusal f b x e
    at (errors.Overflow o) r = elim r.cause [
      | inl p ↦ product_refused f b x q r.term o h r.contained p
      | inr d ↦ difference_refused f b x q r.term o h r.contained d
    ]
    at (errors.Exponent o) r = exponents_refused f b x q r.term o h r.contained r.cause
    at errors.Memory r = tt
