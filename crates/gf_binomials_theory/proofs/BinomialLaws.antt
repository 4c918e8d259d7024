-- Differences of two monomials stay such: under steps by marked ones, in S-polynomials, in monic forms.
-- To cite: Stepped, stepped, binomial_step, binomial-reached, binomial-s_polynomial, binomial-monic, binomial-tail, step_fits,
-- reduction_fits, s_polynomial_fits, monic_fits.
use Rattle.std.proofs.Common.{◌≡◌, ◌⊎◌, Option, Some, arith, ap, sym, ◌∙◌, subst, inl, inr}
use Rattle.gf_frac.specs.Fraction.{Fraction, ◌+ℚ◌, ◌*ℚ◌, neg_ℚ, one_ℚ}
use Rattle.gf_frac.specs.Fits.{Fits}
use Rattle.gf_frac.specs.declared.refusal.Op.{Op}
use Rattle.gf_frac.specs.declared.refusal.Op.TheVariants.{Add, Sub, Mul, Div}
use Rattle.gf_frac.proofs.FractionLaws.{one-*ℚ, neg_ℚ-neg_ℚ}
use Rattle.gf_exponents_theory.specs.Exponents.{Exponents, plus, join}
use Rattle.gf_poly.specs.Polynomial.{Terms, coefficient, times}
use Rattle.gf_poly.specs.Marking.{MarkedPolynomial}
use Rattle.gf_poly.proofs.PolynomialLaws.{coefficient-++}
use Rattle.gf_ideal_theory.specs.Membership.{HasMonomial}
use Rattle.gf_ideal_theory.specs.Reduction.{IsStep, Reached, IsSPolynomial, IsMonicForm}
use Rattle.gf_ideal_theory.specs.Operands.{IsStepOperation, IsReductionOperation, IsSPolynomialOperation, IsMonicOperation}
use Rattle.gf_ideal_theory.proofs.Identities.{neg_one}
use Rattle.gf_binomials_theory.specs.Binomials.{indicator, IsBinomialOf, IsBinomial, IsMarkedBinomial, AreMarkedBinomials}
use Rattle.gf_binomials_theory.proofs.WholeLaws.{IsSmallWhole, IsPlusMinusOne, small-neg, small-*, small-+, fits-sub, fits-mul, fits-div}
use Rattle.gf_binomials_theory.proofs.MonomialLaws.{at_like, IsTheMonomial, indicator-small, binomial_of-small, binomial_of-equal, first_alone, second_alone}
use Rattle.gf_binomials_theory.proofs.MonomialLaws.{IsFirst, one_of_two, shifted, multiple_of_binomial, first_replaced, second_replaced, turned_round}

-- ---- one step

-- the monomial of f that goes is one of the two, and the tail of the member comes in its place
pub data Stepped (p q : Option Exponents) (x : Exponents) (t : Option Exponents) (g : Terms) : Type 0 where
  first : IsTheMonomial p x → IsBinomialOf t q g → Stepped p q x t g
  second : IsTheMonomial q x → IsBinomialOf p t g → Stepped p q x t g

pub stepped : (by : MarkedPolynomial → Type 0) (p q : Option Exponents) (f g : Terms) (s : IsStep by f g) (m : IsMarkedBinomial s.member) →
    IsBinomialOf p q f → Stepped p q s.at (shifted s.rest m.tail) g
stepped by p q f g s m h = at (one_of_two p q f s.at h s.there)
  where
    u : Option Exponents
    u = Some (plus s.rest s.member.head)

    t : Option Exponents
    t = shifted s.rest m.tail

    sum : (e : Exponents) → coefficient g e ≡ (indicator p e +ℚ neg_ℚ (indicator q e)) +ℚ neg_ℚ (coefficient f s.at) *ℚ (indicator u e +ℚ neg_ℚ (indicator t e))
    sum e = s.equal e ∙ coefficient-++ f (times (neg_ℚ (coefficient f s.at)) s.rest s.member.poly) e
        ∙ ap (λ z. z +ℚ coefficient (times (neg_ℚ (coefficient f s.at)) s.rest s.member.poly) e) (h.equation e)
        ∙ ap (λ z. (indicator p e +ℚ neg_ℚ (indicator q e)) +ℚ z) (multiple_of_binomial (neg_ℚ (coefficient f s.at)) s.rest (Some s.member.head)
        m.tail s.member.poly m.binomial e)

    at : IsFirst p q s.at ⊎ IsFirst q p s.at → Stepped p q s.at t g
    at (inl k) = Stepped.first k.there (record {
      equation = λ e. sum e
          ∙ ap (λ z. (indicator p e +ℚ neg_ℚ (indicator q e)) +ℚ neg_ℚ z *ℚ (indicator u e +ℚ neg_ℚ (indicator t e)))
          (first_alone p q f s.at h k.there.one k.other)
          ∙ ap (λ z. (indicator p e +ℚ neg_ℚ (indicator q e)) +ℚ z) (neg_one (indicator u e +ℚ neg_ℚ (indicator t e)))
          ∙ ap (λ z. (indicator p e +ℚ neg_ℚ (indicator q e)) +ℚ neg_ℚ (z +ℚ neg_ℚ (indicator t e)))
          (sym (k.there.like e ∙ at_like s.at (plus s.rest s.member.head) e s.divides))
          ∙ first_replaced (indicator p e) (indicator q e) (indicator t e);
    })
    at (inr k) = Stepped.second k.there (record {
      equation = λ e. sum e
          ∙ ap (λ z. (indicator p e +ℚ neg_ℚ (indicator q e)) +ℚ neg_ℚ z *ℚ (indicator u e +ℚ neg_ℚ (indicator t e)))
          (second_alone p q f s.at h k.other k.there.one)
          ∙ ap (λ z. (indicator p e +ℚ neg_ℚ (indicator q e)) +ℚ z *ℚ (indicator u e +ℚ neg_ℚ (indicator t e))) (neg_ℚ-neg_ℚ one_ℚ)
          ∙ ap (λ z. (indicator p e +ℚ neg_ℚ (indicator q e)) +ℚ z) (one-*ℚ (indicator u e +ℚ neg_ℚ (indicator t e)))
          ∙ ap (λ z. (indicator p e +ℚ neg_ℚ (indicator q e)) +ℚ (z +ℚ neg_ℚ (indicator t e)))
          (sym (k.there.like e ∙ at_like s.at (plus s.rest s.member.head) e s.divides))
          ∙ second_replaced (indicator p e) (indicator q e) (indicator t e);
    })

pub binomial_step : (by : MarkedPolynomial → Type 0) (f g : Terms) (s : IsStep by f g) → IsMarkedBinomial s.member → IsBinomial f → IsBinomial g
binomial_step by f g s m h = at (stepped by h.first h.second f g s m h.binomial)
  where
    at : Stepped h.first h.second s.at (shifted s.rest m.tail) g → IsBinomial g
    at (Stepped.first k l) = record { first = shifted s.rest m.tail; second = h.second; binomial = l }
    at (Stepped.second k l) = record { first = h.first; second = shifted s.rest m.tail; binomial = l }

pub binomial-reached : (by : MarkedPolynomial → Type 0) (f g : Terms) → AreMarkedBinomials by → IsBinomial f → Reached by f g → IsBinomial g
binomial-reached by f g m h (Reached.here k e) = record { first = h.first; second = h.second; binomial = binomial_of-equal h.first h.second f g e h.binomial }
binomial-reached by f g m h (Reached.next k l r s) = binomial_step by k g s (m s.member s.contained) (binomial-reached by f k m h r)

-- ---- S-polynomials, monic forms, marked ones without their marks

pub binomial-s_polynomial : (b c : MarkedPolynomial) (s : Terms) → IsMarkedBinomial b → IsMarkedBinomial c → IsSPolynomial b c s → IsBinomial s
binomial-s_polynomial b c s hb hc q = record {
  first = t;
  second = r;
  binomial = record {
    equation = λ e. q.equal e
        ∙ coefficient-++ (times one_ℚ q.left b.poly) (times (neg_ℚ one_ℚ) q.right c.poly) e
        ∙ ap (λ z. z +ℚ coefficient (times (neg_ℚ one_ℚ) q.right c.poly) e) (multiple_of_binomial one_ℚ q.left (Some b.head) hb.tail b.poly hb.binomial e ∙
        one-*ℚ _)
        ∙ ap (λ z. (indicator (Some (plus q.left b.head)) e +ℚ neg_ℚ (indicator r e)) +ℚ z) (multiple_of_binomial (neg_ℚ one_ℚ) q.right (Some c.head)
        hc.tail c.poly hc.binomial e ∙ neg_one _)
        ∙ ap (λ z. (z +ℚ neg_ℚ (indicator r e)) +ℚ neg_ℚ (indicator (Some (plus q.right c.head)) e +ℚ neg_ℚ (indicator t e)))
        (at_like (plus q.left b.head) (join b.head c.head) e q.of_left)
        ∙ ap (λ z. (indicator (Some (join b.head c.head)) e +ℚ neg_ℚ (indicator r e)) +ℚ neg_ℚ (z +ℚ neg_ℚ (indicator t e)))
        (at_like (plus q.right c.head) (join b.head c.head) e q.of_right)
        ∙ first_replaced (indicator (Some (join b.head c.head)) e) (indicator r e) (indicator t e);
  };
}
  where
    r : Option Exponents
    r = shifted q.left hb.tail

    t : Option Exponents
    t = shifted q.right hc.tail

pub binomial-monic : (f : Terms) (b : MarkedPolynomial) → IsBinomial f → IsMonicForm f b → IsMarkedBinomial b
binomial-monic f b h m = at (one_of_two h.first h.second f b.head h.binomial m.there)
  where
    at : IsFirst h.first h.second b.head ⊎ IsFirst h.second h.first b.head → IsMarkedBinomial b
    at (inl k) = record {
      tail = h.second;
      binomial = record {
        equation = λ e. sym (one-*ℚ _)
            ∙ ap (λ z. z *ℚ coefficient b.poly e) (sym (first_alone h.first h.second f b.head h.binomial k.there.one k.other)) ∙ m.equation e ∙
            h.binomial.equation e
            ∙ ap (λ z. z +ℚ neg_ℚ (indicator h.second e)) (k.there.like e);
      };
    }
    at (inr k) = record {
      tail = h.first;
      binomial = record {
        equation = λ e. sym (neg_ℚ-neg_ℚ _)
            ∙ ap neg_ℚ (sym (neg_one (coefficient b.poly e)) ∙ ap (λ z. z *ℚ coefficient b.poly e)
            (sym (second_alone h.first h.second f b.head h.binomial k.other k.there.one)) ∙ m.equation e ∙ h.binomial.equation e)
            ∙ turned_round (indicator h.first e) (indicator h.second e)
            ∙ ap (λ z. z +ℚ neg_ℚ (indicator h.first e)) (k.there.like e);
      };
    }

pub binomial-marked : (b : MarkedPolynomial) → IsMarkedBinomial b → IsBinomial b.poly
binomial-marked b h = record { first = Some b.head; second = h.tail; binomial = h.binomial }

-- ---- their operations stay in range

pub coefficient-small : (f : Terms) (e : Exponents) → IsBinomial f → IsSmallWhole 2 (coefficient f e)
coefficient-small f e h = binomial_of-small h.first h.second f e h.binomial

pub step_fits : (by : MarkedPolynomial → Type 0) (f : Terms) (at : Exponents) (op : Op) (left right : Fraction) → AreMarkedBinomials by → IsBinomial f →
    IsStepOperation by f at op left right → Fits op left right
step_fits by f at Add left right m h o = absurd o
step_fits by f at Div left right m h o = absurd o
step_fits by f at Sub left right m h o =
    let b = binomial-marked o.member (m o.member o.index.contained) in
    fits-sub 2 4 left right (omega arith) (omega arith) (subst (IsSmallWhole 2) (sym o.is_left) (coefficient-small f (plus o.rest o.exponents) h))
    (subst (IsSmallWhole 4) (sym o.is_right) (small-* 2 2 (coefficient f at) (coefficient o.member.poly o.exponents) (coefficient-small f at h)
    (coefficient-small o.member.poly o.exponents b)))
step_fits by f at Mul left right m h o = elim o.operands [
  | inl k ↦ fits-mul 2 2 left right (omega arith) (omega arith) (omega arith) (subst (IsSmallWhole 2) (sym k.0) x) (subst (IsSmallWhole 2) (sym k.1) y)
  | inr k ↦ fits-mul 2 2 left right (omega arith) (omega arith) (omega arith) (subst (IsSmallWhole 2) (sym k.0) y) (subst (IsSmallWhole 2) (sym k.1) x)
]
  where
    x : IsSmallWhole 2 (coefficient f at)
    x = coefficient-small f at h

    y : IsSmallWhole 2 (coefficient o.member.poly o.exponents)
    y = coefficient-small o.member.poly o.exponents (binomial-marked o.member (m o.member o.index.contained))

pub reduction_fits : (by : MarkedPolynomial → Type 0) (f : Terms) (op : Op) (left right : Fraction) → AreMarkedBinomials by → IsBinomial f →
    IsReductionOperation by f op left right → Fits op left right
reduction_fits by f op left right m h o = step_fits by o.from o.at op left right m (binomial-reached by f o.from m h o.reached) o.operation

multiple-small : (u : Exponents) (b : MarkedPolynomial) (e : Exponents) → IsMarkedBinomial b → IsSmallWhole 2 (coefficient (times one_ℚ u b.poly) e)
multiple-small u b e h = subst (IsSmallWhole 2) (sym (multiple_of_binomial one_ℚ u (Some b.head) h.tail b.poly h.binomial e ∙ one-*ℚ _))
    (small-+ 1 1 (indicator (Some (plus u b.head)) e) (neg_ℚ (indicator (shifted u h.tail) e)) (indicator-small (Some (plus u b.head)) e)
    (small-neg 1 (indicator (shifted u h.tail) e) (indicator-small (shifted u h.tail) e)))

pub s_polynomial_fits : (b c : MarkedPolynomial) (op : Op) (left right : Fraction) → IsMarkedBinomial b → IsMarkedBinomial c →
    IsSPolynomialOperation b c op left right → Fits op left right
s_polynomial_fits b c op left right hb hc o = subst (λ x. Fits x left right) (sym o.is_op)
    (fits-sub 2 2 left right (omega arith) (omega arith) (subst (IsSmallWhole 2) (sym o.is_left) (multiple-small o.of_b b o.exponents hb))
    (subst (IsSmallWhole 2) (sym o.is_right) (multiple-small o.of_c c o.exponents hc)))

pub coefficient-plus_minus : (f : Terms) (x : Exponents) → IsBinomial f → HasMonomial f x → IsPlusMinusOne (coefficient f x)
coefficient-plus_minus f x h n = at (one_of_two h.first h.second f x h.binomial n)
  where
    at : IsFirst h.first h.second x ⊎ IsFirst h.second h.first x → IsPlusMinusOne (coefficient f x)
    at (inl k) = inl (first_alone h.first h.second f x h.binomial k.there.one k.other)
    at (inr k) = inr (second_alone h.first h.second f x h.binomial k.other k.there.one)

pub monic_fits : (f : Terms) (x : Exponents) (op : Op) (left right : Fraction) → IsBinomial f → IsMonicOperation f x op left right → Fits op left right
monic_fits f x op left right h o = subst (λ z. Fits z left right) (sym o.is_op)
    (fits-div 2 left right (omega arith) (subst (IsSmallWhole 2) (sym o.is_left) (coefficient-small f o.exponents h))
    (subst IsPlusMinusOne (sym o.is_right) (coefficient-plus_minus f x h o.there)))
