-- Refusals of a lift are operations of the lift.
-- To cite: remainder_refused, difference_refused, member_refused.
use Rattle.std.proofs.Common.{◌≡◌, ℕ, List, Contains, sym, subst}
use Rattle.gf_frac.specs.Fits.{Fits}
use Rattle.gf_frac.specs.declared.refusal.Op.TheVariants.{Sub}
use Rattle.gf_poly.specs.declared.error.PolyError.{PolyError}
use Rattle.gf_poly.specs.declared.error.PolyError.TheVariants as errors
use Rattle.gf_poly.specs.Polynomial.{Terms, HasVariables, IsDescending}
use Rattle.gf_poly.specs.Sums.{IsLikeCause}
use Rattle.gf_poly.specs.Marking.{MarkedPolynomial, HasMarkedTerm}
use Rattle.gf_poly.proofs.CoefficientLaws.{term_coefficient}
use Rattle.gf_ideal_theory.specs.NormalForms.{IsNormalForm}
use Rattle.gf_division.specs.Steps.{IsReductionRefusal}
use Rattle.gf_lifts.specs.LiftRefusals.{IsLiftOperation, IsLiftRefusal, IsLiftsRefusal}

-- the reduction of a member
pub remainder_refused : (bs : List MarkedPolynomial) (h : MarkedPolynomial) (f : Terms) (e : PolyError) → f ≡ h.poly → IsReductionRefusal bs f e →
    IsLiftRefusal bs h e
remainder_refused bs h f e q r = at e (subst (λ (z : Terms). IsReductionRefusal bs z e) q r)
  where
    at : (e : PolyError) → IsReductionRefusal bs h.poly e → IsLiftRefusal bs h e
    at (errors.Overflow o) k = (IsLiftOperation.remainder k.0, k.1)
    at (errors.Exponent o) k = k
    at errors.Memory k = tt

-- the difference with its remainder
pub difference_refused : (n : ℕ) (bs : List MarkedPolynomial) (h : MarkedPolynomial) (f g r : Terms) (e : PolyError) → f ≡ h.poly → g ≡ h.poly →
    HasVariables n h.poly → HasMarkedTerm h → HasVariables n r → IsDescending r → IsNormalForm bs f r → IsLikeCause Sub g r e → IsLiftRefusal bs h e
difference_refused n bs h f g r e p q v m w d k c = at e (subst (λ (w : Terms). IsLikeCause Sub w r e) q c)
  where
    at : (e : PolyError) → IsLikeCause Sub h.poly r e → IsLiftRefusal bs h e
    at (errors.Overflow o) c = (
      IsLiftOperation.difference r c.at (subst (λ (w : Terms). IsNormalForm bs w r) p k) c.operation
          (sym (term_coefficient n h.poly (record { coef = o.left; mono = c.at }) v m.descending c.like.left))
          (sym (term_coefficient n r (record { coef = o.right; mono = c.at }) w d c.like.right)),
      λ f. c.leaves (subst (λ op. Fits op o.left o.right) c.operation f),
    )
    at (errors.Exponent o) c = absurd c
    at errors.Memory c = tt

-- of one of the members
pub member_refused : (bs hs : List MarkedPolynomial) (h : MarkedPolynomial) (e : PolyError) → Contains hs h → IsLiftRefusal bs h e → IsLiftsRefusal bs hs e
member_refused bs hs h (errors.Overflow o) c k = (record { member = h; contained = c; operation = k.0 }, k.1)
member_refused bs hs h (errors.Exponent o) c k = (record { member = h; contained = c; sum = k.0 }, k.1)
member_refused bs hs h errors.Memory c k = tt
