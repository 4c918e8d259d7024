-- Variables that are units modulo an ideal: saturating by them adds nothing.
-- To cite: variable_kept, variable_descends, unit_ring, unit_told, kept_saturation. The rest are steps.
-- With 1 = i + u q for i in the ideal, f = i f + q (u f): where u f is in the ideal, so is f.
use Rattle.std.proofs.Common.{◌≡◌, ◌⊎◌, ℕ, zero, suc, ◌<◌, ◌≤◌, Bool, true, false, if◌then◌else◌, List, [], ◌∷◌, ◌++◌, Contains, arith, refl, sym, ap}
use Rattle.std.proofs.Common.{◌∙◌, subst, inl, inr}
use Rattle.gf_frac.specs.Fraction.{Fraction, ◌+ℚ◌, ◌*ℚ◌, neg_ℚ, zero_ℚ, one_ℚ}
use Rattle.gf_frac.proofs.FractionLaws.{+ℚ-zero, zero-+ℚ, *ℚ_comm, one-*ℚ, *ℚ-one, +ℚ-neg_ℚ, +ℚ_assoc, +ℚ-middle}
use Rattle.gf_exponents_theory.specs.Exponents.{Exponents, same, plus}
use Rattle.gf_exponents_theory.proofs.ExponentsLaws.{plus_comm, same_flip}
use Rattle.gf_exponents_theory.specs.SixOrders.{MonomialOrder}
use Rattle.gf_poly.specs.declared.Term.{Term}
use Rattle.gf_poly.specs.Polynomial.{Terms, HasVariables, IsDescending, coefficient, SamePolynomial, times}
use Rattle.gf_poly.specs.Marking.{MarkedPolynomials}
use Rattle.gf_poly.proofs.PolynomialLaws.{coefficient-++, coefficient-factor, times-times, times-plain}
use Rattle.gf_ideal_theory.specs.Membership.{IsMember, Spans}
use Rattle.gf_ideal_theory.proofs.Identities.{one_not_zero, turned}
use Rattle.gf_ideal_theory.proofs.ListLaws.{Contains-cases}
use Rattle.gf_ideal_theory.proofs.ProductLaws.{poly_product, poly_product-turned}
use Rattle.gf_ideal_theory.proofs.SettledLaws.{twice}
use Rattle.gf_ideal_theory.proofs.SpanLaws.{Spans-equal, Spans-zero, Spans-++, Spans-times, Spans-difference}
use Rattle.gf_ideal_theory.proofs.MembershipLaws.{spans_of_member, member_of_spans}
use Rattle.gf_buchberger.specs.Tasks.{HaveRingVariables}
use Rattle.gf_buchberger.specs.Bases.{IsArrangedBasis}
use Rattle.gf_buchberger.proofs.TaskLaws.{ring_variables}
use Rattle.gf_saturation_theory.specs.Saturations.{powered, next_variable, one_polynomial}
use Rattle.gf_saturation_theory.proofs.SaturationLaws.{variables_of_saturated, saturated_same}
use Rattle.gf_saturation_theory.proofs.LawsHold.{monomials_are_told}
use Rattle.gf_saturate.specs.OneTerm.{HasUnitMark}
use Rattle.gf_saturate.specs.Widening.{variable_at}
use Rattle.gf_saturate.specs.Units.{variable_terms}
use Rattle.gf_saturate.specs.Saturating.{AddsNothing, IsOnTheWay, IsSaturation}
use Rattle.gf_saturate.proofs.WideningLaws.{length-variable}
use Rattle.gf_saturate.proofs.StepLaws.{arranged-as}
use Rattle.gf_saturate.proofs.StageLaws.{variable-same, saturation_of}

-- ---- the variable as it is kept

pub variable_descends : (n k : ℕ) → IsDescending (variable_terms n k)
variable_descends n k = (one_not_zero, tt, tt)

pub variable_kept : (n k : ℕ) (xs ys : Terms) (c : Fraction) (x : Exponents) → xs ≡ [] → ys ≡ xs ++ record { coef = c; mono = x } ∷ [] → c ≡ one_ℚ →
    x ≡ variable_at n k → ys ≡ variable_terms n k
variable_kept n k xs ys c x d e f g =
    e ∙ ap (λ (w : Terms). w ++ record { coef = c; mono = x } ∷ []) d ∙ ap (λ z. record { coef = z; mono = x } ∷ []) f
    ∙ ap (λ z. record { coef = one_ℚ; mono = z } ∷ []) g

-- ---- modulo a monomial

-- p and some multiple of u are in the ideal together
record IsTouched (fs : List Terms) (u : Exponents) (p : Terms) : Type 0 where
  factor : Terms
  spans : Spans fs (p ++ times one_ℚ u factor)

abbrev monomial : Exponents → Terms
monomial u = record { coef = one_ℚ; mono = u } ∷ []

touched : (fs : List Terms) (u : Exponents) (p : Terms) → Spans (monomial u ∷ fs) p → IsTouched fs u p
touched fs u p (Spans.none k z) = record {
  factor = [];
  spans = Spans.none (p ++ []) (λ e. coefficient-++ p [] e ∙ +ℚ-zero (coefficient p e) ∙ z e);
}
touched fs u p (Spans.more c w g f h j s q) = at (Contains-cases (monomial u) g fs j) (touched fs u h s)
  where
    at : (monomial u ≡ g) ⊎ Contains fs g → IsTouched fs u h → IsTouched fs u p
    at (inr k) r = record {
      factor = r.factor;
      spans = Spans.more c w g (p ++ times one_ℚ u r.factor) (h ++ times one_ℚ u r.factor) k r.spans
          (λ e. coefficient-++ p (times one_ℚ u r.factor) e
          ∙ ap (λ z. z +ℚ coefficient (times one_ℚ u r.factor) e) (q e ∙ coefficient-++ (times c w g) h e)
          ∙ +ℚ_assoc (coefficient (times c w g) e) (coefficient h e) (coefficient (times one_ℚ u r.factor) e)
          ∙ ap (λ z. coefficient (times c w g) e +ℚ z) (sym (coefficient-++ h (times one_ℚ u r.factor) e))
          ∙ sym (coefficient-++ (times c w g) (h ++ times one_ℚ u r.factor) e));
    }
    at (inl k) r = record {
      factor = record { coef = neg_ℚ c; mono = w } ∷ r.factor;
      spans = Spans-equal fs (h ++ t) (p ++ (a ∷ t)) (λ e. sym (equal e)) r.spans;
    }
      where
        t : Terms
        t = times one_ℚ u r.factor

        a : Term
        a = record { coef = one_ℚ *ℚ neg_ℚ c; mono = plus u w }

        d : Exponents → Fraction
        d e = if same e (plus u w) then c else zero_ℚ

        gone : (e : Exponents) → (if same e (plus u w) then c else zero_ℚ) +ℚ (if same e (plus u w) then neg_ℚ c else zero_ℚ) ≡ zero_ℚ
        gone e = by (same e (plus u w))
          where
            by : (v : Bool) → (if v then c else zero_ℚ) +ℚ (if v then neg_ℚ c else zero_ℚ) ≡ zero_ℚ
            by true = +ℚ-neg_ℚ c
            by false = +ℚ-zero zero_ℚ

        first : (e : Exponents) → coefficient (times c w g) e ≡ d e
        first e =
            ap (λ z. coefficient (times c w z) e) (sym k)
            ∙ +ℚ-zero (if same e (plus w u) then c *ℚ one_ℚ else zero_ℚ)
            ∙ ap (λ z. if same e (plus w u) then z else zero_ℚ) (*ℚ-one c)
            ∙ ap (λ x. if same e x then c else zero_ℚ) (plus_comm w u)

        equal : SamePolynomial (p ++ (a ∷ t)) (h ++ t)
        equal e =
            coefficient-++ p (a ∷ t) e
            ∙ ap (λ z. z +ℚ coefficient (a ∷ t) e) (q e ∙ coefficient-++ (times c w g) h e ∙ ap (λ z. z +ℚ coefficient h e) (first e))
            ∙ ap (λ z. (d e +ℚ coefficient h e) +ℚ ((if same e (plus u w) then z else zero_ℚ) +ℚ coefficient t e)) (one-*ℚ (neg_ℚ c))
            ∙ +ℚ-middle (d e) (coefficient h e) (if same e (plus u w) then neg_ℚ c else zero_ℚ) (coefficient t e)
            ∙ ap (λ z. z +ℚ (coefficient h e +ℚ coefficient t e)) (gone e)
            ∙ zero-+ℚ (coefficient h e +ℚ coefficient t e)
            ∙ sym (coefficient-++ h t e)

-- ---- products

product_spans : (fs : List Terms) (f g : Terms) → Spans fs g → Spans fs (poly_product f g)
product_spans fs [] g s = Spans-zero fs
product_spans fs (t ∷ f) g s = Spans-++ fs (times t.coef t.mono g) (poly_product f g) (Spans-times fs g t.coef t.mono s) (product_spans fs f g s)

-- of multiples of u by f, where u f is spanned
multiples_span : (fs : List Terms) (u : Exponents) (q f : Terms) → Spans fs (times one_ℚ u f) → Spans fs (poly_product (times one_ℚ u q) f)
multiples_span fs u [] f s = Spans-zero fs
multiples_span fs u (t ∷ q) f s =
    Spans-++ fs (times (one_ℚ *ℚ t.coef) (plus u t.mono) f) (poly_product (times one_ℚ u q) f)
    (Spans-equal fs (times t.coef t.mono (times one_ℚ u f)) (times (one_ℚ *ℚ t.coef) (plus u t.mono) f)
    (λ e. ap (λ z. coefficient z e) (sym (times-times t.coef one_ℚ t.mono u f)) ∙ ap (λ c. coefficient (times c (plus t.mono u) f) e) (*ℚ_comm t.coef one_ℚ)
    ∙ ap (λ x. coefficient (times (one_ℚ *ℚ t.coef) x f) e) (plus_comm t.mono u))
    (Spans-times fs (times one_ℚ u f) t.coef t.mono s))
    (multiples_span fs u q f s)

-- where 1 and a multiple of u are in the ideal together, u takes nothing into it that isn't there
without_factor : (fs : List Terms) (u : Exponents) (q f : Terms) → Spans fs (one_polynomial ++ times one_ℚ u q) → Spans fs (times one_ℚ u f) → Spans fs f
without_factor fs u q f s m =
    Spans-equal fs (P ++ times (neg_ℚ one_ℚ) [] R) f equal (Spans-difference fs P R (product_spans fs f U s) (multiples_span fs u q f m))
  where
    U : Terms
    U = one_polynomial ++ times one_ℚ u q

    P : Terms
    P = poly_product f U

    R : Terms
    R = poly_product (times one_ℚ u q) f

    split : (e : Exponents) → coefficient P e ≡ coefficient f e +ℚ coefficient R e
    split e =
        poly_product-turned f U e ∙ coefficient-++ (times one_ℚ [] f) R e ∙ ap (λ z. coefficient z e +ℚ coefficient R e) (times-plain f)

    equal : SamePolynomial (P ++ times (neg_ℚ one_ℚ) [] R) f
    equal e =
        coefficient-++ P (times (neg_ℚ one_ℚ) [] R) e
        ∙ ap (λ z. coefficient P e +ℚ z) (coefficient-factor (neg_ℚ one_ℚ) [] R e ∙ ap (λ g. neg_ℚ one_ℚ *ℚ coefficient g e) (times-plain R))
        ∙ sym (turned (coefficient P e) (coefficient f e) (coefficient R e) (split e))

-- nor does a power of u
without_powers : (fs : List Terms) (u : Exponents) (q : Terms) (p : ℕ) (f : Terms) → Spans fs (one_polynomial ++ times one_ℚ u q) →
    Spans fs (times one_ℚ (powered p u) f) → Spans fs f
without_powers fs u q zero f s m = Spans-equal fs (times one_ℚ [] f) f (λ e. ap (λ z. coefficient z e) (times-plain f)) m
without_powers fs u q (suc p) f s m =
    without_powers fs u q p f s
    (without_factor fs u q (times one_ℚ (powered p u) f) s
    (Spans-equal fs (times one_ℚ (plus u (powered p u)) f) (times one_ℚ u (times one_ℚ (powered p u) f))
    (λ e. ap (λ z. coefficient z e) (twice u (powered p u) f)) m))

-- ---- units

pub unit_ring : (n k : ℕ) (fs : List Terms) → k < n → HaveRingVariables n fs → HaveRingVariables n (variable_terms n k ∷ fs)
unit_ring n k fs l r = record { each = λ f c. at f (Contains-cases (variable_terms n k) f fs c) }
  where
    at : (f : Terms) → (variable_terms n k ≡ f) ⊎ Contains fs f → HasVariables n f
    at f (inl e) = subst (HasVariables n) e (length-variable n k l, tt)
    at f (inr c) = r.each f c

pub units_add_nothing : (n k : ℕ) (fs : List Terms) → k < n → HaveRingVariables n fs → IsMember n (variable_terms n k ∷ fs) one_polynomial → AddsNothing n k fs
units_add_nothing n k fs l r m f s =
    let v = ring_variables n fs r in
    let t = saturated_same n (next_variable k) (variable_at n k) fs f (same_flip (variable_at n k) (next_variable k) (variable-same n k l)) s in
    let q = touched fs (variable_at n k) one_polynomial (spans_of_member n (variable_terms n k ∷ fs) one_polynomial m) in
    member_of_spans n fs f v (variables_of_saturated n fs (next_variable k) f v s)
    (without_powers fs (variable_at n k) q.factor t.power f q.spans
    (spans_of_member n fs (times one_ℚ (powered t.power (variable_at n k)) f) t.member))

-- a basis of the polynomials and of the variable that has the mark 1 tells it
pub unit_told : (n k : ℕ) (fs hs : List Terms) (o : MonomialOrder) (s : MarkedPolynomials) → k < n → HaveRingVariables n fs → o ≡ MonomialOrder.deglex →
    hs ≡ variable_terms n k ∷ fs → IsArrangedBasis o n hs s → HasUnitMark s.items → AddsNothing n k fs
unit_told n k fs hs o s l r e h b u =
    units_add_nothing n k fs l r
    ((monomials_are_told.told n (variable_terms n k ∷ fs) s.items (ring_variables n (variable_terms n k ∷ fs) (unit_ring n k fs l r))
    (arranged-as o MonomialOrder.deglex n hs (variable_terms n k ∷ fs) s e h b).reduced).1 u)

-- ---- where each variable is one

way_kept : (n : ℕ) (fs : List Terms) (m : ℕ) → m ≤ n → ((k : ℕ) → k < n → AddsNothing n k fs) → IsOnTheWay n fs m fs
way_kept n fs zero l h = inl refl
way_kept n fs (suc m) l h = (fs, way_kept n fs m (omega arith) h, inr (h m (omega arith), refl))

-- the ideal is its saturation
pub kept_saturation : (n : ℕ) (fs : List Terms) (s : MarkedPolynomials) → HaveRingVariables n fs → ((k : ℕ) → k < n → AddsNothing n k fs) →
    IsArrangedBasis MonomialOrder.deglex n fs s → IsSaturation n fs s
kept_saturation n fs s r h b = saturation_of n fs fs s r (way_kept n fs n (omega arith) h) b
