-- Sums of multiples of polynomials by terms: the working form of membership.
-- To cite: Spans-equal, Spans-zero, Spans-generator, Spans-++, Spans-times, Spans-difference, Spans-trans.
use Rattle.std.proofs.Common.{List, [], ◌++◌, Contains, refl, sym, ap, ◌∙◌, append_assoc}
use Rattle.gf_frac.specs.Fraction.{Fraction, ◌+ℚ◌, ◌*ℚ◌, neg_ℚ, one_ℚ}
use Rattle.gf_frac.proofs.FractionLaws.{+ℚ-zero, zero-+ℚ}
use Rattle.gf_exponents_theory.specs.Exponents.{Exponents, plus}
use Rattle.gf_poly.specs.Polynomial.{Terms, coefficient, SamePolynomial, times}
use Rattle.gf_poly.proofs.PolynomialLaws.{coefficient-++, SamePolynomial-times, times-times, times-++, times-plain}
use Rattle.gf_ideal_theory.specs.Membership.{Spans}

-- an equal polynomial
pub Spans-equal : (fs : List Terms) (f g : Terms) → SamePolynomial f g → Spans fs f → Spans fs g
Spans-equal fs f g e (Spans.none k z) = Spans.none g (λ x. sym (e x) ∙ z x)
Spans-equal fs f g e (Spans.more c u p k h j s q) = Spans.more c u p g h j s (λ x. sym (e x) ∙ q x)

-- zero
pub Spans-zero : (fs : List Terms) → Spans fs []
Spans-zero fs = Spans.none [] (λ x. refl)

-- a generator
pub Spans-generator : (fs : List Terms) (f : Terms) → Contains fs f → Spans fs f
Spans-generator fs f k =
    Spans.more one_ℚ [] f f [] k (Spans-zero fs) (λ x. sym (coefficient-++ (times one_ℚ [] f) [] x ∙ +ℚ-zero _ ∙ ap (λ z. coefficient z x) (times-plain f)))

-- a sum
pub Spans-++ : (fs : List Terms) (f g : Terms) → Spans fs f → Spans fs g → Spans fs (f ++ g)
Spans-++ fs f g (Spans.none k z) s = Spans-equal fs g (f ++ g) (λ x. sym (coefficient-++ f g x ∙ ap (λ c. c +ℚ coefficient g x) (z x) ∙ zero-+ℚ _)) s
Spans-++ fs f g (Spans.more c u p k h j r q) s =
    Spans.more c u p (f ++ g) (h ++ g) j (Spans-++ fs h g r s)
    (λ x. coefficient-++ f g x ∙ ap (λ z. z +ℚ coefficient g x) (q x) ∙ sym (coefficient-++ (times c u p ++ h) g x) ∙ ap (λ z. coefficient z x)
    (append_assoc (times c u p) h g))

-- a multiple
pub Spans-times : (fs : List Terms) (f : Terms) (c : Fraction) (u : Exponents) → Spans fs f → Spans fs (times c u f)
Spans-times fs f c u (Spans.none k z) = Spans.none (times c u f) (SamePolynomial-times c u f [] z)
Spans-times fs f c u (Spans.more d v p k h j s q) =
    Spans.more (c *ℚ d) (plus u v) p (times c u f) (times c u h) j (Spans-times fs h c u s)
    (λ x. SamePolynomial-times c u f (times d v p ++ h) q x ∙ ap (λ z. coefficient z x) (times-++ c u (times d v p) h ∙ ap (λ z. z ++ times c u h)
    (sym (times-times c d u v p))))

-- a difference
pub Spans-difference : (fs : List Terms) (f g : Terms) → Spans fs f → Spans fs g →
    Spans fs (f ++ times (neg_ℚ one_ℚ) [] g)
Spans-difference fs f g s t = Spans-++ fs f (times (neg_ℚ one_ℚ) [] g) s (Spans-times fs g (neg_ℚ one_ℚ) [] t)

-- what spanned polynomials span is spanned
pub Spans-trans : (fs gs : List Terms) (f : Terms) → ((g : Terms) → Contains gs g → Spans fs g) → Spans gs f →
    Spans fs f
Spans-trans fs gs f h (Spans.none k z) = Spans.none f z
Spans-trans fs gs f h (Spans.more c u p k g j s q) =
    Spans-equal fs (times c u p ++ g) f (λ x. sym (q x)) (Spans-++ fs (times c u p) g (Spans-times fs p c u (h p j)) (Spans-trans fs gs g h s))
