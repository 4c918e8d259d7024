-- The S-polynomial of two monic ones, from nothing by two subtractions.
-- To cite: nothing_sound, second_sound, pair_value, pair_descends, pair_variables.
use Rattle.std.specs.Prelude.{◌≡◌, ℕ, [], ◌++◌, length}
use Rattle.std.proofs.Common.{refl, sym, ap, ◌∙◌, subst}
use Rattle.gf_frac.specs.Fraction.{Fraction, ◌+ℚ◌, neg_ℚ, one_ℚ}
use Rattle.gf_frac.proofs.FractionLaws.{neg_ℚ-neg_ℚ}
use Rattle.gf_exponents_theory.specs.Exponents.{Exponents, plus, join}
use Rattle.gf_exponents_theory.proofs.ExponentsLaws.{same_of}
use Rattle.gf_poly.specs.Polynomial.{Terms, coefficient, times}
use Rattle.gf_poly.specs.Marking.{MarkedPolynomial, HasMarkedTerm}
use Rattle.gf_poly.proofs.PolynomialLaws.{coefficient-++}
use Rattle.gf_ideal_theory.specs.Reduction.{IsSPolynomial}
use Rattle.gf_division.specs.Dividends.{Split, joined_terms, IsSound, Subtracts}
use Rattle.gf_division.specs.SPolynomials.{KeepsPairVariables}
use Rattle.gf_division.proofs.SPolynomialLaws.{PairFacts, s_variables}
use Rattle.gf_wide_division.specs.Dividends.{uncut}

pub nothing_sound : (n : ℕ) (s : Split) → s ≡ uncut [] → IsSound n s
nothing_sound n s e = subst (IsSound n) (sym e) (record { descending = tt; variables = tt })

pub second_sound : (b c : MarkedPolynomial) (u v : Exponents) (m : Fraction) (f : Terms) (s t : Split) → PairFacts b c u v → Subtracts m u f s t →
    IsSound (length v) t
second_sound b c u v m f s t k d = subst (λ (n : ℕ). IsSound n t) (k.left ∙ sym k.right) d.sound

pub pair_value : (b c : MarkedPolynomial) (u v : Exponents) (m o : Fraction) (f g : Terms) (r s t : Split) → f ≡ b.poly → g ≡ c.poly → o ≡ one_ℚ → m ≡ neg_ℚ o →
    PairFacts b c u v → r ≡ uncut [] → Subtracts m u f r s → Subtracts o v g s t → IsSPolynomial b c (joined_terms t)
pair_value b c u v m o f g r s t ef eg eo em k er d h = record {
  left = u;
  right = v;
  of_left = same_of (plus u b.head) (join b.head c.head) k.cofactors.left;
  of_right = same_of (plus v c.head) (join b.head c.head) k.cofactors.right;
  equal = λ y.
      h.same y ∙ coefficient-++ (joined_terms s) (times (neg_ℚ o) v g) y
      ∙ ap (λ z. z +ℚ coefficient (times (neg_ℚ o) v g) y) (d.same y ∙ ap (λ (z : Terms). coefficient z y) first)
      ∙ sym (coefficient-++ (times one_ℚ u b.poly) (times (neg_ℚ o) v g) y)
      ∙ ap (λ (z : Terms). coefficient (times one_ℚ u b.poly ++ z) y) second;
}
  where
    first : joined_terms r ++ times (neg_ℚ m) u f ≡ times one_ℚ u b.poly
    first =
        ap (λ (z : Split). joined_terms z ++ times (neg_ℚ m) u f) er
        ∙ ap (λ (a : Fraction). times a u f) (ap neg_ℚ em ∙ neg_ℚ-neg_ℚ o ∙ eo) ∙ ap (times one_ℚ u) ef

    second : times (neg_ℚ o) v g ≡ times (neg_ℚ one_ℚ) v c.poly
    second = ap (λ (a : Fraction). times (neg_ℚ a) v g) eo ∙ ap (times (neg_ℚ one_ℚ) v) eg

pub pair_variables : (b c : MarkedPolynomial) (u v : Exponents) (o : Fraction) (g : Terms) (s t : Split) → o ≡ one_ℚ → PairFacts b c u v → HasMarkedTerm b →
    Subtracts o v g s t → KeepsPairVariables b c (joined_terms t)
pair_variables b c u v o g s t eo k m h = s_variables b c u v g (joined_terms t) s t k m (subst (λ (a : Fraction). Subtracts a v g s t) eo h) refl
