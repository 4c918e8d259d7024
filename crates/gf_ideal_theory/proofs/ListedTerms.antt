-- What holds of each listed term holds of each monomial: from the lists that a program keeps to polynomials.
-- To cite: variables_by_terms, fits_by_terms, fits_by_monomials, box_of_monomial, marked_by_terms.
use Rattle.std.proofs.Common.{◌≡◌, ℕ, true, [], ◌∷◌, ◌^◌, arith, sym, ap, ◌∙◌}
use Rattle.gf_frac.specs.Fraction.{one_ℚ}
use Rattle.gf_exponents_theory.specs.Exponents.{Exponents, same, IsInRing}
use Rattle.gf_exponents_theory.proofs.ExponentsLaws.{same_flip, entries_same, entry-past}
use Rattle.gf_poly.specs.declared.Term.{Term}
use Rattle.gf_poly.specs.declared.TheConstants.{ROOM}
use Rattle.gf_poly.specs.Monomial.{IsMonomial}
use Rattle.gf_poly.proofs.MonomialLaws.{entry-limit}
use Rattle.gf_poly.specs.Polynomial.{Terms, coefficient, HasVariables}
use Rattle.gf_poly.specs.Marking.{Each}
use Rattle.gf_poly.proofs.PolynomialLaws.{times-plain}
use Rattle.gf_ideal_theory.specs.Membership.{HasMonomial, IsInVariables}
use Rattle.gf_ideal_theory.specs.Measure.{IsInBox}
use Rattle.gf_ideal_theory.proofs.TermLaws.{found_term}

-- a monomial of f is that of one of its terms
pub listed : (Q : Term → Type 0) (f : Terms) (x : Exponents) → Each Q f → HasMonomial f x →
    (t : Term) × Q t × (same x t.mono ≡ true)
listed Q f x h n = found_term Q one_ℚ [] f x h (λ z. n (sym (ap (λ g. coefficient g x) (times-plain f)) ∙ z))

-- what holds of each listed monomial holds of each monomial
pub by_terms : (B : Exponents → Type 0) (f : Terms) → ((x y : Exponents) → same x y ≡ true → B x → B y) →
    Each (λ (t : Term). B t.mono) f → (x : Exponents) → HasMonomial f x → B x
by_terms B f along h x n = let r = listed (λ (t : Term). B t.mono) f x h n in along r.0.mono x (same_flip x r.0.mono r.2) r.1

-- lists whose monomials have n exponents are polynomials in n variables
pub variables_by_terms : (n : ℕ) (f : Terms) → HasVariables n f → IsInVariables n f
variables_by_terms n f h = by_terms (IsInRing n) f (λ x y s r i l. sym (entries_same x y s i) ∙ r i l) (each f h)
  where
    each : (f : Terms) → HasVariables n f → Each (λ (t : Term). IsInRing n t.mono) f
    each [] h = tt
    each (t ∷ f) h = (λ i l. entry-past t.mono i (omega (arith, h.0)), each f h.1)

-- a monomial that a program keeps is in the box of its limits
pub box_of_monomial : (x : Exponents) → IsMonomial x → IsInBox (2 ^ 31) ROOM x
box_of_monomial x h = record { below = entry-limit x h.limit; beyond = λ i l. entry-past x i (omega (arith, h.room)) }
