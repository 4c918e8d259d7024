-- Initial forms of polynomials that aren't zero, and their marks.
-- To cite: form_nonempty, here_not_zero, marked_some. The rest are steps.
use Rattle.std.specs.Prelude.{◌≡◌, ℕ, suc, ◌+◌, ◌<◌, true, List, [], ◌∷◌, ◌++◌, length, take, get_or, Contains, ℤ, ◌<ℤ◌, ◌≤ℤ◌}
use Rattle.std.specs.Ordering.{int_cmp, MatchOrdering}
use Rattle.std.specs.declared.cmp.Ordering.{Ordering}
use Rattle.std.specs.declared.cmp.Ordering.TheVariants.{Less, Equal, Greater}
use Rattle.std.proofs.Common.{arith, refl, sym, ap, subst, ◌∙◌, inl, inr}
use Rattle.std.proofs.lemmas.Cmp.{int_ranked}
use Rattle.std.proofs.lemmas.Int.{ints}
use Rattle.gf_frac.specs.Fraction.{zero_ℚ}
use Rattle.gf_exponents_theory.specs.Exponents.{Exponents, same, whole_weight}
use Rattle.gf_exponents_theory.specs.Orders.{deglex}
use Rattle.gf_exponents_theory.proofs.WholeWeightLaws.{whole_weight-same}
use Rattle.gf_poly.specs.declared.Term.{Term}
use Rattle.gf_poly.specs.Polynomial.{Terms, coefficient, IsDescending, HasVariables}
use Rattle.gf_poly.specs.InitialForms.{IsOfGreatestWeight, IsInitialForm}
use Rattle.gf_poly.specs.Marking.{MarkedPolynomial, HasMarkedTerm}
use Rattle.gf_poly.proofs.DescendingLaws.{equal_same, Contains-cons}
use Rattle.gf_poly.proofs.InitialFormLaws.{occurs}
use Rattle.gf_poly.proofs.CoefficientLaws.{term_nonzero, term_coefficient}
use Rattle.std.proofs.lemmas.List.Elements.{all_zip_more}
use Rattle.gf_text.specs.declared.written.Written.{Written}
use Rattle.gf_text.specs.Sets.{IsIn, AreIn}
use Rattle.gf_small.specs.InitialForms.{IsWrittenInitialForm, AreInitialForms}
use Rattle.gf_small.proofs.WrittenLaws.{AreIn-push}

-- ---- some term is of greatest weight

-- a term of the list than which none weighs more
record Top (w : List ℤ) (f : Terms) : Type 0 where
  term : Term
  there : Contains f term
  above : (s : Term) → Contains f s → whole_weight w s.mono ≤ℤ whole_weight w term.mono

top : (w : List ℤ) (t : Term) (f : Terms) → Top w (t ∷ f)
top w t [] = record {
  term = t;
  there = (0, omega arith, refl);
  above = λ s c. elim (Contains-cons [] s t c) [
    | inl e ↦ subst (λ (z : Term). whole_weight w s.mono ≤ℤ whole_weight w z.mono) e (omega (arith, ints))
    | inr n ↦ absurd (omega (arith, n.1))
  ];
}
top w t (r ∷ f) = by (top w r f) (int_cmp (whole_weight w t.mono) (whole_weight w (top w r f).term.mono))
    (int_ranked (whole_weight w t.mono) (whole_weight w (top w r f).term.mono) _ refl)
  where
    keep : (p : Top w (r ∷ f)) → whole_weight w t.mono ≤ℤ whole_weight w p.term.mono → Top w (t ∷ r ∷ f)
    keep p l = record {
      term = p.term;
      there = (suc p.there.0, omega (arith, p.there.1), p.there.2);
      above = λ s c. elim (Contains-cons (r ∷ f) s t c) [
        | inl e ↦ subst (λ (z : Term). whole_weight w z.mono ≤ℤ whole_weight w p.term.mono) (sym e) l
        | inr d ↦ p.above s d
      ];
    }

    by : (p : Top w (r ∷ f)) (o : Ordering) → MatchOrdering o (whole_weight w t.mono <ℤ whole_weight w p.term.mono) (whole_weight w t.mono ≡
        whole_weight w p.term.mono) (whole_weight w p.term.mono <ℤ whole_weight w t.mono) → Top w (t ∷ r ∷ f)
    by p Less h = keep p (omega (arith, ints, h))
    by p Equal h = keep p (omega (arith, ints, h))
    by p Greater h = record {
      term = t;
      there = (0, omega arith, refl);
      above = λ s c. elim (Contains-cons (r ∷ f) s t c) [
        | inl e ↦ subst (λ (z : Term). whole_weight w s.mono ≤ℤ whole_weight w z.mono) e (omega (arith, ints))
        | inr d ↦ omega (arith, ints, p.above s d, h)
      ];
    }

-- the initial form of a polynomial that isn't zero isn't zero
pub form_nonempty : (n : ℕ) (w : List ℤ) (f h : Terms) → HasVariables n f → IsDescending f → 0 < length f → IsInitialForm w f h → 0 < length h
form_nonempty n w [] h v d l i = absurd (omega arith)
form_nonempty n w (t ∷ f) [] v d l i =
    absurd (term_nonzero (t ∷ f) p.term d p.there (sym (term_coefficient n (t ∷ f) p.term v d p.there) ∙ sym (i.heaviest p.term.mono greatest)))
  where
    p : Top w (t ∷ f)
    p = top w t f

    greatest : IsOfGreatestWeight w (t ∷ f) p.term.mono
    greatest y c = at (occurs (t ∷ f) y c)
      where
        at : ((s : Term) × Contains (t ∷ f) s × (same y s.mono ≡ true)) → whole_weight w y ≤ℤ whole_weight w p.term.mono
        at q = omega (arith, ints, p.above q.0 q.1, whole_weight-same w y q.0.mono q.2)
form_nonempty n w (t ∷ f) (s ∷ h) v d l i = omega arith

-- ---- the mark

-- the coefficient at a term's monomial isn't 0
pub here_not_zero : (n : ℕ) (f : Terms) (x : Exponents) (i : ℕ) (t : Term) → HasVariables n f → IsDescending f → i < length f → t ≡ get_or f i t →
    deglex t.mono x ≡ Equal → coefficient f x ≡ zero_ℚ → ⊥
here_not_zero n f x i t v d l e q z =
    let there : Contains f t = (i, l, sym e) in
    term_nonzero f t d there (sym (term_coefficient n f t v d there) ∙ ap (coefficient f) (equal_same t.mono x q) ∙ z)

-- a marked polynomial has a term
pub marked_some : (b : MarkedPolynomial) → HasMarkedTerm b → 0 < length b.poly
marked_some b m = omega (arith, m.term.1)

-- ---- polynomial by polynomial

-- those of the first i
pub record FormsSoFar (w : List ℤ) (fs gs : List Written) (i : ℕ) : Type 0 where
  pub forms : AreInitialForms w (take i fs) gs
  pub variables : AreIn (length w) gs

pub forms-more : (w : List ℤ) (fs gs next : List Written) (i : ℕ) (f g : Written) → i < length fs → f ≡ get_or fs i f → IsWrittenInitialForm w f g →
    IsIn (length w) g → next ≡ gs ++ g ∷ [] → FormsSoFar w fs gs i → FormsSoFar w fs next (i + 1)
forms-more w fs gs next i f g l e h v q k = record {
  forms = subst (AreInitialForms w (take (i + 1) fs)) (sym q) (all_zip_more (IsWrittenInitialForm w) fs gs i f g l e k.forms h);
  variables = subst (AreIn (length w)) (sym q) (AreIn-push (length w) gs g k.variables v);
}
