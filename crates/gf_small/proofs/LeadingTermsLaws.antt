-- Marked terms as code finds them.
-- To cite: leading_exact, Leading, leading_kept. The rest are steps.
use Rattle.std.specs.Prelude.{◌≡◌, ℕ, ◌≤◌, List, [], ◌∷◌, length, map, take}
use Rattle.std.proofs.Common.{sym, ap, ◌∙◌, subst}
use Rattle.std.proofs.lemmas.List.{take_all}
use Rattle.gf_frac.specs.Fraction.{Fraction}
use Rattle.gf_poly.specs.Marking.{MarkedPolynomial, Each, HaveVariables, HasMarkedTerm, HasMark}
use Rattle.gf_poly.proofs.CoefficientLaws.{term_coefficient, term_length}
use Rattle.gf_division.specs.MonicForms.{HasSomeVariables}
use Rattle.gf_small.specs.LeadingTerms.{leading_of}

-- the marked term with the coefficient that the mark has
pub leading_exact : (b c : MarkedPolynomial) (k : Fraction) → HasSomeVariables b → HasMarkedTerm b → HasMark b k →
    c ≡ record { poly = record { coef = k; mono = b.head } ∷ []; head = b.head } → c ≡ leading_of b
leading_exact b c k v m h e =
    e ∙ ap (λ (z : Fraction). record { poly = record { coef = z; mono = b.head } ∷ []; head = b.head })
    (sym (term_coefficient v.n b.poly (record { coef = k; mono = b.head }) v.each m.descending h))

-- the marked terms of the first i members, which are marked
pub record Leading (bs found : List MarkedPolynomial) (i : ℕ) : Type 0 where
  pub items : found ≡ map leading_of (take i bs)
  pub marked : Each HasMarkedTerm (take i bs)

leading_variables : (n : ℕ) (bs : List MarkedPolynomial) → HaveVariables n bs → Each HasMarkedTerm bs → HaveVariables n (map leading_of bs)
leading_variables n [] v m = tt
leading_variables n (b ∷ bs) v m = ((term_length n b.poly (record { coef = m.0.mark; mono = b.head }) v.0 m.0.term, tt), leading_variables n bs v.1 m.1)

leading_all : (bs found : List MarkedPolynomial) (i : ℕ) → length bs ≤ i → Leading bs found i → found ≡ map leading_of bs
leading_all bs found i l h = h.items ∙ ap (map leading_of) (take_all i bs l)

pub leading_kept : (n k : ℕ) (bs items found : List MarkedPolynomial) (i : ℕ) → k ≡ n → items ≡ bs → HaveVariables n bs → length items ≤ i →
    Leading items found i → HaveVariables k found
leading_kept n k bs items found i q e v l h =
    let each = subst (Each HasMarkedTerm) (take_all i items l) h.marked in
    subst (λ (j : ℕ). HaveVariables j found) (sym q) (subst (HaveVariables n) (sym (leading_all items found i l h))
    (leading_variables n items (subst (HaveVariables n) (sym e) v) each))
