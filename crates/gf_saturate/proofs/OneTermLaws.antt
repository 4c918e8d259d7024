-- What a polynomial of one term, or a mark that is 1, says of the ideal. To cite: one_term_member, is_one, is_not_one,
-- told_as.
use Rattle.std.specs.Prelude.{IsTrue}
use Rattle.std.proofs.Common.{◌≡◌, ◌↔◌, ◌==◌, ℕ, Bool, true, false, List, [], ◌∷◌, Contains, length, arith, subst}
use Rattle.std.proofs.lemmas.Bool.Decides.{nat_tests}
use Rattle.gf_exponents_theory.specs.Exponents.{Exponents, same}
use Rattle.gf_exponents_theory.proofs.ExponentsLaws.{same-refl, same_flip, same_trans, eq_by}
use Rattle.gf_int_theory.proofs.ListLaws.{Contains-here}
use Rattle.gf_poly.specs.declared.Term.{Term}
use Rattle.gf_poly.specs.Polynomial.{Terms, IsDescending, HasVariables}
use Rattle.gf_poly.specs.Marking.{MarkedPolynomials, polys}
use Rattle.gf_ideal_theory.specs.Membership.{AreInVariables, IsInVariables}
use Rattle.gf_ideal_theory.proofs.KeptForms.{term_there}
use Rattle.gf_ideal_theory.proofs.ListedTerms.{by_terms, variables_by_terms}
use Rattle.gf_ideal_theory.proofs.MembershipLaws.{member-generator}
use Rattle.gf_ideal_theory.proofs.PieceLaws.{Contains-marked}
use Rattle.gf_buchberger.specs.Tasks.{HaveRingVariables}
use Rattle.gf_buchberger.proofs.TaskLaws.{ring_variables}
use Rattle.gf_saturation_theory.specs.Saturations.{IsOfOneTerm, HasOneTermMember, one_polynomial}
use Rattle.gf_saturation_theory.proofs.LawsHold.{monomials_are_told}
use Rattle.gf_saturate.specs.Saturating.{IsSaturation}
use Rattle.gf_saturate.specs.OneTerm.{HasUnitMark}

-- ---- a polynomial of one term

one_term : (n : ℕ) (t : Term) → HasVariables n (t ∷ []) → IsDescending (t ∷ []) → IsOfOneTerm (t ∷ []) t.mono
one_term n t v d = record {
  there = term_there n (t ∷ []) t v d (Contains-here t []);
  alone = by_terms (λ (y : Exponents). same y t.mono ≡ true) (t ∷ []) (λ x y s h. same_trans y x t.mono (same_flip x y s) h) (same-refl t.mono, tt);
}

-- among the generators
pub one_term_member : (n : ℕ) (fs : List Terms) (f : Terms) → Contains fs f → HasVariables n f → IsDescending f → length f ≡ 1 → HasOneTermMember n fs
one_term_member n fs [] c v d l = absurd (omega (arith, l))
one_term_member n fs (t ∷ []) c v d l = (t ∷ [], t.mono, member-generator n fs (t ∷ []) c, one_term n t v d)
one_term_member n fs (t ∷ s ∷ f) c v d l = absurd (omega (arith, l))

pub is_one : (a : ℕ) → (a == 1) ≡ true → a ≡ 1
is_one a e = eq_by a 1 e

pub is_not_one : (a : ℕ) → (a == 1) ≡ false → a ≡ 1 → ⊥
is_not_one a h e = absurd (grind (arith, nat_tests))

-- ---- a mark that is 1

-- a saturation whose basis has the mark 1 is that of an ideal with a polynomial of one term
told_by_marks : (n : ℕ) (fs : List Terms) (s : MarkedPolynomials) → HaveRingVariables n fs → IsSaturation n fs s → HasUnitMark s.items ↔ HasOneTermMember n fs
told_by_marks n fs s v h =
    let t = monomials_are_told.told n (polys s.items) s.items variables h.reduced in
    let o = monomials_are_told.one n fs (ring_variables n fs v) in
    (λ c. o.1 ((h.members one_polynomial).0 (t.1 c)), λ m. t.0 ((h.members one_polynomial).1 (o.0 m)))
  where
    variables : AreInVariables n (polys s.items)
    variables f c = let b = Contains-marked s.items f c in subst (IsInVariables n) b.2 (variables_by_terms n b.0.poly (h.arranged.canonical b.0 b.1).variables)

pub told_as : (n : ℕ) (fs : List Terms) (s : MarkedPolynomials) (answer : Bool) → HaveRingVariables n fs → IsSaturation n fs s →
    IsTrue answer ↔ HasUnitMark s.items → IsTrue answer ↔ HasOneTermMember n fs
told_as n fs s answer v h y = let m = told_by_marks n fs s v h in (λ t. m.0 (y.0 t), λ k. y.1 (m.1 k))
