-- The checks one after another, as the calls make them: `by` are the monic forms of s, as their set lends them.
-- To cite: forms_by, weight_by, shared_by, taken, taken_reduced, tested, membership_told.
use Rattle.std.specs.Prelude.{◌≡◌, ◌↔◌, ℕ, Bool, true, false, List, [], map, IsTrue}
use Rattle.std.proofs.Common.{refl, sym, ap, ◌∙◌, subst}
use Rattle.gf_poly.specs.Polynomial.{Terms, coefficient, IsDescending, HasVariables}
use Rattle.gf_poly.proofs.CoefficientLaws.{descending_unique}
use Rattle.gf_poly.specs.Marking.{MarkedPolynomial, MarkedPolynomials, Each, HaveVariables, HasMarkedTerm, IsArranged, polys}
use Rattle.gf_ideal_theory.specs.Marks.{IsRealisable}
use Rattle.gf_ideal_theory.specs.Membership.{IsMember}
use Rattle.gf_ideal_theory.specs.Bases.{IsBasis}
use Rattle.gf_ideal_theory.proofs.ListedTerms.{variables_by_terms}
use Rattle.gf_ideal_theory.proofs.LawsOfBasesHold.{membership_is_decided}
use Rattle.gf_division.specs.NormalForms.{HasSomeWeight}
use Rattle.gf_division.specs.Remainders.{IsRemainder}
use Rattle.gf_reduced.specs.Forms.{monic_of, monic_set}
use Rattle.gf_reduced.specs.Markings.{IsMarkedGroebnerBasis, IsBasisOf, IsReducedBasisOf}
use Rattle.gf_reduced.specs.Terms.{AreReduced}
use Rattle.gf_reduced.specs.Pairs.{MembersShareVariables}
use Rattle.gf_reduced.specs.Criteria.{AreAllPassed, HasFailing}
use Rattle.gf_reduced.proofs.CriteriaLaws.{passed_groebner}
use Rattle.gf_reduced.proofs.GroebnerLaws.{polys_variables, some_weight, failing_refutes, basis_of}
use Rattle.gf_reduced.proofs.ReducedLaws.{reduced_of}

-- the monic forms, as the set of them lends them
pub forms_by : (s forms : MarkedPolynomials) (by : List MarkedPolynomial) → ◌≡◌ {A = MarkedPolynomials} forms (monic_set s) → by ≡ forms.items →
    by ≡ map monic_of s.items
forms_by s forms by e q = q ∙ ap (λ (z : MarkedPolynomials). z.items) e

pub weight_by : (s : MarkedPolynomials) (by : List MarkedPolynomial) → by ≡ map monic_of s.items → IsRealisable s.variables s.items → HasSomeWeight by
weight_by s by q r = subst HasSomeWeight (sym q) (some_weight s.variables s.items r)

pub shared_by : (n : ℕ) (by bs : List MarkedPolynomial) → by ≡ bs → HaveVariables n bs → MembersShareVariables by
shared_by n by bs q v = record { n = n; each = subst (HaveVariables n) (sym q) v }

-- ---- a set is taken

groebner : (s : MarkedPolynomials) (by : List MarkedPolynomial) → by ≡ map monic_of s.items → HaveVariables s.variables s.items →
    IsRealisable s.variables s.items → AreAllPassed by → IsMarkedGroebnerBasis s.variables s.items
groebner s by q v r h = passed_groebner s.variables s.items v r (subst AreAllPassed q h)

pub taken : (s forms t : MarkedPolynomials) (by : List MarkedPolynomial) → ◌≡◌ {A = MarkedPolynomials} forms (monic_set s) → by ≡ map monic_of s.items →
    HaveVariables s.variables s.items → IsRealisable s.variables s.items → AreAllPassed by → IsArranged forms t → IsBasisOf s t
taken s forms t by e q v r h a = basis_of s t v (subst (λ (z : MarkedPolynomials). IsArranged z t) e a) (groebner s by q v r h)

pub taken_reduced : (s forms t : MarkedPolynomials) (by items : List MarkedPolynomial) → ◌≡◌ {A = MarkedPolynomials} forms (monic_set s) →
    by ≡ map monic_of s.items → items ≡ s.items → HaveVariables s.variables s.items → Each HasMarkedTerm s.items → IsRealisable s.variables s.items →
    AreReduced items → AreAllPassed by → IsArranged forms t → IsReducedBasisOf s t
taken_reduced s forms t by items e q i v m r u h a = reduced_of s t v m (subst (λ (z : MarkedPolynomials). IsArranged z t) e a) (subst AreReduced i u)
    (groebner s by q v r h)

-- ---- a set is tested

pub tested : (s : MarkedPolynomials) (by : List MarkedPolynomial) (r : Bool) → by ≡ map monic_of s.items → HaveVariables s.variables s.items →
    IsRealisable s.variables s.items → (IsTrue r → AreAllPassed by) → (r ≡ false → HasFailing by) → IsTrue r ↔ IsMarkedGroebnerBasis s.variables s.items
tested s by r q v m passed failing = at r passed failing
  where
    given : HasFailing by → IsMarkedGroebnerBasis s.variables s.items → ⊥
    given f = let g : HasFailing (map monic_of s.items) = subst HasFailing q f in failing_refutes s.variables s.items g.first g.second g.rest v g.remainder
        g.nonzero

    at : (z : Bool) → (IsTrue z → AreAllPassed by) → (z ≡ false → HasFailing by) → IsTrue z ↔ IsMarkedGroebnerBasis s.variables s.items
    at true x y = (λ t. passed_groebner s.variables s.items v m (subst AreAllPassed q (x refl)), λ g. refl)
    at false x y = (λ e. absurd (cc), λ g. absurd (given (y refl) g))

-- ---- membership

-- a remainder of f is zero exactly where f is in the ideal of the basis
pub membership_told : (n : ℕ) (bs : List MarkedPolynomial) (f r : Terms) (z : Bool) → HaveVariables n bs → HasVariables n f → IsBasis n (polys bs) bs →
    IsRemainder bs f r → IsDescending r → HasVariables n r → IsTrue z ↔ (r ≡ []) → IsTrue z ↔ IsMember n (polys bs) f
membership_told n bs f r z v w b h d u e = (
  λ t. membership_is_decided.member n (polys bs) bs f r (polys_variables n bs v) (variables_by_terms n f w) b h.reached
      (λ x. ap (λ (g : Terms). coefficient g x) (e.0 t)),
  λ m. e.1 (descending_unique n r [] u tt d tt (membership_is_decided.zero n (polys bs) bs f r (polys_variables n bs v) b m h.reached h.irreducible)),
)
