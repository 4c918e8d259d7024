-- What grades the generators grades each basis with reduced tails: homogeneous ideals have homogeneous reduced bases.
-- To cite: IsOfOneClass, basis-graded, reduced-homogeneous. The rest are steps: the part of one class of a member is a member.
use Rattle.std.proofs.Common.{◌≡◌, ◌⊎◌, ℕ, List, [], ◌++◌, Contains, sym, ap, refl, ◌∙◌, subst, inl, inr}
use Rattle.gf_frac.specs.Fraction.{◌+ℚ◌, neg_ℚ, zero_ℚ, one_ℚ}
use Rattle.gf_frac.proofs.FractionLaws.{+ℚ-neg_ℚ, zero-+ℚ, zero_or_not}
use Rattle.gf_exponents_theory.specs.Exponents.{Exponents, plus}
use Rattle.gf_poly.specs.Polynomial.{Terms, coefficient, SamePolynomial, times}
use Rattle.gf_poly.specs.Marking.{MarkedPolynomial, polys}
use Rattle.gf_poly.proofs.PolynomialLaws.{coefficient-++}
use Rattle.gf_ideal_theory.specs.Membership.{HasMonomial, IsInVariables, AreInVariables, IsMember, Spans}
use Rattle.gf_ideal_theory.specs.Reduction.{IsIrreducible}
use Rattle.gf_ideal_theory.specs.MonomialOrders.{IsOfGrade}
use Rattle.gf_ideal_theory.specs.Bases.{HasReducedTails, IsHeaviest}
use Rattle.gf_ideal_theory.specs.LawsOfBases.{AreHomogeneous}
use Rattle.gf_ideal_theory.proofs.TermLaws.{nothing_there}
use Rattle.gf_ideal_theory.proofs.OrderWeights.{IsGrading, grading}
use Rattle.gf_ideal_theory.proofs.SpanLaws.{Spans-zero, Spans-++, Spans-times, Spans-generator}
use Rattle.gf_ideal_theory.proofs.MembershipLaws.{member_of_spans, spans_of_member, variables_of_member, member-difference}
use Rattle.gf_ideal_theory.proofs.MarkWeights.{IsGradedBy}
use Rattle.gf_ideal_theory.proofs.PieceLaws.{Contains-marked}
use Rattle.gf_ideal_theory.proofs.LeadingLaws.{top_heaviest}
use Rattle.gf_facets_theory.specs.MarkedBases.{IsMarkedReducedBasis}
use Rattle.gf_bases_theory.proofs.DifferenceLaws.{difference, less_zero}

-- ---- classes of a spanned polynomial are spanned

-- all monomials of f are alike
abbrev pub IsOfOneClass : (Exponents → Exponents → Type 0) → Terms → Type 0
IsOfOneClass Alike f = (x y : Exponents) → HasMonomial f x → HasMonomial f y → Alike x y

-- the class of x in f, spanned by fs
record IsClassPart (fs : List Terms) (Alike : Exponents → Exponents → Type 0) (x : Exponents) (f : Terms) : Type 0 where
  poly : Terms
  spanned : Spans fs poly
  alike : (y : Exponents) → Alike y x → coefficient poly y ≡ coefficient f y
  other : (y : Exponents) → (Alike y x → ⊥) → coefficient poly y ≡ zero_ℚ

class_part : (fs : List Terms) (Alike : Exponents → Exponents → Type 0) (x : Exponents) → IsGrading Alike →
    ((f : Terms) → Contains fs f → IsOfOneClass Alike f) → (f : Terms) → Spans fs f → IsClassPart fs Alike x f
class_part fs Alike x g one f (Spans.none k z) = record { poly = []; spanned = Spans-zero fs; alike = λ y a. sym (z y); other = λ y n. refl }
class_part fs Alike x g one f (Spans.more c u p k h j s e) = at (class_part fs Alike x g one h s) ((top_heaviest []).some p)
  where
    sum : (y : Exponents) → coefficient f y ≡ coefficient (times c u p) y +ℚ coefficient h y
    sum y = e y ∙ coefficient-++ (times c u p) h y

    -- where p has a monomial t, a monomial of the multiple is alike u t
    alike_top : (t y : Exponents) → HasMonomial p t → HasMonomial (times c u p) y → Alike y (plus u t)
    alike_top t y m n = elim (g.decide y (plus u t)) [
      | inl a ↦ a
      | inr o ↦ absurd (n (nothing_there c u p y (λ z k q. o (g.transitive y (plus u z) (plus u t) (g.along y (plus u z) q)
          (g.invariant u z t (one p j z t k m))))))
    ]

    dropped : IsClassPart fs Alike x h → ((y : Exponents) → Alike y x → coefficient (times c u p) y ≡ zero_ℚ) →
        IsClassPart fs Alike x f
    dropped r none = record {
      poly = r.poly;
      spanned = r.spanned;
      alike = λ y a. r.alike y a ∙ sym (sum y ∙ ap (λ z. z +ℚ coefficient h y) (none y a) ∙ zero-+ℚ _);
      other = r.other;
    }

    nothing : (y : Exponents) → (HasMonomial (times c u p) y → ⊥) → coefficient (times c u p) y ≡ zero_ℚ
    nothing y n = elim (zero_or_not (coefficient (times c u p) y)) [ inl z ↦ z | inr m ↦ absurd (n m) ]

    at : IsClassPart fs Alike x h → SamePolynomial p [] ⊎ ((t : Exponents) × IsHeaviest [] p t) → IsClassPart fs Alike x f
    at r (inl z) = dropped r (λ y a. nothing_there c u p y (λ t m q. m (z t)))
    at r (inr t) = elim (g.decide (plus u t.0) x) [
      | inr o ↦ dropped r (λ y a. nothing y (λ m. o (g.transitive (plus u t.0) y x (g.symmetric y (plus u t.0) (alike_top t.0 y t.1.there m)) a)))
      | inl a ↦ record {
        poly = times c u p ++ r.poly;
        spanned = Spans-++ fs (times c u p) r.poly (Spans-times fs p c u (Spans-generator fs p j)) r.spanned;
        alike = λ y b. coefficient-++ (times c u p) r.poly y ∙ ap (λ z. coefficient (times c u p) y +ℚ z) (r.alike y b) ∙ sym (sum y);
        other = λ y n. coefficient-++ (times c u p) r.poly y
            ∙ ap (λ z. z +ℚ coefficient r.poly y) (nothing y (λ m. n (g.transitive y (plus u t.0) x (alike_top t.0 y t.1.there m) a)))
            ∙ zero-+ℚ _ ∙ r.other y n;
      }
    ]

-- where each generator lies in one class, so does each member of a basis with reduced tails
pub basis-graded : (n : ℕ) (fs : List Terms) (Alike : Exponents → Exponents → Type 0) (bs : List MarkedPolynomial) (b : MarkedPolynomial) →
    IsGrading Alike → AreInVariables n fs → ((f : Terms) → Contains fs f → IsOfOneClass Alike f) →
    ((d : MarkedPolynomial) → Contains bs d → IsMember n fs d.poly) →
    ((f : Terms) → IsMember n fs f → IsIrreducible (Contains bs) f → SamePolynomial f []) → HasReducedTails bs →
    Contains bs b → IsGradedBy Alike b
basis-graded n fs Alike bs b g v one inside decides tails c y m = elim (g.decide y b.head) [
  | inl a ↦ a
  | inr o ↦ absurd (m (sym (off y o) ∙ zero y))
]
  where
    r : IsClassPart fs Alike b.head b.poly
    r = class_part fs Alike b.head g one b.poly (spans_of_member n fs b.poly (inside b c))

    in_variables : IsInVariables n r.poly
    in_variables x k =
        variables_of_member n fs b.poly v (inside b c) x (λ z. elim (g.decide x b.head) [ inl a ↦ k (r.alike x a ∙ z) | inr o ↦ k (r.other x o) ])

    d : Terms
    d = b.poly ++ times (neg_ℚ one_ℚ) [] r.poly

    on : (x : Exponents) → Alike x b.head → coefficient d x ≡ zero_ℚ
    on x a = difference b.poly r.poly x ∙ ap (λ z. coefficient b.poly x +ℚ neg_ℚ z) (r.alike x a) ∙ +ℚ-neg_ℚ _

    off : (x : Exponents) → (Alike x b.head → ⊥) → coefficient d x ≡ coefficient b.poly x
    off x o = difference b.poly r.poly x ∙ ap (λ z. coefficient b.poly x +ℚ neg_ℚ z) (r.other x o) ∙ less_zero _

    zero : SamePolynomial d []
    zero = decides d (member-difference n fs b.poly r.poly (inside b c) (member_of_spans n fs r.poly v in_variables r.spanned))
        (λ x k div. elim (g.decide x b.head) [
          | inl a ↦ k (on x a)
          | inr o ↦ o (g.along x b.head (tails b c x (λ z. k (off x o ∙ z)) div))
        ])

-- homogeneous generators have homogeneous marked reduced bases
pub reduced-homogeneous : (n : ℕ) (grade : List ℕ) (fs : List Terms) (bs : List MarkedPolynomial) → AreInVariables n fs →
    AreHomogeneous n grade fs → IsMarkedReducedBasis n fs bs → AreHomogeneous n grade (polys bs)
reduced-homogeneous n grade fs bs v hom core f k x y hx hy = at (Contains-marked bs f k)
  where
    gr : IsGrading (IsOfGrade n grade)
    gr = grading n grade

    at : ((b : MarkedPolynomial) × Contains bs b × (b.poly ≡ f)) → IsOfGrade n grade x y
    at b =
        let g = basis-graded n fs (IsOfGrade n grade) bs b.0 gr v hom core.reduced.basis.members core.reduced.basis.decides core.reduced.tails b.1 in
        let one : (z : Exponents) → HasMonomial f z → IsOfGrade n grade z b.0.head =
        subst (λ (h : Terms). (z : Exponents) → HasMonomial h z → IsOfGrade n grade z b.0.head) b.2 g in
        gr.transitive x b.0.head y (one x hx) (gr.symmetric y b.0.head (one y hy))
