-- A reduced basis of an ideal with one generator has one member at most, which is a monic form of the generator.
-- To cite: alone_in, monic_at, basis_forms, basis_short, antichain_within, short_within.
use Rattle.std.proofs.Common.{◌≡◌, ◌⊎◌, ℕ, ◌≤◌, true, false, List, [], ◌∷◌, length, Contains, arith, sym, ap, ◌∙◌, subst, inl, inr}
use Rattle.gf_frac.specs.Fraction.{◌*ℚ◌, reciprocal_ℚ}
use Rattle.gf_frac.proofs.FractionLaws.{one-*ℚ, *ℚ_assoc, *ℚ-reciprocal_ℚ, reciprocal_ℚ-*ℚ}
use Rattle.gf_exponents_theory.specs.Exponents.{Exponents, same, plus}
use Rattle.gf_exponents_theory.specs.Orders.{IsWeightedBelow}
use Rattle.gf_exponents_theory.specs.SixOrders.{MonomialOrder}
use Rattle.gf_exponents_theory.proofs.ExponentsLaws.{same_flip, same_trans, plus-nil}
use Rattle.gf_exponents_theory.proofs.OrderLaws.{weighted-order}
use Rattle.gf_int_theory.proofs.ListLaws.{Contains-here}
use Rattle.gf_poly.specs.Polynomial.{Terms, coefficient, SamePolynomial, times}
use Rattle.gf_poly.specs.Marking.{MarkedPolynomial}
use Rattle.gf_poly.proofs.PolynomialLaws.{coefficient-same, coefficient-times}
use Rattle.gf_ideal_theory.specs.Membership.{HasMonomial, IsInVariables, AreInVariables, AreSameIdeal, Spans}
use Rattle.gf_ideal_theory.specs.Marks.{IsMarked, AreMarked, HasPositiveWeight}
use Rattle.gf_ideal_theory.specs.Reduction.{IsMonicForm}
use Rattle.gf_ideal_theory.specs.Bases.{IsBasis, IsGreatest, HasReducedTails, AreApart, AreSameBasis, IsTwin}
use Rattle.gf_ideal_theory.proofs.Identities.{one_not_zero}
use Rattle.gf_ideal_theory.proofs.ListLaws.{Contains-there}
use Rattle.gf_ideal_theory.proofs.SpanLaws.{Spans-trans}
use Rattle.gf_ideal_theory.proofs.MembershipLaws.{spans_of_member}
use Rattle.gf_ideal_theory.proofs.GeneratorLaws.{monic_generator}
use Rattle.gf_ideal_theory.proofs.LeadingLaws.{top_greatest}
use Rattle.gf_ideal_theory.proofs.BasisLaws.{basis_along}
use Rattle.gf_ideal_theory.proofs.InterreductionLaws.{reduced_by_order}
use Rattle.gf_ideal_theory.proofs.StepLaws.{IsWithin, monic-monomials}
use Rattle.gf_ideal_theory.proofs.LawsHold.{marks_have_weights}
use Rattle.gf_ideal_theory.proofs.LawsOfBasesHold.{bases_go_by_their_marks, reduced_bases_are_unique}
use Rattle.gf_ideal_theory.proofs.SmallBases.{principal_ideal, spans_nothing, only}
use Rattle.gf_binomials_theory.specs.Antichains.{IsAntichain, HasShortExponents}
use Rattle.gf_binomials_theory.proofs.PrincipalRuns.{there_along}

-- ---- what has no other monomials

pub antichain_within : (f g : Terms) → IsWithin (HasMonomial f) g → IsAntichain f → IsAntichain g
antichain_within f g w a = record { apart = λ u x y h k s. a.apart u x y (w x h) (w y k) s }

pub short_within : (f g : Terms) → IsWithin (HasMonomial f) g → HasShortExponents f → HasShortExponents g
short_within f g w l x h i = l x (w x h) i

-- ---- the monic form at a monomial

abbrev pub monic_at : Terms → Exponents → MarkedPolynomial
monic_at f y = record { poly = times (reciprocal_ℚ (coefficient f y)) [] f; head = y }

pub monic_at-form : (f : Terms) (y : Exponents) → HasMonomial f y → IsMonicForm f (monic_at f y)
monic_at-form f y h = record {
  there = h;
  equation = λ x.
      ap (λ z. coefficient f y *ℚ z) (coefficient-times (reciprocal_ℚ (coefficient f y)) [] f x)
      ∙ sym (*ℚ_assoc (coefficient f y) (reciprocal_ℚ (coefficient f y)) (coefficient f x))
      ∙ ap (λ z. z *ℚ coefficient f x) (*ℚ-reciprocal_ℚ (coefficient f y) h) ∙ one-*ℚ (coefficient f x);
}

monic_at-marked : (below : Exponents → Exponents → Type 0) (f : Terms) (y : Exponents) → IsGreatest below f y → IsMarked below (monic_at f y)
monic_at-marked below f y g = record {
  monic = coefficient-times (reciprocal_ℚ (coefficient f y)) [] f y ∙ reciprocal_ℚ-*ℚ (coefficient f y) g.there;
  tail = λ x n. g.greatest x (monic-monomials f (monic_at f y) (monic_at-form f y g.there) x n);
}

-- ---- the members

pub alone_in : (n : ℕ) (f : Terms) → IsInVariables n f → AreInVariables n (f ∷ [])
alone_in n f v g c = subst (λ (h : Terms). IsInVariables n h) (only f g c) v

spans_zero : (f g : Terms) → SamePolynomial f [] → Spans (f ∷ []) g → SamePolynomial g []
spans_zero f g z s = spans_nothing g (Spans-trans [] (f ∷ []) g (λ p c. Spans.none p (subst (λ (h : Terms). SamePolynomial h []) (only f p c) z)) s)

-- the reduced basis with the monic form at the greatest monomial
same_as_form : (n : ℕ) (f : Terms) (hs : List MarkedPolynomial) (y : Exponents) → IsInVariables n f → (b : IsBasis n (f ∷ []) hs) → HasReducedTails hs →
    AreApart hs → IsGreatest (IsWeightedBelow b.marked.0) f y → AreSameBasis hs (monic_at f y ∷ [])
same_as_form n f hs y v b t a g = reduced_bases_are_unique.for_order (MonomialOrder.weighted w) n (q.poly ∷ []) hs (q ∷ [])
    (reduced_by_order n (q.poly ∷ []) hs (IsWeightedBelow w) inside (basis_along n (f ∷ []) (q.poly ∷ []) hs same_ideals b) (weighted-order w).strict weighted t
    a)
    (bases_go_by_their_marks.reduced_orders (MonomialOrder.weighted w) n (q.poly ∷ []) positive.0 (q ∷ []) inside
    (principal_ideal n positive.0 q positive.1 in_ring (positive.2 q (Contains-here q []))) marked)
  where
    w : List ℕ
    w = b.marked.0

    q : MarkedPolynomial
    q = monic_at f y

    form : IsMonicForm f q
    form = monic_at-form f y g.there

    in_ring : IsInVariables n q.poly
    in_ring x m = v x (monic-monomials f q form x m)

    inside : AreInVariables n (q.poly ∷ [])
    inside = alone_in n q.poly in_ring

    same_ideals : AreSameIdeal n (f ∷ []) (q.poly ∷ [])
    same_ideals = monic_generator n [] [] f q (alone_in n f v) form

    marked : AreMarked (IsWeightedBelow w) (q ∷ [])
    marked c k = subst (λ (e : MarkedPolynomial). IsMarked (IsWeightedBelow w) e) (only q c k) (monic_at-marked (IsWeightedBelow w) f y g)

    positive : HasPositiveWeight n (q ∷ [])
    positive = marks_have_weights.by_weighted n w (q ∷ []) marked

    weighted : AreMarked (IsWeightedBelow w) hs
    weighted c k = let m = b.marked.2 c k in record { monic = m.monic; tail = λ x h. elim (m.tail x h) [ inl s ↦ inl s | inr l ↦ inr (inl l) ] }

-- each member is a monic form
pub basis_forms : (n : ℕ) (f : Terms) (hs : List MarkedPolynomial) → IsInVariables n f → IsBasis n (f ∷ []) hs → HasReducedTails hs → AreApart hs →
    (h : MarkedPolynomial) → Contains hs h → IsMonicForm f h
basis_forms n f hs v b t a h c = at ((top_greatest (IsWeightedBelow b.marked.0) (weighted-order b.marked.0)).some f)
  where
    at : SamePolynomial f [] ⊎ ((y : Exponents) × IsGreatest (IsWeightedBelow b.marked.0) f y) → IsMonicForm f h
    at (inl z) = absurd (one_not_zero (sym (b.marked.2 h c).monic ∙ spans_zero f h.poly z (spans_of_member n (f ∷ []) h.poly (b.members h c)) h.head))
    at (inr y) = by ((same_as_form n f hs y.0 v b t a y.1).there h c)
      where
        q : MarkedPolynomial
        q = monic_at f y.0

        by : ((d : MarkedPolynomial) × Contains (q ∷ []) d × IsTwin h d) → IsMonicForm f h
        by d = record {
          there = there_along f q.head h.head (same_flip h.head q.head twin.head) y.1.there;
          equation = λ x. ap (λ c. c *ℚ coefficient h.poly x) (coefficient-same f h.head q.head twin.head) ∙ ap (λ z. coefficient f q.head *ℚ z) (twin.poly x) ∙
              (monic_at-form f y.0 y.1.there).equation x;
        }
          where
            twin : IsTwin h q
            twin = subst (IsTwin h) (sym (only q d.0 d.1)) d.2

-- there is one at most
pub basis_short : (n : ℕ) (f : Terms) (hs : List MarkedPolynomial) → IsInVariables n f → IsBasis n (f ∷ []) hs → HasReducedTails hs → AreApart hs →
    length hs ≤ 1
basis_short n f [] v b t a = omega arith
basis_short n f (h ∷ []) v b t a = omega arith
basis_short n f (h ∷ k ∷ hs) v b t a = absurd (no ((top_greatest (IsWeightedBelow b.marked.0) (weighted-order b.marked.0)).some f))
  where
    in_front : Contains (h ∷ k ∷ hs) h
    in_front = Contains-here h (k ∷ hs)

    no : SamePolynomial f [] ⊎ ((y : Exponents) × IsGreatest (IsWeightedBelow b.marked.0) f y) → ⊥
    no (inl e) = one_not_zero (sym (b.marked.2 h in_front).monic ∙ spans_zero f h.poly e (spans_of_member n (f ∷ []) h.poly (b.members h in_front)) h.head)
    no (inr y) = by (alike.there h in_front) (alike.there k (Contains-there h k (k ∷ hs) (Contains-here k hs)))
      where
        q : MarkedPolynomial
        q = monic_at f y.0

        alike : AreSameBasis (h ∷ k ∷ hs) (q ∷ [])
        alike = same_as_form n f (h ∷ k ∷ hs) y.0 v b t a y.1

        -- the marks of the two would be the same
        by : ((d : MarkedPolynomial) × Contains (q ∷ []) d × IsTwin h d) → ((d : MarkedPolynomial) × Contains (q ∷ []) d × IsTwin k d) → ⊥
        by d e =
            let p : IsTwin h q = subst (IsTwin h) (sym (only q d.0 d.1)) d.2 in
            let r : IsTwin k q = subst (IsTwin k) (sym (only q e.0 e.1)) e.2 in
            let s : same k.head h.head ≡ true = same_trans k.head q.head h.head r.head (same_flip h.head q.head p.head) in
            let o : same k.head (plus h.head []) ≡ false = a.0.0.0 [] in
            let m : plus h.head [] ≡ h.head = plus-nil h.head in
            absurd (cc)
