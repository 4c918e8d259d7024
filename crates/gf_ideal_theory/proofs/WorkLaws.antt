-- The lists of Buchberger's algorithm: members of the ideal, marked, homogeneous where the generators are; and the list
-- that the algorithm ends with is a basis.
-- To cite: work-marked, work-members, work-homogeneous, run_basis, order_basis.
use Rattle.std.proofs.Common.{◌⊎◌, ℕ, List, [], Contains, arith, sym, subst, inl, inr}
use Rattle.gf_frac.specs.Fraction.{Fraction, neg_ℚ, one_ℚ}
use Rattle.gf_exponents_theory.specs.Exponents.{Exponents, plus, join}
use Rattle.gf_int_theory.proofs.ListLaws.{Contains-last}
use Rattle.gf_poly.specs.Polynomial.{Terms, SamePolynomial, times}
use Rattle.gf_poly.specs.Marking.{MarkedPolynomial, polys}
use Rattle.gf_ideal_theory.specs.Membership.{HasMonomial, AreInVariables, IsMember}
use Rattle.gf_ideal_theory.specs.Marks.{IsMarked, AreMarked}
use Rattle.gf_ideal_theory.specs.MonomialOrders.{MonomialOrder, below_of, IsOfGrade, IsHomogeneous, IsAdmissible}
use Rattle.gf_ideal_theory.specs.Bases.{AreMembers, IsBasis, IsHeaviest}
use Rattle.gf_ideal_theory.specs.Settled.{ArePairsSettled}
use Rattle.gf_ideal_theory.specs.WorkLists.{IsOrigin, IsWorkList}
use Rattle.gf_ideal_theory.proofs.TermLaws.{found}
use Rattle.gf_ideal_theory.proofs.MembershipLaws.{member-generator, spans_of_member}
use Rattle.gf_ideal_theory.proofs.PieceLaws.{combined_of_spans, combined_of_polys}
use Rattle.gf_ideal_theory.proofs.StepLaws.{IsClosed, IsWithin, sum_within, taken, member-reached, member-s_polynomial, monic-monomials}
use Rattle.gf_ideal_theory.proofs.GeneratorLaws.{member-monic}
use Rattle.gf_ideal_theory.proofs.OrderWeights.{IsGrading, grading, order-is, order-weights}
use Rattle.gf_ideal_theory.proofs.MarkWeights.{IsGradedBy, mark-there}
use Rattle.gf_ideal_theory.proofs.LeadingLaws.{top_heaviest}
use Rattle.gf_ideal_theory.proofs.CriteriaLaws.{pairs_at_join}
use Rattle.gf_ideal_theory.proofs.TradeLaws.{basis_by_order}

-- ---- marks and members

-- the members are marked by the order
pub work-marked : (fs : List Terms) (below : Exponents → Exponents → Type 0) (bs : List MarkedPolynomial) →
    IsWorkList fs below bs → AreMarked below bs
work-marked fs below bs IsWorkList.start b h = absurd (omega (arith, h.1))
work-marked fs below bs (IsWorkList.more ks f g c w source steps q m d) b h = at (work-marked fs below ks w)
  where
    at : AreMarked below ks → IsMarked below b
    at r = elim (Contains-last ks c b h) [ inl k ↦ r b k | inr e ↦ subst (λ (x : MarkedPolynomial). IsMarked below x) (sym e) m ]

-- they are members of the ideal of the generators
pub work-members : (n : ℕ) (fs : List Terms) (below : Exponents → Exponents → Type 0) (bs : List MarkedPolynomial) →
    AreInVariables n fs → IsWorkList fs below bs → AreMembers n fs bs
work-members n fs below bs v IsWorkList.start b h = absurd (omega (arith, h.1))
work-members n fs below bs v (IsWorkList.more ks f g c w source steps q m d) b h = at (work-members n fs below ks v w)
  where
    marked : (e : MarkedPolynomial) → Contains ks e → HasMonomial e.poly e.head
    marked e k = mark-there below e (work-marked fs below ks w e k)

    from : AreMembers n fs ks → IsOrigin fs ks f → IsMember n fs f
    from r (inl k) = member-generator n fs f k
    from r (inr k) = member-s_polynomial n fs k.0 k.1 f v (marked k.0 k.2) (marked k.1 k.3) (r k.0 k.2) (r k.1 k.3) k.4

    at : AreMembers n fs ks → IsMember n fs b.poly
    at r = elim (Contains-last ks c b h) [
      | inl k ↦ r b k
      | inr e ↦ subst (λ (x : MarkedPolynomial). IsMember n fs x.poly) (sym e)
          (member-monic n fs g c v q (member-reached n fs (Contains ks) f g v r steps (from r source)))
    ]

-- ---- grades

pub closed-alike : (Alike : Exponents → Exponents → Type 0) (x : Exponents) (by : MarkedPolynomial → Type 0) →
    IsGrading Alike → ((b : MarkedPolynomial) → by b → IsGradedBy Alike b) → IsClosed by (λ y. Alike y x)
closed-alike Alike x by g h = record {
  along = λ y z s k. g.transitive z y x (g.symmetric y z (g.along y z s)) k;
  lower = λ b k u t n j. g.transitive (plus u t) (plus u b.head) x (g.invariant u t b.head (h b k t n)) j;
}

multiple_alike : (Alike : Exponents → Exponents → Type 0) (x : Exponents) (b : MarkedPolynomial) (c : Fraction) (u : Exponents) →
    IsGrading Alike → IsGradedBy Alike b → Alike (plus u b.head) x → IsWithin (λ y. Alike y x) (times c u b.poly)
multiple_alike Alike x b c u g h k e n = let r = found c u b.poly e n in g.transitive e (plus u r.0) x (g.along e (plus u r.0) r.2)
    (g.transitive (plus u r.0) (plus u b.head) x (g.invariant u r.0 b.head (h r.0 r.1)) k)

-- a homogeneous polynomial is zero, or alike one of its monomials
one_grade : (n : ℕ) (grade : List ℕ) (f : Terms) → IsHomogeneous n grade f →
    SamePolynomial f [] ⊎ ((x : Exponents) × IsWithin (λ y. IsOfGrade n grade y x) f)
one_grade n grade f h = at ((top_heaviest []).some f)
  where
    at : SamePolynomial f [] ⊎ ((x : Exponents) × IsHeaviest [] f x) →
        SamePolynomial f [] ⊎ ((x : Exponents) × IsWithin (λ y. IsOfGrade n grade y x) f)
    at (inl z) = inl z
    at (inr x) = inr (x.0, λ y k. h y x.0 k x.1.there)

-- they are homogeneous where the generators are
pub work-homogeneous : (n : ℕ) (grade : List ℕ) (fs : List Terms) (below : Exponents → Exponents → Type 0) (bs : List MarkedPolynomial) →
    ((f : Terms) → Contains fs f → IsHomogeneous n grade f) → IsWorkList fs below bs → (b : MarkedPolynomial) →
    Contains bs b → IsGradedBy (IsOfGrade n grade) b
work-homogeneous n grade fs below bs hom IsWorkList.start b h = absurd (omega (arith, h.1))
work-homogeneous n grade fs below bs hom (IsWorkList.more ks f g c w source steps q m d) b h = at (work-homogeneous n grade fs below ks hom w)
  where
    Alike : Exponents → Exponents → Type 0
    Alike = IsOfGrade n grade

    gr : IsGrading (IsOfGrade n grade)
    gr = grading n grade

    from : ((e : MarkedPolynomial) → Contains ks e → IsGradedBy (IsOfGrade n grade) e) → IsOrigin fs ks f →
        SamePolynomial f [] ⊎ ((x : Exponents) × IsWithin (λ y. IsOfGrade n grade y x) f)
    from r (inl k) = one_grade n grade f (hom f k)
    from r (inr k) =
        let s = k.4 in
        let l = join k.0.head k.1.head in
        inr (
          l,
          sum_within (λ y. IsOfGrade n grade y l) (times one_ℚ s.left k.0.poly) (times (neg_ℚ one_ℚ) s.right k.1.poly) f
              (multiple_alike (IsOfGrade n grade) l k.0 one_ℚ s.left gr (r k.0 k.2) (gr.along (plus s.left k.0.head) l s.of_left))
              (multiple_alike (IsOfGrade n grade) l k.1 (neg_ℚ one_ℚ) s.right gr (r k.1 k.3) (gr.along (plus s.right k.1.head) l s.of_right)) s.equal,
        )

    last : ((e : MarkedPolynomial) → Contains ks e → IsGradedBy (IsOfGrade n grade) e) →
        SamePolynomial f [] ⊎ ((x : Exponents) × IsWithin (λ y. IsOfGrade n grade y x) f) →
        IsGradedBy (IsOfGrade n grade) c
    last r (inl z) = λ y k. absurd ((taken (Contains ks) (λ x. ⊥) f g (record { along = λ x y s h. h; lower = λ e k u t n h. h }) (λ x n. n (z x)) steps).within
        c.head q.there)
    last r (inr x) =
        let t = taken (Contains ks) (λ y. IsOfGrade n grade y x.0) f g (closed-alike (IsOfGrade n grade) x.0 (Contains ks) gr r) x.1 steps in
        λ y k. gr.transitive y x.0 c.head (t.within y (monic-monomials g c q y k)) (gr.symmetric c.head x.0 (t.within c.head q.there))

    at : ((e : MarkedPolynomial) → Contains ks e → IsGradedBy (IsOfGrade n grade) e) → IsGradedBy (IsOfGrade n grade) b
    at r = elim (Contains-last ks c b h) [
      | inl k ↦ r b k
      | inr e ↦ subst (λ (z : MarkedPolynomial). IsGradedBy (IsOfGrade n grade) z) (sym e) (last r (from r source))
    ]

-- ---- the criterion, and the end of a run

-- a list of members whose pairs are settled, and in whose ideal the generators are
pub order_basis : (o : MonomialOrder) (n : ℕ) (grade : List ℕ) (fs : List Terms) (bs : List MarkedPolynomial) →
    IsAdmissible o n grade → AreMarked (below_of o) bs →
    ((b : MarkedPolynomial) → Contains bs b → IsGradedBy (IsOfGrade n grade) b) → AreMembers n fs bs →
    ((f : Terms) → Contains fs f → IsMember n (polys bs) f) → ArePairsSettled n bs (below_of o) → IsBasis n fs bs
order_basis o n grade fs bs a m g inside back pairs =
    basis_by_order n fs bs (below_of o) (IsOfGrade n grade) (order-is o).strict (grading n grade) (order-weights o n grade a) m g
    (pairs_at_join n bs (below_of o) (order-is o).strict pairs) inside
    (λ f k. combined_of_spans (Contains bs) fs f (λ p j. combined_of_polys bs p (spans_of_member n (polys bs) p (back p j))) (spans_of_member n fs f k))

-- the list that a run ends with
pub run_basis : (o : MonomialOrder) (n : ℕ) (grade : List ℕ) (fs : List Terms) (bs : List MarkedPolynomial) →
    IsAdmissible o n grade → AreInVariables n fs → ((f : Terms) → Contains fs f → IsHomogeneous n grade f) →
    IsWorkList fs (below_of o) bs → ((f : Terms) → Contains fs f → IsMember n (polys bs) f) →
    ArePairsSettled n bs (below_of o) → IsBasis n fs bs
run_basis o n grade fs bs a v hom w back pairs = order_basis o n grade fs bs a (work-marked fs (below_of o) bs w)
    (work-homogeneous n grade fs (below_of o) bs hom w) (work-members n fs (below_of o) bs v w) back pairs
