-- Buchberger's algorithm with numbers of any size ends: for each order that suits the generators there is a Gröbner basis.
-- To cite: basis_exists. The rest are steps: as long as a generator or an S-polynomial leaves a remainder, its monic form
-- is a member more, whose mark is new, so that Dickson's lemma ends the run.
use Rattle.std.proofs.Common.{◌≡◌, ◌⊎◌, ℕ, true, List, [], ◌∷◌, ◌++◌, Contains, arith, refl, sym, ap, ◌∙◌, subst, inl, inr}
use Rattle.std.proofs.lemmas.List.Elements.{Contains-append_left, Contains-append_right}
use Rattle.gf_frac.specs.Fraction.{◌+ℚ◌, neg_ℚ, one_ℚ}
use Rattle.gf_frac.proofs.FractionLaws.{zero-+ℚ}
use Rattle.gf_exponents_theory.specs.Exponents.{Exponents, same, plus, minus, join, IsInRing, NoMultiple}
use Rattle.gf_exponents_theory.specs.Orders.{lighter, IsMonomialOrder}
use Rattle.gf_exponents_theory.proofs.ExponentsLaws.{same-refl, same_flip, minus_left, minus_right, multiple_or_not, entry-plus, entries_same, same_by_entries}
use Rattle.gf_int_theory.proofs.ListLaws.{Contains-last, Contains-here}
use Rattle.gf_poly.specs.Polynomial.{Terms, coefficient, SamePolynomial, times}
use Rattle.gf_poly.specs.Marking.{MarkedPolynomial, Each}
use Rattle.gf_poly.proofs.PolynomialLaws.{coefficient-++, coefficient-factor}
use Rattle.gf_ideal_theory.specs.Membership.{HasMonomial, AreInVariables, IsMember}
use Rattle.gf_ideal_theory.specs.Marks.{Piece, level, value, IsMarked, AreMarked, HasPositiveWeight, IsCombined}
use Rattle.gf_ideal_theory.specs.Reduction.{IsDivisible, IsSPolynomial}
use Rattle.gf_ideal_theory.specs.Bases.{AreMembers, IsBasis, IsGreatest, IsHeaviest}
use Rattle.gf_ideal_theory.specs.Settled.{IsPieceBelow, IsSettledAtJoin}
use Rattle.gf_ideal_theory.proofs.Identities.{neg_one, taken_over}
use Rattle.gf_ideal_theory.proofs.ListLaws.{Each-weaker, contained_each}
use Rattle.gf_ideal_theory.proofs.MembershipLaws.{member-generator, variables_of_member, spans_of_member}
use Rattle.gf_ideal_theory.proofs.PieceLaws.{combined_of_spans}
use Rattle.gf_ideal_theory.proofs.StepLaws.{IsClosed, closed-below, closed-both, multiple_within, sum_within, IsPieceIn, IsWithin, member-s_polynomial}
use Rattle.gf_ideal_theory.proofs.StepLaws.{monic-monomials}
use Rattle.gf_ideal_theory.proofs.GeneratorLaws.{member-monic}
use Rattle.gf_ideal_theory.proofs.OrderWeights.{IsGrading, HasWeightsFor}
use Rattle.gf_ideal_theory.proofs.MarkWeights.{IsGradedBy, mark-there, marked_positive}
use Rattle.gf_ideal_theory.proofs.ReductionLaws.{s_polynomial-within}
use Rattle.gf_ideal_theory.proofs.LeadingLaws.{top_greatest, top_heaviest}
use Rattle.gf_ideal_theory.proofs.TradeLaws.{basis_by_order}
use Rattle.gf_bases_theory.proofs.DicksonLaws.{IsNew, dickson}
use Rattle.gf_bases_theory.proofs.DecidedLaws.{search}
use Rattle.gf_ideal_theory.proofs.WorkLaws.{closed-alike}
use Rattle.gf_bases_theory.proofs.RemainderLaws.{HasRemainder, remainder, monic, monic_is, monic-marked}

-- members of the ideal, marked by the order, each of one grade
record IsRun (n : ℕ) (fs : List Terms) (below Alike : Exponents → Exponents → Type 0) (bs : List MarkedPolynomial) : Type 0 where
  members : AreMembers n fs bs
  marked : AreMarked below bs
  graded : (b : MarkedPolynomial) → Contains bs b → IsGradedBy Alike b

-- such a member whose mark no listed one divides
record NewMember (n : ℕ) (fs : List Terms) (below Alike : Exponents → Exponents → Type 0) (bs : List MarkedPolynomial) : Type 0 where
  new : MarkedPolynomial
  member : IsMember n fs new.poly
  marked : IsMarked below new
  graded : IsGradedBy Alike new
  undivided : IsDivisible (Contains bs) new.head → ⊥

-- a remainder is zero, or its monic form is a new member
grown : (n : ℕ) (fs : List Terms) (below Alike : Exponents → Exponents → Type 0) (bs : List MarkedPolynomial) (B : Exponents →
    Type 0) (x : Exponents) (g : Terms) → AreInVariables n fs → IsMonomialOrder below → IsGrading Alike → ((y : Exponents) → B y → Alike y x) →
    (r : HasRemainder n fs bs B g) → SamePolynomial r.rest [] ⊎ NewMember n fs below Alike bs
grown n fs below Alike bs B x g v o gr like r = at ((top_greatest below o).some r.rest)
  where
    at : SamePolynomial r.rest [] ⊎ ((y : Exponents) × IsGreatest below r.rest y) →
        SamePolynomial r.rest [] ⊎ NewMember n fs below Alike bs
    at (inl z) = inl z
    at (inr y) =
        let q = monic_is r.rest y.0 y.1.there in
        inr (record {
          new = monic r.rest y.0;
          member = member-monic n fs r.rest (monic r.rest y.0) v q r.member;
          marked = monic-marked below r.rest y.0 y.1;
          graded = λ e k. gr.transitive e x y.0 (like e (r.within e (monic-monomials r.rest (monic r.rest y.0) q e k)))
              (gr.symmetric y.0 x (like y.0 (r.within y.0 y.1.there)));
          undivided = λ d. r.irreducible y.0 y.1.there d;
        })

-- ---- one generator

-- it is a sum of multiples of the members, or there is a new member
generator : (n : ℕ) (fs : List Terms) (below Alike : Exponents → Exponents → Type 0) (bs : List MarkedPolynomial) (w : List ℕ) (f : Terms) →
    AreInVariables n fs → IsMonomialOrder below → IsGrading Alike → IsRun n fs below Alike bs → AreMarked (lighter w) bs →
    ((x y : Exponents) → HasMonomial f x → HasMonomial f y → Alike x y) → Contains fs f →
    IsCombined (Contains bs) f ⊎ NewMember n fs below Alike bs
generator n fs below Alike bs w f v o gr run m hom c = at ((top_heaviest []).some f)
  where
    at : SamePolynomial f [] ⊎ ((x : Exponents) × IsHeaviest [] f x) → IsCombined (Contains bs) f ⊎ NewMember n fs below Alike bs
    at (inl z) = inl (record { pieces = []; members = tt; equal = z })
    at (inr x) = with_rest (remainder n fs bs w B f v run.members m (closed-alike Alike x.0 (Contains bs) gr run.graded) (member-generator n fs f c)
        (λ y k. hom y x.0 k x.1.there))
      where
        B : Exponents → Type 0
        B y = Alike y x.0

        with_rest : HasRemainder n fs bs B f → IsCombined (Contains bs) f ⊎ NewMember n fs below Alike bs
        with_rest r = by (grown n fs below Alike bs B x.0 f v o gr (λ y k. k) r)
          where
            by : SamePolynomial r.rest [] ⊎ NewMember n fs below Alike bs → IsCombined (Contains bs) f ⊎ NewMember n fs below Alike bs
            by (inl z) = inl (record {
              pieces = r.pieces;
              members = Each-weaker (IsPieceIn (Contains bs) B) (λ (p : Piece). Contains bs p.of) (λ p k. k.member) r.pieces r.inside;
              equal = λ e. r.equal e ∙ ap (λ y. y +ℚ coefficient (value r.pieces) e) (z e) ∙ zero-+ℚ _;
            })
            by (inr g) = inr g

-- ---- one pair

-- it is settled, or there is a new member
pair : (n : ℕ) (fs : List Terms) (below Alike : Exponents → Exponents → Type 0) (bs : List MarkedPolynomial) (w : List ℕ) (b c : MarkedPolynomial) →
    AreInVariables n fs → IsMonomialOrder below → IsGrading Alike → IsRun n fs below Alike bs → AreMarked (lighter w) bs →
    Contains bs b → Contains bs c → IsSettledAtJoin (Contains bs) below b c ⊎ NewMember n fs below Alike bs
pair n fs below Alike bs w b c v o gr run m hb hc =
    with_rest (remainder n fs bs w B s v run.members m
    (closed-both (Contains bs) (λ y. below y l) (λ y. Alike y l) (closed-below (Contains bs) below l o.strict run.marked) alike)
    (member-s_polynomial n fs b c s v (mark-there below b (run.marked b hb)) (mark-there below c (run.marked c hc)) (run.members b hb) (run.members c hc) is_s)
    (λ y k. (s_polynomial-within below b c s o.strict (run.marked b hb) (run.marked c hc) is_s y k, graded y k)))
  where
    l : Exponents
    l = join b.head c.head

    u : Exponents
    u = minus l b.head

    x : Exponents
    x = minus l c.head

    s : Terms
    s = times one_ℚ u b.poly ++ times (neg_ℚ one_ℚ) x c.poly

    is_s : IsSPolynomial b c s
    is_s = record { left = u; right = x; of_left = minus_left b.head c.head; of_right = minus_right b.head c.head; equal = λ e. refl }

    B : Exponents → Type 0
    B y = below y l × Alike y l

    alike : IsClosed (Contains bs) (λ y. Alike y l)
    alike = closed-alike Alike l (Contains bs) gr run.graded

    graded : IsWithin (λ y. Alike y l) s
    graded = sum_within (λ y. Alike y l) (times one_ℚ u b.poly) (times (neg_ℚ one_ℚ) x c.poly) s
        (multiple_within (Contains bs) (λ y. Alike y l) b one_ℚ u alike hb (gr.along (plus u b.head) l (minus_left b.head c.head)))
        (multiple_within (Contains bs) (λ y. Alike y l) c (neg_ℚ one_ℚ) x alike hc (gr.along (plus x c.head) l (minus_right b.head c.head))) (λ e. refl)

    parts : (e : Exponents) →
        coefficient s e ≡ coefficient (times one_ℚ u b.poly) e +ℚ neg_ℚ (coefficient (times one_ℚ x c.poly) e)
    parts e = coefficient-++ (times one_ℚ u b.poly) (times (neg_ℚ one_ℚ) x c.poly) e ∙
        ap (λ z. coefficient (times one_ℚ u b.poly) e +ℚ z) (coefficient-factor (neg_ℚ one_ℚ) x c.poly e ∙ neg_one _)

    with_rest : HasRemainder n fs bs B s → IsSettledAtJoin (Contains bs) below b c ⊎ NewMember n fs below Alike bs
    with_rest r = by (grown n fs below Alike bs B l s v o gr (λ y k. k.1) r)
      where
        by : SamePolynomial r.rest [] ⊎ NewMember n fs below Alike bs →
            IsSettledAtJoin (Contains bs) below b c ⊎ NewMember n fs below Alike bs
        by (inr g) = inr g
        by (inl z) = inl (record {
          left = u;
          right = x;
          of_left = minus_left b.head c.head;
          of_right = minus_right b.head c.head;
          bridge = record {
            pieces = r.pieces;
            lower = Each-weaker (IsPieceIn (Contains bs) B) (IsPieceBelow (Contains bs) below (plus u b.head))
                (λ p q. record {
                  member = q.member;
                  lower = o.strict.along_right (level p) l (plus u b.head) (same_flip (plus u b.head) l (minus_left b.head c.head)) q.inside.0;
                }) r.pieces r.inside;
            equation = λ e. taken_over _ _ _ _ (parts e) (r.equal e ∙ ap (λ y. y +ℚ coefficient (value r.pieces) e) (z e) ∙ zero-+ℚ _);
          };
        })

-- ---- the run

-- a list of a run is a basis, or there is a new member
ended_or_not : (n : ℕ) (fs : List Terms) (below Alike : Exponents → Exponents → Type 0) (bs : List MarkedPolynomial) →
    AreInVariables n fs → IsMonomialOrder below → IsGrading Alike → HasWeightsFor Alike below →
    ((f : Terms) → Contains fs f → (x y : Exponents) → HasMonomial f x → HasMonomial f y → Alike x y) →
    IsRun n fs below Alike bs → IsBasis n fs bs ⊎ NewMember n fs below Alike bs
ended_or_not n fs below Alike bs v o gr hw hom run = weighed (marked_positive Alike below n bs hw run.marked run.graded)
  where
    weighed : HasPositiveWeight n bs → IsBasis n fs bs ⊎ NewMember n fs below Alike bs
    weighed w = at
        (search (IsCombined (Contains bs)) (NewMember n fs below Alike bs) fs (λ f c. generator n fs below Alike bs w.0 f v o gr run w.2 (hom f c) c))
        (search (λ (b : MarkedPolynomial). Each (λ (c : MarkedPolynomial). IsSettledAtJoin (Contains bs) below b c) bs) (NewMember n fs below Alike bs) bs
        (λ b hb. search (λ (c : MarkedPolynomial). IsSettledAtJoin (Contains bs) below b c) (NewMember n fs below Alike bs) bs
        (λ c hc. pair n fs below Alike bs w.0 b c v o gr run w.2 hb hc)))
      where
        at : Each (IsCombined (Contains bs)) fs ⊎ NewMember n fs below Alike bs →
            Each (λ (b : MarkedPolynomial). Each (λ (c : MarkedPolynomial). IsSettledAtJoin (Contains bs) below b c) bs) bs ⊎ NewMember n fs below Alike bs →
            IsBasis n fs bs ⊎ NewMember n fs below Alike bs
        at (inr g) q = inr g
        at (inl k) (inr g) = inr g
        at (inl k) (inl s) = inl (basis_by_order n fs bs below Alike o.strict gr hw run.marked run.graded
            (λ b c hb hc. contained_each (λ (c : MarkedPolynomial). IsSettledAtJoin (Contains bs) below b c) bs
            (contained_each (λ (b : MarkedPolynomial). Each (λ (c : MarkedPolynomial). IsSettledAtJoin (Contains bs) below b c) bs) bs s b hb) c hc)
            run.members
            (λ f m. combined_of_spans (Contains bs) fs f (λ p j. contained_each (IsCombined (Contains bs)) fs k p j) (spans_of_member n fs f m)))

-- a new member makes a longer list of a run
longer : (n : ℕ) (fs : List Terms) (below Alike : Exponents → Exponents → Type 0) (bs : List MarkedPolynomial) →
    IsRun n fs below Alike bs → (g : NewMember n fs below Alike bs) → IsRun n fs below Alike (bs ++ g.new ∷ [])
longer n fs below Alike bs run g = record {
  members = λ b h. member b (Contains-last bs g.new b h);
  marked = λ b h. marked b (Contains-last bs g.new b h);
  graded = λ b h. graded b (Contains-last bs g.new b h);
}
  where
    member : (b : MarkedPolynomial) → Contains bs b ⊎ (b ≡ g.new) → IsMember n fs b.poly
    member b (inl h) = run.members b h
    member b (inr e) = subst (λ (x : MarkedPolynomial). IsMember n fs x.poly) (sym e) g.member

    marked : (b : MarkedPolynomial) → Contains bs b ⊎ (b ≡ g.new) → IsMarked below b
    marked b (inl h) = run.marked b h
    marked b (inr e) = subst (λ (x : MarkedPolynomial). IsMarked below x) (sym e) g.marked

    graded : (b : MarkedPolynomial) → Contains bs b ⊎ (b ≡ g.new) → IsGradedBy Alike b
    graded b (inl h) = run.graded b h
    graded b (inr e) = subst (λ (x : MarkedPolynomial). IsGradedBy Alike x) (sym e) g.graded

-- where the marks divide all that is listed, what they don't divide is new
pub new_mark : (by : MarkedPolynomial → Type 0) (ts : List Exponents) (x : Exponents) → Each (IsDivisible by) ts →
    (IsDivisible by x → ⊥) → IsNew ts x
new_mark by [] x h n = tt
new_mark by (t ∷ ts) x h n = (at (multiple_or_not t x), new_mark by ts x h.1 n)
  where
    at : ((y : Exponents) × (same x (plus t y) ≡ true)) ⊎ NoMultiple t x → NoMultiple t x
    at (inr m) = m
    at (inl m) = absurd (n (record {
      member = h.0.member;
      contained = h.0.contained;
      rest = plus m.0 h.0.rest;
      divides = same_by_entries x (plus (plus m.0 h.0.rest) h.0.member.head) (λ i. omega (
        arith,
        entries_same x (plus t m.0) m.1 i,
        entry-plus t m.0 i,
        entries_same t (plus h.0.rest h.0.member.head) h.0.divides i,
        entry-plus h.0.rest h.0.member.head i,
        entry-plus (plus m.0 h.0.rest) h.0.member.head i,
        entry-plus m.0 h.0.rest i,
      ));
    }))

-- for each order that suits the generators there is a Gröbner basis
pub basis_exists : (n : ℕ) (fs : List Terms) (below Alike : Exponents → Exponents → Type 0) → AreInVariables n fs →
    IsMonomialOrder below → IsGrading Alike → HasWeightsFor Alike below →
    ((f : Terms) → Contains fs f → (x y : Exponents) → HasMonomial f x → HasMonomial f y → Alike x y) →
    (bs : List MarkedPolynomial) × AreMarked below bs × IsBasis n fs bs
basis_exists n fs below Alike v o gr hw hom = dickson n P step [] [] (record {
  members = λ b h. absurd (omega (arith, h.1));
  marked = λ b h. absurd (omega (arith, h.1));
  graded = λ b h. absurd (omega (arith, h.1));
}) tt
  where
    P : List Exponents → Type 0
    P ts = (bs : List MarkedPolynomial) → IsRun n fs below Alike bs → Each (IsDivisible (Contains bs)) ts →
        (cs : List MarkedPolynomial) × AreMarked below cs × IsBasis n fs cs

    step : (ts : List Exponents) → ((t : Exponents) → IsInRing n t → IsNew ts t → P (t ∷ ts)) → P ts
    step ts next bs run h = at (ended_or_not n fs below Alike bs v o gr hw hom run)
      where
        at : IsBasis n fs bs ⊎ NewMember n fs below Alike bs →
            (cs : List MarkedPolynomial) × AreMarked below cs × IsBasis n fs cs
        at (inl b) = (bs, run.marked, b)
        at (inr g) = next g.new.head (variables_of_member n fs g.new.poly v g.member g.new.head (mark-there below g.new g.marked))
            (new_mark (Contains bs) ts g.new.head h g.undivided) (bs ++ g.new ∷ []) (longer n fs below Alike bs run g) (
              record {
                member = g.new;
                contained = Contains-append_right bs (g.new ∷ []) g.new (Contains-here g.new []);
                rest = [];
                divides = same-refl g.new.head;
              },
              Each-weaker (IsDivisible (Contains bs)) (IsDivisible (Contains (bs ++ g.new ∷ []))) (λ t d. record {
                member = d.member;
                contained = Contains-append_left bs (g.new ∷ []) d.member d.contained;
                rest = d.rest;
                divides = d.divides;
              }) ts h,
            )
