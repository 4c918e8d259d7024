-- The members of reduced Gröbner bases of ideals that linear polynomials generate are linear, and so are their flips within limits.
-- To cite: ones_positive, linear_members, region_members, flips_of_linear_fit. The rest are steps.
use Rattle.std.proofs.Common.{
  ◌≡◌,
  ◌⊎◌,
  ℕ,
  zero,
  suc,
  ◌+◌,
  ◌<◌,
  ◌≤◌,
  ◌^◌,
  true,
  false,
  List,
  [],
  ◌∷◌,
  length,
  replicate,
  Contains,
  ℤ,
  arith,
  sym,
  ap,
  ◌∙◌,
  subst,
  inl,
  inr,
}
use Rattle.gf_frac.specs.Fraction.{◌*ℚ◌, neg_ℚ, one_ℚ}
use Rattle.gf_frac.proofs.FractionLaws.{*ℚ-zero}
use Rattle.gf_int_theory.proofs.ListLaws.{Contains-here}
use Rattle.gf_exponents_theory.specs.Exponents.{Exponents, same, plus, degree, NoMultiple}
use Rattle.gf_exponents_theory.specs.Orders.{gains, IsFacetBelow, negated_row_of}
use Rattle.gf_exponents_theory.proofs.ExponentsLaws.{same_trans, same_flip, same_by_entries, entry-plus}
use Rattle.gf_exponents_theory.proofs.WeightLaws.{degree-plus, degree-same}
use Rattle.gf_poly.specs.Polynomial.{Terms, times}
use Rattle.gf_poly.specs.Marking.{MarkedPolynomial, polys}
use Rattle.gf_poly.proofs.PolynomialLaws.{coefficient-times}
use Rattle.gf_ideal_theory.specs.Membership.{HasMonomial, IsInVariables, AreInVariables, IsMember, Spans}
use Rattle.gf_ideal_theory.specs.Marks.{IsPositive, AreMarked, Piece, value}
use Rattle.gf_ideal_theory.specs.MonomialOrders.{MonomialOrder, below_of, IsAdmissible, IsOfGrade}
use Rattle.gf_ideal_theory.specs.Bases.{IsBasis, IsReducedBasisFor, HasReducedTails, AreApart}
use Rattle.gf_ideal_theory.specs.Settled.{IsAt}
use Rattle.gf_ideal_theory.proofs.ListLaws.{Each-weaker, each_contained, contained_each, Contains-there}
use Rattle.gf_ideal_theory.proofs.TermLaws.{found}
use Rattle.gf_ideal_theory.proofs.MarkWeights.{mark-there}
use Rattle.gf_ideal_theory.proofs.OrderWeights.{grading}
use Rattle.gf_ideal_theory.proofs.SpanLaws.{Spans-equal, Spans-generator}
use Rattle.gf_ideal_theory.proofs.MembershipLaws.{member-generator, member-trans, spans_of_member, member_of_spans, variables_of_member}
use Rattle.gf_ideal_theory.proofs.PieceLaws.{Contains-marked, Contains-polys, spans_value}
use Rattle.gf_ideal_theory.proofs.BasisLaws.{member_pieces}
use Rattle.gf_ideal_theory.proofs.StepLaws.{IsClosed, IsPieceIn, sum_within, taken, monic-monomials}
use Rattle.gf_ideal_theory.proofs.UniquenessLaws.{apart_same}
use Rattle.gf_bases_theory.proofs.GradedBasisLaws.{basis-graded}
use Rattle.gf_division.specs.Autoreduction.{AreNeededForms}
use Rattle.gf_buchberger.specs.Pairs.{pairs_below}
use Rattle.gf_facets_theory.specs.Rows.{negated}
use Rattle.gf_facets_theory.specs.Regions.{Region}
use Rattle.gf_facets_theory.specs.Facets.{IsFlippable}
use Rattle.gf_facets_theory.specs.MarkedBases.{IsBasisInRegion}
use Rattle.gf_initial_theory.specs.Parts.{IsPartAlong}
use Rattle.gf_initial_theory.specs.Lifts.{IsLift, AreLifts}
use Rattle.gf_initial_theory.proofs.MatchingLaws.{matched-from}
use Rattle.gf_initial_theory.proofs.PartLaws.{part-there}
use Rattle.gf_initial_theory.proofs.SideLaws.{IsSide, level_of_along}
use Rattle.gf_initial_theory.proofs.FlipLaws.{side_of_inside, along_negated, part_facts}
use Rattle.gf_strands.specs.Along.{AreAlong, IsBasisOfParts}
use Rattle.gf_flip.specs.Operations.{IsFlipExponents, IsFlipWithinLimits}
use Rattle.gf_binomial_calls_theory.proofs.FlipLaws.{flip_fits}
use Rattle.gfan_theory.specs.Linear.{IsLinear, AreLinearForms, AreLinearDifferences}
use Rattle.gfan_theory.proofs.LinearRuns.{
  same_or_not,
  weight_ones,
  homogeneous,
  IsOfDegree,
  AreLinearMembers,
  plain,
  closed-degree,
  step_short,
  tail_linear,
  linear_basis,
  few,
  run_short,
  pairs_mono,
}

-- ---- the grade of all ones

pub ones_positive : (n : ℕ) → IsPositive n (replicate n 1)
ones_positive zero i l = absurd (omega (arith, l))
ones_positive (suc n) zero l = omega arith
ones_positive (suc n) (suc i) l = ones_positive n i (omega (arith, l))

-- ---- marks apart

not_twice : (x y : Exponents) → NoMultiple x y → same y x ≡ true → ⊥
not_twice x y n s =
    let t : same x (plus x []) ≡ true = same_by_entries x (plus x []) (λ i. let p = entry-plus x [] i in omega (arith, p)) in
    let u : same y (plus x []) ≡ true = same_trans y x (plus x []) s t in
    let v : true ≡ false = sym u ∙ n [] in
    absurd (cc)

-- no two indices of a list whose marks are apart have one mark
apart_at : (bs : List MarkedPolynomial) → AreApart bs → (i j : ℕ) (b c : MarkedPolynomial) → i < j → IsAt bs i b → IsAt bs j c → same b.head c.head ≡ true → ⊥
apart_at [] a i j b c l p q s = absurd (let k = p.within in omega (arith, k))
apart_at (d ∷ bs) a i zero b c l p q s = absurd (omega (arith, l))
apart_at (d ∷ bs) a zero (suc j) b c l p q s =
    let first : d ≡ b = p.is in
    let k : j < length bs = (let m = q.within in omega (arith, m)) in
    let other : NoMultiple d.head c.head = (contained_each (λ (x : MarkedPolynomial). NoMultiple d.head x.head × NoMultiple x.head d.head) bs a.0 c
    (j, k, q.is)).0 in
    not_twice b.head c.head (subst (λ (x : MarkedPolynomial). NoMultiple x.head c.head) first other) (same_flip b.head c.head s)
apart_at (d ∷ bs) a (suc i) (suc j) b c l p q s =
    apart_at bs a.1 i j b c (omega (arith, l)) (record { within = (let m = p.within in omega (arith, m)); is = p.is })
    (record { within = (let m = q.within in omega (arith, m)); is = q.is }) s

-- ---- the members whose marks are variables

record IsLinearPart (bs ls : List MarkedPolynomial) : Type 0 where
  pub from : (b : MarkedPolynomial) → Contains ls b → Contains bs b × (degree b.head ≡ 1)
  pub to : (b : MarkedPolynomial) → Contains bs b → degree b.head ≡ 1 → Contains ls b
  pub apart : AreApart ls

cons_cases : (b c : MarkedPolynomial) (bs : List MarkedPolynomial) → Contains (b ∷ bs) c → (c ≡ b) ⊎ Contains bs c
cons_cases b c bs (zero, l, e) = inl (sym e)
cons_cases b c bs (suc i, l, e) = inr (i, omega (arith, l), e)

linear_part : (bs : List MarkedPolynomial) → AreApart bs → (ls : List MarkedPolynomial) × IsLinearPart bs ls
linear_part [] a = ([], record { from = λ b c. absurd (omega (arith, c.1)); to = λ b c e. absurd (omega (arith, c.1)); apart = tt })
linear_part (b ∷ bs) a =
    let r = linear_part bs a.1 in
    elim (same_or_not (degree b.head) 1) [
      | inl e ↦ (
        b ∷ r.0,
        record {
          from = λ c k. elim (cons_cases b c r.0 k) [
            | inl q ↦ (subst (Contains (b ∷ bs)) (sym q) (Contains-here b bs), ap (λ (z : MarkedPolynomial). degree z.head) q ∙ e)
            | inr q ↦ let t = r.1.from c q in (Contains-there b c bs t.0, t.1)
          ];
          to = λ c k f. elim (cons_cases b c bs k) [
            | inl q ↦ subst (Contains (b ∷ r.0)) (sym q) (Contains-here b r.0)
            | inr q ↦
                Contains-there b c r.0 (r.1.to c q f)
          ];
          apart = (
            each_contained (λ (x : MarkedPolynomial). NoMultiple b.head x.head × NoMultiple x.head b.head) r.0
                (λ x k. contained_each (λ (y : MarkedPolynomial). NoMultiple b.head y.head × NoMultiple y.head b.head) bs a.0 x (r.1.from x k).0),
            r.1.apart,
          );
        },
      )
      | inr n ↦ (
        r.0,
        record {
          from = λ c k. let t = r.1.from c k in (Contains-there b c bs t.0, t.1);
          to = λ c k f. elim (cons_cases b c bs k) [ inl q ↦ absurd (n (ap (λ (z : MarkedPolynomial). degree z.head) (sym q) ∙ f)) | inr q ↦ r.1.to c q f ];
          apart = r.1.apart;
        },
      )
    ]

-- ---- the ideal has no constants

spans_positive : (fs : List Terms) → ((f : Terms) → Contains fs f → IsLinear f) → (f : Terms) → Spans fs f → (x : Exponents) → HasMonomial f x → 1 ≤ degree x
spans_positive fs l f (Spans.none g e) x n = absurd (n (e x))
spans_positive fs l f (Spans.more c u p h g k s e) x n =
    sum_within (λ (y : Exponents). 1 ≤ degree y) (times c u p) g f
    (λ y m.
    let r = found c u p y m in
    let q = degree-same y (plus u r.0) r.2 in
    let t = degree-plus u r.0 in
    let one = l p k r.0 r.1 in
    omega (arith, q, t, one))
    (λ y m. spans_positive fs l g s y m) e x n

-- ---- a basis with reduced tails, by an order that is good on homogeneous polynomials

module _ (order : MonomialOrder) (n : ℕ) (fs : List Terms) (a : IsAdmissible order n (replicate n 1)) (d : AreLinearForms n fs) (bs : List MarkedPolynomial)
    (basis : IsBasis n fs bs) (marked : AreMarked (below_of order) bs)
    (tails : HasReducedTails bs) (heads : AreApart bs) where
  vars : (b : MarkedPolynomial) → Contains bs b → IsInVariables n b.poly
  vars b c = variables_of_member n fs b.poly d.variables (basis.members b c)

  there : (b : MarkedPolynomial) → Contains bs b → HasMonomial b.poly b.head
  there b c = mark-there (below_of order) b (marked b c)

  -- all monomials of a member have the degree of its mark
  alike : (b : MarkedPolynomial) → Contains bs b → (x : Exponents) → HasMonomial b.poly x → degree x ≡ degree b.head
  alike b c x m =
      let g = basis-graded n fs (IsOfGrade n (replicate n 1)) bs b (grading n (replicate n 1)) d.variables
      (λ f k. homogeneous n f (d.variables f k) (d.linear f k)) basis.members basis.decides tails c x m in
      sym (weight_ones n x (vars b c x m)) ∙ g.0 ∙ weight_ones n b.head (vars b c b.head (there b c))

  closed : (e : ℕ) → IsClosed (Contains bs) (IsOfDegree e)
  closed e = record {
    along = λ x y s h. sym (degree-same x y s) ∙ h;
    lower = λ b c u t m h.
        let p = degree-plus u t in
        let q = degree-plus u b.head in
        let r = alike b c t m in
        omega (arith, p, q, r, h);
  }

  positive : (b : MarkedPolynomial) → Contains bs b → 1 ≤ degree b.head
  positive b c = spans_positive fs d.linear b.poly (spans_of_member n fs b.poly (basis.members b c)) b.head (there b c)

  part : (ls : List MarkedPolynomial) × IsLinearPart bs ls
  part = linear_part bs heads

  part_linear : AreLinearMembers part.0
  part_linear = record {
    heads = λ b c. (part.1.from b c).1;
    within = λ b c x m. alike b (part.1.from b c).0 x m ∙ (part.1.from b c).1;
    apart = apart_at part.0 part.1.apart;
  }

  part_vars : AreInVariables n (polys part.0)
  part_vars f c = let m = Contains-marked part.0 f c in subst (IsInVariables n) m.2 (vars m.0 (part.1.from m.0 m.1).0)

  -- the linear members generate the ideal
  generated : (f : Terms) → Contains fs f → IsMember n (polys part.0) f
  generated f c =
      let p = member_pieces n fs bs (IsOfDegree 1) f d.variables basis (closed 1) (member-generator n fs f c) (d.linear f c) in
      member_of_spans n (polys part.0) f part_vars (d.variables f c)
      (Spans-equal (polys part.0) (value p.0) f (λ e. sym (p.2 e))
      (spans_value (polys part.0) (Contains part.0) (λ b k. Spans-generator (polys part.0) b.poly (Contains-polys part.0 b k)) p.0
      (Each-weaker (IsPieceIn (Contains bs) (IsOfDegree 1)) (λ (q : Piece). Contains part.0 q.of) (λ q k.
      let s : degree (plus q.shift q.of.head) ≡ 1 = k.inside in
      let t = degree-plus q.shift q.of.head in
      let u = positive q.of k.member in
      part.1.to q.of k.member (omega (arith, s, t, u))) p.0 p.1)))

  linear_head : (b : MarkedPolynomial) → Contains bs b → degree b.head ≡ 1
  linear_head b c =
      let m = member-trans n (polys part.0) fs b.poly part_vars generated (basis.members b c) in
      let g = linear_basis order n part.0 a part_linear part_vars (λ l k. marked l (part.1.from l k).0) in
      let v = g.initial b.poly m b.head (record { there = there b c; greatest = λ y t. (marked b c).tail y t }) in
      let t = part.1.from v.member v.contained in
      let same_member : v.member ≡ b = apart_same bs v.member b heads t.0 c v.rest v.divides in
      ap (λ (z : MarkedPolynomial). degree z.head) (sym same_member) ∙ t.1

  pub linear_members : AreLinearMembers bs
  linear_members = record {
    heads = linear_head;
    within = λ b c x m. alike b c x m ∙ linear_head b c;
    apart = apart_at bs heads;
  }

-- ---- in a region

pub region_members : (n : ℕ) (fs : List Terms) (k : Region) (bs : List MarkedPolynomial) → AreLinearForms n fs → IsBasisInRegion n fs k bs → AreLinearMembers bs
region_members n fs k bs d b = linear_members (MonomialOrder.weighted (gains b.weight)) n fs tt d bs b.reduced.basis
    (λ c i. record { monic = (b.marked c i).monic; tail = λ x m. elim ((b.marked c i).tail x m) [ inl e ↦ inl e | inr l ↦ inr (inl l) ] }) b.reduced.tails
    b.reduced.heads

-- ---- flips

module _ (n : ℕ) (fs : List Terms) (k : Region) (bs : List MarkedPolynomial) (a : List ℤ) (d : AreLinearDifferences n fs) (b : IsBasisInRegion n fs k bs)
    (q : IsFlippable n k bs a) where
  facet : MonomialOrder
  facet = MonomialOrder.facet (negated_row_of a)

  members : AreLinearMembers bs
  members = region_members n fs k bs d.forms b

  side : IsSide n fs q.point (negated a) bs
  side = side_of_inside n fs k bs a q.point b q.inside

  -- the parts are linear
  parts_linear : (gs : List Terms) → AreAlong a bs gs → AreLinearForms n gs
  parts_linear gs h = subst (AreLinearForms n) (sym h.polynomials) (record { variables = variables; linear = linear })
    where
      from : (f : Terms) → Contains (polys h.parts) f → (x : Exponents) → HasMonomial f x → (c : MarkedPolynomial) × Contains bs c × HasMonomial c.poly x
      from f i x m =
          let p = Contains-marked h.parts f i in
          let c = matched-from (IsPartAlong a) bs h.parts h.each p.0 p.1 in (
            c.0,
            c.1,
            (part-there q.point c.0 p.0 x (level_of_along q.point (negated a) c.0 p.0 side.nonzero side.zero (side.marked c.0 c.1)
                (along_negated a c.0 p.0 c.2))
                (subst (λ (z : Terms). HasMonomial z x) (sym p.2) m)).1,
          )

      variables : AreInVariables n (polys h.parts)
      variables f i x m = let c = from f i x m in variables_of_member n fs c.0.poly d.forms.variables (b.reduced.basis.members c.0 c.1) x c.2

      linear : (f : Terms) → Contains (polys h.parts) f → IsLinear f
      linear f i x m = let c = from f i x m in members.within c.0 c.1 x c.2

  admissible : IsAdmissible (MonomialOrder.facet (negated_row_of a)) n (replicate n 1)
  admissible = inl (ones_positive n)

  -- so are the members of the basis of the parts
  parts_members : (hs : List MarkedPolynomial) → IsBasisOfParts n bs a hs → AreLinearMembers hs
  parts_members hs p =
      linear_members (MonomialOrder.facet (negated_row_of a)) n (polys p.along.parts) admissible
      (subst (AreLinearForms n) p.along.polynomials (parts_linear p.generators p.along)) hs
      (part_facts n fs k bs p.along.parts hs a q.point d.forms.variables b q.region q.inside p.along.each
      (subst (λ (z : List Terms). IsReducedBasisFor n z (IsFacetBelow (negated_row_of a)) hs) p.along.polynomials p.reduced)).basis
      p.reduced.basis.marked p.reduced.tails p.reduced.heads

  -- the lifts
  lifts_linear : (hs ls : List MarkedPolynomial) → IsBasisOfParts n bs a hs → AreLifts bs hs ls → (l : MarkedPolynomial) → Contains ls l → IsLinear l.poly
  lifts_linear hs ls p m l c = at (matched-from (IsLift bs) hs ls m l c)
    where
      at : ((h : MarkedPolynomial) × Contains hs h × IsLift bs h l) → IsLinear l.poly
      at h = sum_within (IsOfDegree 1) h.0.poly (times (neg_ℚ one_ℚ) [] h.2.remainder) l.poly inside
          (λ x t. (taken (Contains bs) (IsOfDegree 1) h.0.poly h.2.remainder (closed-degree 1 bs (plain bs members)) inside h.2.reached).within x
          (λ z. t (coefficient-times (neg_ℚ one_ℚ) [] h.2.remainder x ∙ ap (λ y. neg_ℚ one_ℚ *ℚ y) z ∙ *ℚ-zero (neg_ℚ one_ℚ))))
          h.2.poly
        where
          inside : IsLinear h.0.poly
          inside = (parts_members hs p).within h.0 h.1

  -- their monic forms
  forms_members : (hs ls ks : List MarkedPolynomial) → IsBasisOfParts n bs a hs → AreLifts bs hs ls → AreNeededForms ls ks → AreLinearMembers ks
  forms_members hs ls ks p l m = record {
    heads = λ c i. let e = m.inside c i in lifts_linear hs ls p l e.member (e.index, e.needed.at.within, e.needed.at.is) c.head e.form.form.there;
    within = λ c i x t. let e = m.inside c i in
        lifts_linear hs ls p l e.member (e.index, e.needed.at.within, e.needed.at.is) x (monic-monomials e.member.poly c e.form.form x t);
    apart = apart_at ks m.apart;
  }

  exponents : (left right : ℕ) → IsFlipExponents n bs a left right → left + right < 2 ^ 31
  exponents left right (IsFlipExponents.parts gs h r) = run_short (MonomialOrder.facet (negated_row_of a)) n gs admissible (parts_linear gs h) left right r
  exponents left right (IsFlipExponents.lift hs p r) =
      step_short bs 1 r.sum.from r.sum.at left right (plain bs members) (omega arith)
      (taken (Contains bs) (IsOfDegree 1) r.member.poly r.sum.from (closed-degree 1 bs (plain bs members)) ((parts_members hs p).within r.member r.contained)
      r.sum.reached).within r.sum.sum
  exponents left right (IsFlipExponents.tail hs ls ks p l m r) =
      let i = plain ks (forms_members hs ls ks p l m) in step_short ks 1 r.from.poly r.at left right i (omega arith) (tail_linear ks r.from i r.tail) r.sum

  pub flips_of_linear_fit : (budget : ℕ) → pairs_below n ≤ budget → IsFlipWithinLimits n bs a budget
  flips_of_linear_fit budget room = record {
    operations = λ op left right o. flip_fits n fs k bs a op left right d.forms.variables d.binomials b q o;
    exponents = exponents;
    pairs = λ gs cs h w. let p = pairs_mono (length cs) n (few (MonomialOrder.facet (negated_row_of a)) n gs admissible (parts_linear gs h) cs w) in
        omega (arith, p, room);
  }
