-- Runs and flips of an ideal that one pure difference binomial generates stay within their limits.
-- To cite: plain_difference, runs_within, ruled_within, flip_within, search_within.
use Rattle.std.proofs.Common.{◌≡◌, ◌⊎◌, ℕ, zero, suc, ◌+◌, ◌<◌, ◌≤◌, ◌^◌, Bool, true, false, if◌then◌else◌, List, [], ◌∷◌, length, Contains, Some, ℤ, arith}
use Rattle.std.proofs.Common.{refl, sym, ap, ◌∙◌, subst, inl, inr}
use Rattle.gf_frac.specs.Fraction.{◌*ℚ◌, neg_ℚ, zero_ℚ, one_ℚ}
use Rattle.gf_frac.proofs.FractionLaws.{*ℚ-zero}
use Rattle.gf_exponents_theory.specs.Exponents.{Exponents, entry, same, plus, Divides}
use Rattle.gf_exponents_theory.specs.Orders.{IsFacetBelow, negated_row_of}
use Rattle.gf_exponents_theory.specs.SixOrders.{MonomialOrder, below_of}
use Rattle.gf_exponents_theory.proofs.ExponentsLaws.{same_flip, same_trans, same_by_entries, entries_same, entry-plus, cancel}
use Rattle.gf_poly.specs.Polynomial.{Terms, times}
use Rattle.gf_poly.specs.Marking.{MarkedPolynomial, MarkedPolynomials, polys}
use Rattle.gf_poly.proofs.PolynomialLaws.{coefficient-times}
use Rattle.gf_ideal_theory.specs.Membership.{HasMonomial, IsInVariables, AreInVariables}
use Rattle.gf_ideal_theory.specs.Reduction.{IsMonicForm}
use Rattle.gf_ideal_theory.specs.Bases.{IsBasis, IsReducedBasisFor}
use Rattle.gf_ideal_theory.specs.WorkLists.{IsWorkList, IsRunExponents}
use Rattle.gf_ideal_theory.proofs.Identities.{one_not_zero}
use Rattle.gf_ideal_theory.proofs.StepLaws.{IsWithin, sum_within, monic-monomials}
use Rattle.gf_division.specs.Autoreduction.{AreNeededForms}
use Rattle.gf_buchberger.specs.declared.queue.Strategy.{Strategy}
use Rattle.gf_buchberger.specs.Bases.{AreRunsWithinLimits}
use Rattle.gf_buchberger.specs.Tasks.{HaveRingVariables}
use Rattle.gf_buchberger.specs.Ruled.{AreRuledRunsWithinLimits}
use Rattle.gf_buchberger.proofs.RuledLaws.{ruled_within_limits}
use Rattle.gf_buchberger.specs.Pairs.{pairs_below}
use Rattle.gf_gordan.specs.declared.error.ConeOverflow.{ConeOverflow}
use Rattle.gf_facets_theory.specs.Rows.{negated, IsNormal}
use Rattle.gf_facets_theory.specs.Regions.{Region}
use Rattle.gf_facets_theory.specs.Facets.{IsFlippable}
use Rattle.gf_facets_theory.specs.MarkedBases.{IsBasisInRegion}
use Rattle.gf_initial_theory.specs.Parts.{Matching, IsPartAlong}
use Rattle.gf_initial_theory.specs.Lifts.{IsLift, AreLifts}
use Rattle.gf_initial_theory.proofs.MatchingLaws.{matched-map, matched-from}
use Rattle.gf_initial_theory.proofs.PartLaws.{IsLevelPart, part-there}
use Rattle.gf_initial_theory.proofs.SideLaws.{IsSide, level_of_along}
use Rattle.gf_initial_theory.proofs.FlipLaws.{side_of_inside, along_negated, part_facts}
use Rattle.gf_strands.specs.Along.{AreAlong, IsBasisOfParts}
use Rattle.gf_tree.specs.Operations.{IsFlipExponents, IsFlipWithinLimits}
use Rattle.gf_reverse_theory.specs.Upward.{Fan, IsNodeIn}
use Rattle.gf_tree.specs.Refusals.{IsConeStep, IsTreeWithinLimits}
use Rattle.gf_binomials_theory.specs.Binomials.{IsBinomialOf, IsBinomial, AreBinomials}
use Rattle.gf_binomials_theory.proofs.MonomialLaws.{IsTheMonomial, one_of_two}
use Rattle.gf_binomials_theory.proofs.RunLaws.{run_fits}
use Rattle.gf_binomials_theory.proofs.PrincipalRuns.{AreAmong, reached_within, step_short, tail_within, form-among, work_forms, run_short}
use Rattle.gf_binomials_theory.proofs.PrincipalBases.{alone_in, basis_forms, basis_short, antichain_within, short_within}
use Rattle.gf_binomial_calls_theory.specs.Limits.{IsPlainGenerator}
use Rattle.gf_binomial_calls_theory.proofs.FlipLaws.{flip_fits}
use Rattle.gf_ideal_theory.proofs.SmallBases.{only}

-- ---- generators

is_monomial : (p x : Exponents) → IsTheMonomial (Some p) x → same x p ≡ true
is_monomial p x h = at (same x p) refl
  where
    at : (b : Bool) → same x p ≡ b → same x p ≡ true
    at true s = s
    at false s = absurd (one_not_zero (sym h.one ∙ ap (λ b. if b then one_ℚ else zero_ℚ) s))

-- the difference of two monomials, neither of which divides the other
pub plain_difference : (p q : Exponents) (f : Terms) → IsBinomialOf (Some p) (Some q) f → (Divides p q → ⊥) → (Divides q p → ⊥) →
    ((i : ℕ) → entry p i < 2 ^ 31) → ((i : ℕ) → entry q i < 2 ^ 31) → IsPlainGenerator f
plain_difference p q f d np nq lp lq = record {
  binomial = record { first = Some p; second = Some q; binomial = d };
  antichain = record { apart = λ u x y h k s. apart u x y s (either x h) (either y k) };
  short = λ x h i. short x i (either x h);
}
  where
    either : (x : Exponents) → HasMonomial f x → (same x p ≡ true) ⊎ (same x q ≡ true)
    either x h = elim (one_of_two (Some p) (Some q) f x d h) [ inl k ↦ inl (is_monomial p x k.there) | inr k ↦ inr (is_monomial q x k.there) ]

    short : (x : Exponents) (i : ℕ) → (same x p ≡ true) ⊎ (same x q ≡ true) → entry x i < 2 ^ 31
    short x i (inl s) = omega (arith, entries_same x p s i, lp i)
    short x i (inr s) = omega (arith, entries_same x q s i, lq i)

    alike : (u x y z : Exponents) → same y (plus u x) ≡ true → same x z ≡ true → same y z ≡ true → same u [] ≡ true
    alike u x y z s h k = cancel x u [] (same_trans (plus u x) y x (same_flip y (plus u x) s) (same_trans y z x k (same_flip x z h)))

    multiple : (u x y a b : Exponents) → same y (plus u x) ≡ true → same x a ≡ true → same y b ≡ true → Divides a b
    multiple u x y a b s h k = record {
      rest = u;
      product = same_by_entries b (plus u a) (λ i. omega (
        arith,
        entries_same y (plus u x) s i,
        entries_same x a h i,
        entries_same y b k i,
        entry-plus u x i,
        entry-plus u a i,
      ));
    }

    apart : (u x y : Exponents) → same y (plus u x) ≡ true → (same x p ≡ true) ⊎ (same x q ≡ true) → (same y p ≡ true) ⊎ (same y q ≡ true) → same u [] ≡ true
    apart u x y s (inl h) (inl k) = alike u x y p s h k
    apart u x y s (inr h) (inr k) = alike u x y q s h k
    apart u x y s (inl h) (inr k) = absurd (np (multiple u x y p q s h k))
    apart u x y s (inr h) (inl k) = absurd (nq (multiple u x y q p s h k))

-- ---- runs

no_pairs : (k budget : ℕ) → k ≤ 1 → pairs_below k ≤ budget
no_pairs zero budget l = omega arith
no_pairs (suc zero) budget l = omega arith
no_pairs (suc (suc k)) budget l = absurd (omega arith)

generators : (f : Terms) → IsPlainGenerator f → AreBinomials (f ∷ [])
generators f p g c = subst IsBinomial (only f g c) p.binomial

pub runs_within : (order : MonomialOrder) (f : Terms) (budget : ℕ) → IsPlainGenerator f → AreRunsWithinLimits order (f ∷ []) budget
runs_within order f budget p = record {
  operations = λ op left right o. run_fits (f ∷ []) (below_of order) op left right (generators f p) o;
  exponents = λ left right o. run_short order f left right p.antichain p.short o;
  pairs = λ bs w. no_pairs (length bs) budget (work_forms order f bs p.antichain w).1;
}

pub ruled_within : (strategy : Strategy) (order : MonomialOrder) (n : ℕ) (f : Terms) (budget : ℕ) → HaveRingVariables n (f ∷ []) → IsPlainGenerator f →
    AreRuledRunsWithinLimits strategy order (f ∷ []) budget
ruled_within strategy order n f budget v p = ruled_within_limits strategy order n (f ∷ []) budget v (runs_within order f budget p)

-- ---- flips

-- there is one part, and it has no monomials but those of f
pub record IsOnePart (f : Terms) (ps : List MarkedPolynomial) : Type 0 where
  pub part : MarkedPolynomial
  pub alone : ps ≡ part ∷ []
  pub within : IsWithin (HasMonomial f) part.poly

one_part : (f : Terms) (u a : List ℤ) (bs ps : List MarkedPolynomial) → AreAmong f bs → length bs ≤ 1 → IsNormal bs a → Matching (IsLevelPart u) bs ps →
    IsOnePart f ps
one_part f u a [] ps m l k h = absurd (omega (arith, k.1.1))
one_part f u a (b ∷ []) [] m l k h = elim h [ ]
one_part f u a (b ∷ []) (p ∷ []) m l k h = record { part = p; alone = refl; within = λ x n. (m b (0, omega arith, refl)).within x (part-there u b p x h.0 n).1 }
one_part f u a (b ∷ []) (p ∷ q ∷ ps) m l k h = elim h.1 [ ]
one_part f u a (b ∷ c ∷ bs) ps m l k h = absurd (omega arith)

pub flip_within : (n : ℕ) (f : Terms) (k : Region) (bs : List MarkedPolynomial) (a : List ℤ) (budget : ℕ) → IsInVariables n f → IsPlainGenerator f →
    IsBasisInRegion n (f ∷ []) k bs → IsFlippable n k bs a → IsFlipWithinLimits n bs a budget
flip_within n f k bs a budget v g b q = record {
  operations = λ op left right o. flip_fits n (f ∷ []) k bs a op left right vars (generators f g) b q o;
  exponents = exponents;
  pairs = λ fs cs h w.
      let o = one h in
      no_pairs (length cs) budget (work_forms facet o.part.poly cs (antichain_within f o.part.poly o.within g.antichain)
      (subst (λ (z : List Terms). IsWorkList z (IsFacetBelow (negated_row_of a)) cs) (h.polynomials ∙ ap polys o.alone) w)).1;
}
  where
    facet : MonomialOrder
    facet = MonomialOrder.facet (negated_row_of a)

    u : List ℤ
    u = q.point

    vars : AreInVariables n (f ∷ [])
    vars = alone_in n f v

    side : IsSide n (f ∷ []) u (negated a) bs
    side = side_of_inside n (f ∷ []) k bs a u b q.inside

    among : AreAmong f bs
    among d c = form-among f d (basis_forms n f bs v b.reduced.basis b.reduced.tails b.reduced.heads d c)

    one : {fs : List Terms} → (h : AreAlong a bs fs) → IsOnePart f h.parts
    one h = one_part f u a bs h.parts among (basis_short n f bs v b.reduced.basis b.reduced.tails b.reduced.heads) q.inside.normal
        (matched-map (IsPartAlong a) (IsLevelPart u) bs h.parts (λ d p c i. level_of_along u (negated a) d p side.nonzero side.zero (side.marked d c)
        (along_negated a d p i)) h.each)

    -- the basis of the part
    hs_within : (hs : List MarkedPolynomial) → IsBasisOfParts n bs a hs → (h : MarkedPolynomial) → Contains hs h → IsWithin (HasMonomial f) h.poly
    hs_within hs p h c = λ x m. o.within x (monic-monomials o.part.poly h form x m)
      where
        o : IsOnePart f p.along.parts
        o = one p.along

        basis : IsBasis n (polys p.along.parts) hs
        basis = (part_facts n (f ∷ []) k bs p.along.parts hs a u vars b q.region q.inside p.along.each
            (subst (λ (z : List Terms). IsReducedBasisFor n z (IsFacetBelow (negated_row_of a)) hs) p.along.polynomials p.reduced)).basis

        form : IsMonicForm o.part.poly h
        form = basis_forms n o.part.poly hs (λ x m. v x (o.within x m)) (subst (λ (z : List MarkedPolynomial). IsBasis n (polys z) hs) o.alone basis)
            p.reduced.tails p.reduced.heads h c

    -- the lifts
    lifts_within : (hs ls : List MarkedPolynomial) → IsBasisOfParts n bs a hs → AreLifts bs hs ls → (l : MarkedPolynomial) → Contains ls l →
        IsWithin (HasMonomial f) l.poly
    lifts_within hs ls p m l c = at (matched-from (IsLift bs) hs ls m l c)
      where
        at : ((h : MarkedPolynomial) × Contains hs h × IsLift bs h l) → IsWithin (HasMonomial f) l.poly
        at h = sum_within (HasMonomial f) h.0.poly (times (neg_ℚ one_ℚ) [] h.2.remainder) l.poly inside
            (λ x t. reached_within f bs h.0.poly h.2.remainder g.antichain among inside h.2.reached x
            (λ z. t (coefficient-times (neg_ℚ one_ℚ) [] h.2.remainder x ∙ ap (λ y. neg_ℚ one_ℚ *ℚ y) z ∙ *ℚ-zero (neg_ℚ one_ℚ))))
            h.2.poly
          where
            inside : IsWithin (HasMonomial f) h.0.poly
            inside = hs_within hs p h.0 h.1

    -- their monic forms
    forms_among : (hs ls ks : List MarkedPolynomial) → IsBasisOfParts n bs a hs → AreLifts bs hs ls → AreNeededForms ls ks → AreAmong f ks
    forms_among hs ls ks p l m d c =
        let e = m.inside d c in
        let w = lifts_within hs ls p l e.member (e.index, e.needed.at.within, e.needed.at.is) in
        record { head = w d.head e.form.form.there; within = λ x t. w x (monic-monomials e.member.poly d e.form.form x t) }

    exponents : (left right : ℕ) → IsFlipExponents n bs a left right → left + right < 2 ^ 31
    exponents left right (IsFlipExponents.parts fs h r) =
        let o = one h in
        run_short facet o.part.poly left right (antichain_within f o.part.poly o.within g.antichain) (short_within f o.part.poly o.within g.short)
        (subst (λ (z : List Terms). IsRunExponents z (IsFacetBelow (negated_row_of a)) left right) (h.polynomials ∙ ap polys o.alone) r)
    exponents left right (IsFlipExponents.lift hs p r) =
        step_short f bs r.sum.from r.sum.at left right g.antichain g.short among
        (reached_within f bs r.member.poly r.sum.from g.antichain among (hs_within hs p r.member r.contained) r.sum.reached) r.sum.sum
    exponents left right (IsFlipExponents.tail hs ls ks p l m r) =
        let i = forms_among hs ls ks p l m in step_short f ks r.from.poly r.at left right g.antichain g.short i (tail_within f ks r.from g.antichain i r.tail)
        r.sum

-- ---- searches

pub search_within : (F : Fan) (f : Terms) (pairs : ℕ) → F.ideal ≡ f ∷ [] → IsPlainGenerator f →
    ((v : MarkedPolynomials) (s : ConeOverflow) → IsNodeIn F v → IsConeStep F v s → ⊥) → IsTreeWithinLimits F pairs
search_within F f pairs e g steps = record {
  flips = λ v a node q. flip_within v.variables f F.region v.items a pairs
      (subst (λ (z : List Terms). AreInVariables v.variables z) e (subst (λ (n : ℕ). AreInVariables n F.ideal) (sym node.variables) node.fan.ideal) f
      (0, omega arith, refl)) g
      (subst (λ (z : List Terms). IsBasisInRegion v.variables z F.region v.items) e (subst (λ (n : ℕ). IsBasisInRegion n F.ideal F.region v.items)
      (sym node.variables) node.basis)) q;
  systems = steps;
}
