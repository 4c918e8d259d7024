-- From one basis to the next, and where a walk ends.
-- To cite: crossing_towards, walked_none, walked_more, walk_ends, some_walked, by_degree, start_basis, some_arrived.
use Rattle.std.proofs.Common.{◌≡◌, ℕ, List, ℤ, Option, Some, None, IfSome, refl, ◌∙◌, subst, inl, inr}
use Rattle.gf_exponents_theory.specs.Orders.{gains, IsWeightedBelow}
use Rattle.gf_exponents_theory.specs.SixOrders.{MonomialOrder, below_of}
use Rattle.gf_poly.specs.Polynomial.{Terms}
use Rattle.gf_poly.specs.Marking.{MarkedPolynomial, MarkedPolynomials}
use Rattle.gf_ideal_theory.specs.Membership.{AreInVariables}
use Rattle.gf_ideal_theory.specs.Bases.{IsReducedBasisFor}
use Rattle.gf_ideal_theory.proofs.MembershipLaws.{member-generator}
use Rattle.gf_buchberger.specs.Bases.{IsArrangedBasis}
use Rattle.gf_buchberger.specs.Tasks.{HaveRingVariables}
use Rattle.gf_buchberger.proofs.BasesOfRuns.{generated, canonical_variables}
use Rattle.gf_facets_theory.specs.Regions.{all_positive}
use Rattle.gf_facets_theory.specs.MarkedBases.{IsBasisInRegion}
use Rattle.gf_facets_theory.proofs.SystemLaws.{all_positive-region}
use Rattle.gf_tree.specs.Crossings.{IsCrossing}
use Rattle.gf_tree.specs.Reached.{IsReachedByFlips}
use Rattle.gf_tree.proofs.ReachedLaws.{reached_first, reached_crossing, reached_next}
use Rattle.gf_reverse_theory.specs.Upward.{LeadsTowards}
use Rattle.gf_reverse_theory.proofs.LawsHold.{root_has_no_way_up}
use Rattle.gf_groebner_walk.specs.Weights.{IsWeightBeforeLex}
use Rattle.gf_groebner_walk.specs.Steps.{IsSomeBasis, IsAcrossTowards, IsConversionStep, IsWalkedFrom, IsWalkEnd}
use Rattle.gf_groebner_walk.specs.declared.steps.Step.{Step}
use Rattle.gf_groebner_walk.specs.declared.steps.Step.TheVariants.{Arrived, Across}

-- ---- steps

pub crossing_towards : (s : MarkedPolynomials) (r a : List ℤ) → IsSomeBasis s → LeadsTowards s.variables (all_positive s.variables) r s.items a →
    IsCrossing s.variables s.items a
crossing_towards s r a b u = reached_crossing b.0 s a b.1 u.flippable

pub walked_none : (s : MarkedPolynomials) → IsWalkedFrom s s
walked_none s = record { variables = refl; bases = λ fs b. b }

pub walked_more : (r : List ℤ) (s t u : MarkedPolynomials) (x : Step) → IsWalkedFrom s t → IsConversionStep r t x → x ≡ Across u → IsWalkedFrom s u
walked_more r s t u x w told e = (let h : IsAcrossTowards r t u = subst (IsConversionStep r t) e told in record {
  variables = h.variables ∙ w.variables;
  bases = λ fs b. reached_next fs t u h.normal (w.bases fs b) h.leads.flippable h.neighbour h.variables;
})

pub walk_ends : (r : List ℤ) (s t : MarkedPolynomials) (x : Step) → IsWalkedFrom s t → IsConversionStep r t x → x ≡ Arrived → IsWalkEnd r s t
walk_ends r s t x w told e = record { walked = w; arrived = subst (IsConversionStep r t) e told }

pub some_walked : (s t : MarkedPolynomials) → IsSomeBasis s → IsWalkedFrom s t → IsSomeBasis t
some_walked s t b w = (b.0, w.bases b.0 b.1)

pub by_degree : (o : MonomialOrder) (n : ℕ) (fs : List Terms) (s : MarkedPolynomials) → o ≡ MonomialOrder.deglex → IsArrangedBasis o n fs s →
    IsArrangedBasis MonomialOrder.deglex n fs s
by_degree o n fs s e b = subst (λ (z : MonomialOrder). IsArrangedBasis z n fs s) e b

pub start_basis : (n : ℕ) (fs : List Terms) (s : MarkedPolynomials) → HaveRingVariables n fs → IsArrangedBasis MonomialOrder.deglex n fs s → IsSomeBasis s
start_basis n fs s v b = (fs, reached_first n fs s v b)

-- ---- the end

-- the reduced basis by a weight and then lex is that for the order
by_order : (order : MonomialOrder) (n : ℕ) (fs : List Terms) (r : List ℤ) (bs : List MarkedPolynomial) → IsWeightBeforeLex order n r →
    IsReducedBasisFor n fs (IsWeightedBelow (gains r)) bs → IsReducedBasisFor n fs (below_of order) bs
by_order order n fs r bs w h = record {
  basis = record {
    members = h.basis.members;
    marked = λ b c. record {
      monic = (h.basis.marked b c).monic;
      tail = λ x m. elim ((h.basis.marked b c).tail x m) [ inl e ↦ inl e | inr l ↦ inr ((w.compares x b.head).1 l) ];
    };
    initial = λ f m x g. h.basis.initial f m x (record {
      there = g.there;
      greatest = λ y k. elim (g.greatest y k) [ inl e ↦ inl e | inr l ↦ inr ((w.compares y x).0 l) ];
    });
  };
  tails = h.tails;
  heads = h.heads;
}

-- a walk from the basis by degree ends at the basis for the order of its weight
arrived_basis : (order : MonomialOrder) (n : ℕ) (fs : List Terms) (r : List ℤ) (s t : MarkedPolynomials) → HaveRingVariables n fs →
    IsWeightBeforeLex order n r → IsArrangedBasis MonomialOrder.deglex n fs s → IsWalkEnd r s t → IsArrangedBasis order n fs t
arrived_basis order n fs r s t v w b h = record {
  variables = wide;
  reduced = reduced;
  arranged = basis.arranged;
  marked = reduced.basis.marked;
  inside = reduced.basis.members;
  back = λ f c. generated n fs t.items f generators (canonical_variables n t.items basis.arranged.canonical) basis.reduced.basis (member-generator n fs f c);
}
  where
    wide : t.variables ≡ n
    wide = h.walked.variables ∙ b.variables

    reached : IsReachedByFlips fs t
    reached = h.walked.bases fs (reached_first n fs s v b)

    generators : AreInVariables n fs
    generators = subst (λ (m : ℕ). AreInVariables m fs) wide reached.generators

    basis : IsBasisInRegion n fs (all_positive n) t.items
    basis = subst (λ (m : ℕ). IsBasisInRegion m fs (all_positive m) t.items) wide reached.basis

    arrived : (a : List ℤ) → LeadsTowards n (all_positive n) r t.items a → ⊥
    arrived = subst (λ (m : ℕ). (a : List ℤ) → LeadsTowards m (all_positive m) r t.items a → ⊥) wide h.arrived

    reduced : IsReducedBasisFor n fs (below_of order) t.items
    reduced = by_order order n fs r t.items w
        ((root_has_no_way_up.exactly n fs (all_positive n) r t.items generators (all_positive-region n).widths
        (root_has_no_way_up.everywhere n r w.width w.natural) basis).0 arrived)

pub some_arrived : (order : MonomialOrder) (n : ℕ) (fs : List Terms) (r : List ℤ) (s : MarkedPolynomials) (o : Option MarkedPolynomials) →
    HaveRingVariables n fs → IsWeightBeforeLex order n r → IsArrangedBasis MonomialOrder.deglex n fs s → IfSome o (IsWalkEnd r s) →
    IfSome o (IsArrangedBasis order n fs)
some_arrived order n fs r s (Some t) v w b h = arrived_basis order n fs r s t v w b h
some_arrived order n fs r s None v w b h = tt
