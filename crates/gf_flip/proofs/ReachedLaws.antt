-- Bases that a walk reaches: the first by degree, then lex; and those across facets that a flip may cross.
-- To cite: reached_first, told_flippable, reached_crossing, reached_next.
use Rattle.std.proofs.Common.{◌≡◌, ℕ, ◌<◌, Bool, true, List, [], length, get_or, ℤ, refl, sym, ap, ◌∙◌, subst}
use Rattle.std.proofs.lemmas.List.{get_or_default}
use Rattle.gf_exponents_theory.specs.SixOrders.{MonomialOrder, below_of}
use Rattle.gf_exponents_theory.proofs.SixOrdersLaws.{order-is}
use Rattle.gf_poly.specs.Polynomial.{Terms}
use Rattle.gf_poly.specs.Marking.{MarkedPolynomials}
use Rattle.gf_ideal_theory.specs.Membership.{AreInVariables}
use Rattle.gf_ideal_theory.specs.Marks.{HasPositiveWeight}
use Rattle.gf_ideal_theory.specs.MonomialOrders.{IsOfGrade}
use Rattle.gf_ideal_theory.proofs.BasisLaws.{basis_of_groebner_for}
use Rattle.gf_ideal_theory.proofs.ListedTerms.{variables_by_terms}
use Rattle.gf_ideal_theory.proofs.MarkWeights.{marked_positive, mark-there}
use Rattle.gf_ideal_theory.proofs.OrderWeights.{order-weights}
use Rattle.gf_buchberger.specs.Bases.{IsArrangedBasis}
use Rattle.gf_buchberger.specs.Tasks.{HaveRingVariables}
use Rattle.gf_buchberger.proofs.TaskLaws.{ring_variables}
use Rattle.gf_facets_theory.specs.Regions.{all_positive}
use Rattle.gf_facets_theory.specs.Facets.{IsFlippable}
use Rattle.gf_facets_theory.specs.MarkedBases.{IsBasisInRegion}
use Rattle.gf_initial_theory.proofs.FiniteLaws.{basis_everywhere}
use Rattle.gf_cone.specs.Cones.{ConeRows, normal_at, IsConeOf}
use Rattle.gf_cone.specs.Crossing.{IsFlipDecided}
use Rattle.gf_lifts.specs.Crossings.{IsCrossing, IsNeighbour}
use Rattle.gf_flip.specs.Reached.{IsReachedByFlips}

pub reached_first : (n : ℕ) (fs : List Terms) (s : MarkedPolynomials) → HaveRingVariables n fs → IsArrangedBasis MonomialOrder.deglex n fs s →
    IsReachedByFlips fs s
reached_first n fs s v b = record {
  generators = subst (λ (m : ℕ). AreInVariables m fs) (sym b.variables) (ring_variables n fs v);
  basis = subst (λ (m : ℕ). IsBasisInRegion m fs (all_positive m) s.items) (sym b.variables) (basis_everywhere n fs s.items (record {
    reduced = record {
      basis = basis_of_groebner_for n fs s.items (below_of MonomialOrder.deglex) (order-is MonomialOrder.deglex) weight b.reduced.basis;
      tails = b.reduced.tails;
      heads = b.reduced.heads;
    };
    arranged = b.arranged;
  }));
}
  where
    weight : HasPositiveWeight n s.items
    weight = marked_positive (IsOfGrade n []) (below_of MonomialOrder.deglex) n s.items (order-weights MonomialOrder.deglex n [] tt) b.marked
        (λ d c x p. let w = variables_by_terms n d.poly (b.arranged.canonical d c).variables in
        (refl, λ i l. w x p i l ∙ sym (w d.head (mark-there (below_of MonomialOrder.deglex) d (b.marked d c)) i l)))

pub told_flippable : (s : MarkedPolynomials) (cone old new : ConeRows) (normals : List (List ℤ)) (index : ℕ) (a : List ℤ) (r : Bool) →
    IsConeOf s.variables (all_positive s.variables) s.items cone → old ≡ cone → new ≡ old → normals ≡ new.normals → index < length normals →
    a ≡ get_or normals index a → r ≡ true → IsFlipDecided old index r → IsFlippable s.variables (all_positive s.variables) s.items a
told_flippable s cone old new normals index a r k e f g l q t d =
    subst (IsFlippable s.variables (all_positive s.variables) s.items) (sym here)
    ((d s.variables (all_positive s.variables) s.items (subst (IsConeOf s.variables (all_positive s.variables) s.items) (sym e) k)).0 t)
  where
    here : a ≡ normal_at old index
    here = q ∙ get_or_default normals index a [] l ∙ ap (λ (z : List (List ℤ)). get_or z index []) (g ∙ ap (λ (c : ConeRows). c.normals) f)

pub reached_crossing : (fs : List Terms) (s : MarkedPolynomials) (a : List ℤ) → IsReachedByFlips fs s →
    IsFlippable s.variables (all_positive s.variables) s.items a → IsCrossing s.variables s.items a
reached_crossing fs s a r f = record { generators = fs; region = all_positive s.variables; variables = r.generators; basis = r.basis; flippable = f }

pub reached_next : (fs : List Terms) (s t : MarkedPolynomials) (a : List ℤ) → IsReachedByFlips fs s →
    IsFlippable s.variables (all_positive s.variables) s.items a → IsNeighbour s.variables s.items a t.items → t.variables ≡ s.variables → IsReachedByFlips fs t
reached_next fs s t a r f n e = record {
  generators = subst (λ (m : ℕ). AreInVariables m fs) (sym e) r.generators;
  basis = subst (λ (m : ℕ). IsBasisInRegion m fs (all_positive m) t.items) (sym e) (n.at fs (all_positive s.variables) r.generators r.basis f).there;
}
