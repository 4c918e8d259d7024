-- The bases of an ideal that is given by generators.
-- To cite: start_of_ideal, start_in_region.
use Rattle.std.proofs.Common.{ℕ, List, [], refl, sym, ◌∙◌, subst}
use Rattle.gf_exponents_theory.specs.Orders.{gains, IsWeightedBelow}
use Rattle.gf_exponents_theory.specs.SixOrders.{MonomialOrder, below_of}
use Rattle.gf_exponents_theory.proofs.SixOrdersLaws.{order-is}
use Rattle.gf_ideal_theory.specs.Membership.{AreInVariables}
use Rattle.gf_ideal_theory.specs.Marks.{AreMarked, HasPositiveWeight}
use Rattle.gf_ideal_theory.specs.MonomialOrders.{IsOfGrade}
use Rattle.gf_ideal_theory.proofs.BasisLaws.{basis_of_groebner_for}
use Rattle.gf_ideal_theory.proofs.ListedTerms.{variables_by_terms}
use Rattle.gf_ideal_theory.proofs.MarkWeights.{marked_positive, mark-there}
use Rattle.gf_ideal_theory.proofs.OrderWeights.{order-weights}
use Rattle.gf_flip.proofs.TaskLaws.{ring_variables}
use Rattle.gf_facets_theory.specs.Facets.{IsInClosedCone}
use Rattle.gf_facets_theory.specs.MarkedBases.{IsMarkedReducedBasis, IsBasisInRegion}
use Rattle.gf_bases_theory.proofs.RegionBases.{basis_at}
use Rattle.gf_bases_theory.proofs.LawsHold.{reduced_bases_exist}
use Rattle.gf_poly.specs.Polynomial.{Terms}
use Rattle.gf_poly.specs.Marking.{MarkedPolynomial, MarkedPolynomials}
use Rattle.gf_flip.specs.Bases.{IsArrangedBasis}
use Rattle.gf_flip.specs.Tasks.{HaveRingVariables}
use Rattle.gf_facets_theory.specs.Regions.{Region, IsRegion, all_positive}
use Rattle.gf_facets_theory.proofs.SystemLaws.{all_positive-region}
use Rattle.gf_flip.proofs.ReachedLaws.{reached_first}
use Rattle.gf_reverse_theory.specs.Upward.{IsNodeIn, IsNode}
use Rattle.gf_reverse_theory.proofs.ListLaws.{own}
use Rattle.gf_tree.specs.Ideals.{ideal_by, ideal_within}

-- the basis by degree, then lex, is a basis of its ideal, and so of the ideal that it generates
pub start_of_ideal : (n : ℕ) (fs : List Terms) (s : MarkedPolynomials) → HaveRingVariables n fs → IsArrangedBasis MonomialOrder.deglex n fs s →
    IsNodeIn (ideal_by n fs) s × IsNode (all_positive n) s
start_of_ideal n fs s v b =
    let r = reached_first n fs s v b in
    let node : IsNodeIn (ideal_by s.variables fs) s = record {
      fan = record { ideal = r.generators; region = all_positive-region s.variables };
      variables = refl;
      basis = r.basis;
    } in
    let there = subst (λ (m : ℕ). IsNodeIn (ideal_by m fs) s) b.variables node in
    (there, own (all_positive n) (ideal_by n fs) s refl there)

-- the basis by the root of a region, then lex, is a basis of its ideal in the region
pub start_in_region : (n : ℕ) (fs : List Terms) (k : Region) (s : MarkedPolynomials) → HaveRingVariables n fs → IsRegion n k →
    IsArrangedBasis (MonomialOrder.weighted (gains k.root)) n fs s → IsNodeIn (ideal_within n fs k) s × IsNode k s
start_in_region n fs k s v g b = (node, own k (ideal_within n fs k) s refl node)
  where
    o : MonomialOrder
    o = MonomialOrder.weighted (gains k.root)

    variables : AreInVariables n fs
    variables = ring_variables n fs v

    weight : HasPositiveWeight n s.items
    weight = marked_positive (IsOfGrade n []) (below_of o) n s.items (order-weights o n [] tt) b.marked
        (λ d c x p. let w = variables_by_terms n d.poly (b.arranged.canonical d c).variables in
        (refl, λ i l. w x p i l ∙ sym (w d.head (mark-there (below_of o) d (b.marked d c)) i l)))

    mine : IsMarkedReducedBasis n fs s.items
    mine = record {
      reduced = record {
        basis = basis_of_groebner_for n fs s.items (below_of o) (order-is o) weight b.reduced.basis;
        tails = b.reduced.tails;
        heads = b.reduced.heads;
      };
      arranged = b.arranged;
    }

    at : (bs : List MarkedPolynomial) × IsBasisInRegion n fs k bs × AreMarked (IsWeightedBelow (gains k.root)) bs × IsInClosedCone k.root bs →
        IsBasisInRegion n fs k s.items
    at p = subst (IsBasisInRegion n fs k) (reduced_bases_exist.one o n fs p.0 s.items variables (record { reduced = p.1.reduced; arranged = p.1.arranged })
        mine p.2 b.marked) p.1

    node : IsNodeIn (ideal_within n fs k) s
    node = record { fan = record { ideal = variables; region = g }; variables = b.variables; basis = at (basis_at n k fs k.root variables g.root) }
