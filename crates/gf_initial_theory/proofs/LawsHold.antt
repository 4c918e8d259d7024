-- The theorems of specs/Laws.antt.
use Rattle.std.specs.Prelude.{List}
use Rattle.gf_exponents_theory.specs.Orders.{lighter, gains, IsWeightedBelow}
use Rattle.gf_ideal_theory.specs.Marks.{AreMarked}
use Rattle.gf_ideal_theory.specs.Bases.{IsBasis, IsReducedBasis}
use Rattle.gf_ideal_theory.proofs.MarkWeights.{mark-there}
use Rattle.gf_facets_theory.specs.Rows.{negated}
use Rattle.gf_facets_theory.specs.Facets.{IsInClosedCone}
use Rattle.gf_initial_theory.specs.Parts.{IsInitialPart, IsPartAlong}
use Rattle.gf_poly.specs.Marking.{MarkedPolynomial}
use Rattle.gf_facets_theory.specs.InitialIdeals.{IsMonomialAt}
use Rattle.gf_facets_theory.specs.MarkedBases.{IsBasisInRegion}
use Rattle.gf_facets_theory.proofs.RegionLaws.{region-positive}
use Rattle.gf_facets_theory.proofs.SystemLaws.{marks_of_open, open_of_marks}
use Rattle.gf_bases_theory.proofs.RegionBases.{basis_at}
use Rattle.gf_bases_theory.proofs.LawsHold.{to_reduced}
use Rattle.gf_initial_theory.specs.Laws.{InitialFormsOfBases, PartsAreInitialForms, MonomialIdealsAreOfBases, NeighboursExist, NeighboursAreUnique}
use Rattle.gf_initial_theory.specs.Laws.{NeighboursHaveParts, FlipsGiveNeighbours}
use Rattle.gf_initial_theory.proofs.MatchingLaws.{matched-map}
use Rattle.gf_initial_theory.proofs.PartLaws.{initial_of_level, parts_reduced}
use Rattle.gf_initial_theory.proofs.InitialLaws.{levels, initial_member, from_initial, into_initial}
use Rattle.gf_initial_theory.proofs.SideLaws.{IsSide, side-weak, level_of_along}
use Rattle.gf_initial_theory.proofs.MonomialIdealLaws.{open_where_monomial, monomial_where_open}
use Rattle.gf_initial_theory.proofs.FlipLaws.{side_of_inside, along_negated, adjacent_unique, adjacent_turned, adjacent_back, part_facts, lifted_all}
use Rattle.gf_initial_theory.proofs.FlipLaws.{lifted_tops, crossed, both_sides}
use Rattle.gf_initial_theory.proofs.NeighbourLaws.{neighbour_exists}
use Rattle.gf_initial_theory.proofs.CrossingLaws.{parts_of_neighbours}

pub initial_forms_of_bases : InitialFormsOfBases
initial_forms_of_bases = record {
  reduced = λ n fs w bs ps v r k h. parts_reduced n fs bs ps w v r k (levels n fs bs ps w r.basis k h);
  member = λ n fs w bs ps f g v r k h m i. initial_member n fs bs ps w f g v r.basis k (levels n fs bs ps w r.basis k h) m i;
  generate = λ n fs w bs ps q v r k h. (
    λ i. from_initial n fs bs ps w q v r.basis k (levels n fs bs ps w r.basis k h) i,
    λ m. into_initial n fs bs ps w q r.basis h m,
  );
}

pub parts_are_initial_forms : PartsAreInitialForms
parts_are_initial_forms n fs k bs ps a v b f h = (
  weak,
  matched-map (IsPartAlong a) (IsInitialPart v) bs ps (λ d p c i. initial_of_level v d p (weak d c) (mark-there (lighter basis.marked.0) d (basis.marked.2 d c))
      (level_of_along v (negated a) d p side.nonzero side.zero (side.marked d c) (along_negated a d p i))) h,
)
  where
    basis : IsBasis n fs bs
    basis = b.reduced.basis

    side : IsSide n fs v (negated a) bs
    side = side_of_inside n fs k bs a v b f

    weak : IsInClosedCone v bs
    weak = side-weak n fs v (negated a) bs side

pub monomial_ideals_are_of_bases : MonomialIdealsAreOfBases
monomial_ideals_are_of_bases n k fs v vars r = (there, back)
  where
    there : IsMonomialAt n fs v → (bs : List MarkedPolynomial) × IsBasisInRegion n fs k bs × IsReducedBasis n fs (gains v) bs
    there m = at (basis_at n k fs v vars r)
      where
        at : ((bs : List MarkedPolynomial) × IsBasisInRegion n fs k bs × AreMarked (IsWeightedBelow (gains v)) bs × IsInClosedCone v bs) →
            (bs : List MarkedPolynomial) × IsBasisInRegion n fs k bs × IsReducedBasis n fs (gains v) bs
        at b = (
          b.0,
          b.1,
          to_reduced n fs (gains v) b.0 vars (record { reduced = b.1.reduced; arranged = b.1.arranged }) (region-positive n k v r)
              (marks_of_open n k b.0 v r (λ d c. (b.1.reduced.basis.marked.2 d c).monic) (open_where_monomial n fs v b.0 vars m b.1.reduced b.3)),
        )

    back : ((bs : List MarkedPolynomial) × IsBasisInRegion n fs k bs × IsReducedBasis n fs (gains v) bs) → IsMonomialAt n fs v
    back b = monomial_where_open n fs v b.0 vars b.1.reduced (open_of_marks n k b.0 v r b.2.reduced.basis.marked)

pub neighbours_exist : NeighboursExist
neighbours_exist = neighbour_exists

pub neighbours_are_unique : NeighboursAreUnique
neighbours_are_unique = record { unique = adjacent_unique; turned = adjacent_turned; back = adjacent_back }

pub neighbours_have_parts : NeighboursHaveParts
neighbours_have_parts = record { both_sides = both_sides; leading = parts_of_neighbours }

pub flips_give_neighbours : FlipsGiveNeighbours
flips_give_neighbours = record {
  neighbour = crossed;
  remainders = λ n fs k bs ps hs ls a v vars b r f parts reduced lifts. lifted_all n fs bs ps hs ls a v vars f.zero
      (part_facts n fs k bs ps hs a v vars b r f parts reduced) lifts;
  tops = λ n fs k bs ps hs ls a v vars b r f parts reduced lifts. lifted_tops n fs bs ps hs ls a v vars f.zero
      (part_facts n fs k bs ps hs a v vars b r f parts reduced) lifts;
}
