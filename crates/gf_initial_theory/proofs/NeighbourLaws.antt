-- Across each flippable facet there is a neighbour, with numbers of any size.
-- To cite: neighbour_exists. The rest are steps: the reduced basis of the parts for the order along the facet exists, its
-- lifts are a basis, and that has a reduced form.
use Rattle.std.proofs.Common.{◌≡◌, ℕ, List, length, ℤ, arith, sym, ◌∙◌, inl}
use Rattle.std.proofs.lemmas.Int.{ints}
use Rattle.gf_exponents_theory.specs.Orders.{IsFacetBelow, negated_row_of, gains}
use Rattle.gf_exponents_theory.proofs.WholeWeightLaws.{row-order, natural-weight}
use Rattle.gf_poly.specs.Polynomial.{Terms}
use Rattle.gf_poly.specs.Marking.{MarkedPolynomial, polys}
use Rattle.gf_ideal_theory.specs.Membership.{AreInVariables}
use Rattle.gf_ideal_theory.specs.Marks.{AreMarked, IsPositive}
use Rattle.gf_ideal_theory.specs.MonomialOrders.{MonomialOrder, below_of}
use Rattle.gf_ideal_theory.specs.LawsOfBases.{AreHomogeneous}
use Rattle.gf_ideal_theory.specs.Bases.{IsBasis, IsReducedBasisFor}
use Rattle.gf_ideal_theory.proofs.MembershipLaws.{variables_of_member}
use Rattle.gf_ideal_theory.proofs.InterreductionLaws.{reduced_by_order}
use Rattle.gf_facets_theory.specs.Rows.{negated}
use Rattle.gf_facets_theory.specs.Regions.{Region, IsInRegion}
use Rattle.gf_facets_theory.specs.Facets.{IsInClosedCone, IsInsideFacet, IsFlippable}
use Rattle.gf_facets_theory.specs.Beyond.{IsFurther, IsBeyond}
use Rattle.gf_facets_theory.specs.MarkedBases.{IsMarkedReducedBasis, IsBasisInRegion}
use Rattle.gf_facets_theory.specs.Neighbours.{AreAdjacent}
use Rattle.gf_facets_theory.proofs.VectorLaws.{IsNonzero}
use Rattle.gf_facets_theory.proofs.WholeLaws.{beyond-strict}
use Rattle.gf_facets_theory.proofs.RegionLaws.{region-natural, region-positive}
use Rattle.gf_facets_theory.proofs.NormalLaws.{normal-length, normal-nonzero}
use Rattle.gf_bases_theory.proofs.ExistenceLaws.{reduced_exists}
use Rattle.gf_bases_theory.proofs.ReducedFormLaws.{reduced_form}
use Rattle.gf_initial_theory.specs.Parts.{Matching}
use Rattle.gf_initial_theory.proofs.PartLaws.{IsLevelPart, parts-variables}
use Rattle.gf_initial_theory.specs.Lifts.{AreLifted}
use Rattle.gf_initial_theory.proofs.LiftedLaws.{lifted_marks, lifted_basis, lifts_exist}
use Rattle.gf_initial_theory.proofs.ClassLaws.{facet_marks}
use Rattle.gf_initial_theory.proofs.SideLaws.{IsSide, side-weak, level_parts, parts_of_one_class, apart-negated, apart-weight}
use Rattle.gf_initial_theory.proofs.FlipLaws.{side_of_inside, adjacent_of_side}

-- parts along a normal are homogeneous by a vector inside the facet
parts-homogeneous : (n : ℕ) (fs : List Terms) (k : Region) (v a : List ℤ) (bs ps : List MarkedPolynomial) →
    AreInVariables n (polys ps) → IsInRegion n k v → IsSide n fs v a bs → Matching (IsLevelPart v) bs ps →
    AreHomogeneous n (gains v) (polys ps)
parts-homogeneous n fs k v a bs ps vars r s h f c x y p q = (
  (let natural = natural-weight v x (region-natural n k v r) in
      let too = natural-weight v y (region-natural n k v r) in
      let e = apart-weight v a x y s.zero (parts_of_one_class n fs v a bs ps s h f c x y p q) in
      omega (arith, ints, natural, too, e)),
  λ i l. vars f c x p i l ∙ sym (vars f c y q i l),
)

-- a reduced basis of the ideal of the parts, for the order along the facet
record HasFacetBasis (n : ℕ) (gs : List Terms) (a : List ℤ) : Type 0 where
  basis : List MarkedPolynomial
  reduced : IsReducedBasisFor n gs (IsFacetBelow (negated_row_of a)) basis
  is_basis : IsBasis n gs basis

facet_basis : (n : ℕ) (gs : List Terms) (grade : List ℕ) (a : List ℤ) → AreInVariables n gs →
    IsPositive n grade → AreHomogeneous n grade gs → HasFacetBasis n gs a
facet_basis n gs grade a vars p h = at (reduced_exists (MonomialOrder.facet (negated_row_of a)) n grade gs (inl p) vars h)
  where
    at : ((hs : List MarkedPolynomial) × IsMarkedReducedBasis n gs hs × AreMarked (below_of (MonomialOrder.facet (negated_row_of a))) hs) → HasFacetBasis n gs a
    at r = record {
      basis = r.0;
      reduced = reduced_by_order n gs r.0 (IsFacetBelow (negated_row_of a)) vars r.1.reduced.basis (row-order (negated_row_of a)).strict r.2 r.1.reduced.tails
          r.1.reduced.heads;
      is_basis = r.1.reduced.basis;
    }

-- a neighbour across a facet with a vector of the region inside
pub neighbour_inside : (n : ℕ) (fs : List Terms) (k : Region) (bs : List MarkedPolynomial) (a v : List ℤ) →
    AreInVariables n fs → IsBasisInRegion n fs k bs → IsInRegion n k v → IsInsideFacet bs a v →
    (cs : List MarkedPolynomial) × AreAdjacent n fs k bs a cs
neighbour_inside n fs k bs a v vars b r f = at (level_parts v bs)
  where
    nz : IsNonzero a
    nz = normal-nonzero n bs a b.arranged.canonical f.normal

    wide : length a ≡ n
    wide = normal-length n bs a b.arranged.canonical f.normal

    side : IsSide n fs v (negated a) bs
    side = side_of_inside n fs k bs a v b f

    weak : IsInClosedCone v bs
    weak = side-weak n fs v (negated a) bs side

    arranged : (ls : List MarkedPolynomial) → IsBasis n fs ls → AreMarked (IsBeyond v a) ls →
        (cs : List MarkedPolynomial) × AreAdjacent n fs k bs a cs
    arranged ls basis marks = finish (reduced_form n fs ls (IsBeyond v a) vars (beyond-strict v a f.zero nz) basis marks)
      where
        finish : ((cs : List MarkedPolynomial) × IsMarkedReducedBasis n fs cs × AreMarked (IsBeyond v a) cs) →
            (cs : List MarkedPolynomial) × AreAdjacent n fs k bs a cs
        finish c = (
          c.0,
          adjacent_of_side n fs k bs c.0 a v vars b r f (record { reduced = c.1.reduced; zero = f.zero; nonzero = nz; marked = c.2 })
              c.1.arranged,
        )

    at : ((ps : List MarkedPolynomial) × Matching (IsLevelPart v) bs ps) →
        (cs : List MarkedPolynomial) × AreAdjacent n fs k bs a cs
    at p = with_basis (facet_basis n (polys p.0) (gains v) a part_vars (region-positive n k v r)
        (parts-homogeneous n fs k v (negated a) bs p.0 part_vars r side p.1))
      where
        part_vars : AreInVariables n (polys p.0)
        part_vars = parts-variables n bs p.0 v (λ d c. variables_of_member n fs d.poly vars (b.reduced.basis.members d c)) p.1

        with_basis : HasFacetBasis n (polys p.0) a → (cs : List MarkedPolynomial) × AreAdjacent n fs k bs a cs
        with_basis h = with_lifts (lifts_exist n fs bs p.0 h.basis v a vars b.reduced.basis weak p.1 f.zero h.is_basis.members further)
          where
            further : AreMarked (IsFurther a) h.basis
            further = facet_marks n (polys p.0) a h.basis nz part_vars
                (λ g c x y i j. apart-negated a x y (parts_of_one_class n fs v (negated a) bs p.0 side p.1 g c x y i j)) h.reduced

            with_lifts : ((ls : List MarkedPolynomial) × AreLifted n fs v h.basis ls) →
                (cs : List MarkedPolynomial) × AreAdjacent n fs k bs a cs
            with_lifts l = arranged l.0 (lifted_basis n fs k bs p.0 h.basis l.0 v a vars b.reduced.basis weak p.1 r wide nz f.zero h.is_basis further l.1)
                (lifted_marks n fs v a h.basis l.0 further l.1)

-- across each flippable facet
pub neighbour_exists : (n : ℕ) (fs : List Terms) (k : Region) (bs : List MarkedPolynomial) (a : List ℤ) →
    AreInVariables n fs → IsBasisInRegion n fs k bs → IsFlippable n k bs a →
    (cs : List MarkedPolynomial) × AreAdjacent n fs k bs a cs
neighbour_exists n fs k bs a vars b f = neighbour_inside n fs k bs a f.point vars b f.region f.inside
