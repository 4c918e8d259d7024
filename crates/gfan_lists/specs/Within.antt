-- `_bases --within`: the vectors of a file cut a region out of the positive weights. Why there is none, and why it has no root.
use Rattle.std.specs.Prelude.{◌≡◌, ℕ, List, ℤ}
use Rattle.gf_exponents_theory.specs.Orders.{gains}
use Rattle.gf_exponents_theory.specs.SixOrders.{MonomialOrder}
use Rattle.gf_poly.specs.Polynomial.{Terms}
use Rattle.gf_poly.specs.Marking.{MarkedPolynomials, polys}
use Rattle.gf_buchberger.specs.declared.bases.BasisError.{BasisError}
use Rattle.gf_reduced.specs.Markings.{IsMarkedGroebnerBasis}
use Rattle.gf_gordan.specs.Alternative.{AreRows}
use Rattle.gf_facets_theory.specs.Regions.{Region}
use Rattle.gf_weights.specs.declared.region.RegionError.{RegionError}
use Rattle.gf_weights.specs.declared.region.RegionError.TheVariants as region_errors
use Rattle.gf_weights.specs.Roots.{IsRegionRefusal}
use Rattle.gf_front.specs.declared.refusal.Refusal.{Refusal}
use Rattle.gf_front.specs.declared.refusal.Refusal.TheVariants as refusals
use Rattle.gfan_common.specs.Causes.{of_basis}
use Rattle.gfan_lists.specs.Bases.{IsFirstRefusal}
use Rattle.gfan_lists.specs.GivenBasis.{IsReducedFrom, IsReducingRefusal}

-- ---- the region

-- the refusal of a region, as one of the run
abbrev pub of_region : RegionError → Refusal
of_region (region_errors.Empty multipliers) = refusals.EmptyRegion multipliers
of_region (region_errors.WideRoot index value) = refusals.WideRoot index value
of_region (region_errors.Cone o) = refusals.ConeOverflow o.row o.op o.left o.right
of_region (region_errors.Wide w) = refusals.WideVector w
of_region region_errors.Memory = refusals.Memory

-- each vector has n entries. No positive vector is positive on each of them; or an operation of finding the region's root leaves its
-- limits, or an entry of the root is too great; or memory runs out
abbrev pub IsNoRegion : ℕ → List (List ℤ) → Refusal → Type 0
IsNoRegion n rows r = AreRows n rows × ((e : RegionError) × IsRegionRefusal n rows e × (r ≡ of_region e))

-- ---- why it is refused, from generators

-- the basis for the root of the region, ties broken by lex, is refused
abbrev pub IsRegionRootRefusal : ℕ → Region → List Terms → ℕ → Refusal → Type 0
IsRegionRootRefusal n k fs pairs r = (e : BasisError) × IsFirstRefusal (MonomialOrder.weighted (gains k.root)) n fs pairs e × (r ≡ of_basis e)

-- ---- from a marked Gröbner basis, whose marking may be that of a weight outside the region

-- the set is refused as a basis, or its reduction is refused; or the basis for the root of the region, ties broken by lex, of the
-- polynomials of the reduced basis is refused
pub data IsGivenRegionRootRefusal (k : Region) (s : MarkedPolynomials) (pairs : ℕ) (r : Refusal) : Type 0 where
  at_basis : IsReducingRefusal s r → IsGivenRegionRootRefusal k s pairs r
  at_root : (u : MarkedPolynomials) → IsMarkedGroebnerBasis s.variables s.items → IsReducedFrom s u →
      IsRegionRootRefusal s.variables k (polys u.items) pairs r → IsGivenRegionRootRefusal k s pairs r
