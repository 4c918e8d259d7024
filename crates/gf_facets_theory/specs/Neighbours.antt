-- The two marked reduced Gröbner bases of an ideal on both sides of a facet.
-- Source: Fukuda, Jensen, Thomas, Computing Gröbner fans, 4.
use Rattle.std.specs.Prelude.{ℕ, List, ℤ}
use Rattle.gf_poly.specs.Polynomial.{Terms}
use Rattle.gf_poly.specs.Marking.{MarkedPolynomial}
use Rattle.gf_facets_theory.specs.Rows.{negated}
use Rattle.gf_facets_theory.specs.Regions.{Region, IsInRegion}
use Rattle.gf_facets_theory.specs.Facets.{IsInsideFacet}
use Rattle.gf_facets_theory.specs.MarkedBases.{IsBasisInRegion}

-- bs and cs are the two on both sides of the facet of bs with normal a: one vector of the region is inside both facets
pub record AreAdjacent (n : ℕ) (fs : List Terms) (k : Region) (bs : List MarkedPolynomial) (a : List ℤ) (cs : List MarkedPolynomial) : Type 0 where
  pub here : IsBasisInRegion n fs k bs
  pub there : IsBasisInRegion n fs k cs
  pub point : List ℤ
  pub region : IsInRegion n k point
  pub facet : IsInsideFacet bs a point
  pub back : IsInsideFacet cs (negated a) point
