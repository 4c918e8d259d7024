-- A basis of an ideal among all positive vectors, as walks over bases carry it along.
use Rattle.std.specs.Prelude.{List}
use Rattle.gf_poly.specs.Polynomial.{Terms}
use Rattle.gf_poly.specs.Marking.{MarkedPolynomials}
use Rattle.gf_ideal_theory.specs.Membership.{AreInVariables}
use Rattle.gf_facets_theory.specs.Regions.{all_positive}
use Rattle.gf_facets_theory.specs.MarkedBases.{IsBasisInRegion}

-- s is a marked reduced basis of the ideal of fs in its variables, for some positive weight
pub record IsReachedByFlips (fs : List Terms) (s : MarkedPolynomials) : Type 0 where
  pub generators : AreInVariables s.variables fs
  pub basis : IsBasisInRegion s.variables fs (all_positive s.variables) s.items
