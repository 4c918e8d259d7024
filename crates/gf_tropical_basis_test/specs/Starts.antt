-- The basis at which the search over the bases of an ideal starts.
use Rattle.std.specs.Prelude.{◌≡◌, List}
use Rattle.gf_poly.specs.Polynomial.{Terms}
use Rattle.gf_poly.specs.Marking.{MarkedPolynomials}
use Rattle.gf_facets_theory.specs.Regions.{Region, all_positive}
use Rattle.gf_reverse_theory.specs.Upward.{IsNodeIn}
use Rattle.gf_tree.specs.Ideals.{ideal_by}
use Rattle.gf_tree.specs.Parents.{IsRootFor}

-- start is a basis of the ideal of fs, and root is the root of its tree; the region consists of all positive weights
pub record IsStartOf (fs : List Terms) (start : MarkedPolynomials) (region : Region) (root : MarkedPolynomials) : Type 0 where
  pub region_is : region ≡ all_positive start.variables
  pub node : IsNodeIn (ideal_by start.variables fs) start
  pub top : IsRootFor region start root
