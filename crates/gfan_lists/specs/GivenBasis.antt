-- `_bases -g`: a marked Gröbner basis is read in place of generators. Why it has no root.
use Rattle.std.specs.Prelude.{◌≡◌, ℕ, List, Contains}
use Rattle.gf_poly.specs.declared.error.PolyError.{PolyError}
use Rattle.gf_poly.specs.Marking.{MarkedPolynomial, MarkedPolynomials, polys, IsArranged}
use Rattle.gf_ideal_theory.specs.Marks.{IsRealisedBy}
use Rattle.gf_ideal_theory.specs.Bases.{IsReducedBasis}
use Rattle.gf_division.specs.Autoreduction.{IsAutoreductionRefusal}
use Rattle.gf_reduced.specs.declared.error.CheckError.{CheckError}
use Rattle.gf_reduced.specs.Forms.{monic_set}
use Rattle.gf_reduced.specs.Markings.{IsMarkedGroebnerBasis}
use Rattle.gf_reduced.specs.Refusals.{of_poly, IsReducedBasisRefusal}
use Rattle.gf_facets_theory.specs.Regions.{all_positive}
use Rattle.gf_tree.specs.TreeError.{TreeError}
use Rattle.gf_tree.specs.Refusals.{IsWayRefused}
use Rattle.gf_front.specs.declared.refusal.Refusal.{Refusal}
use Rattle.gf_lists_theory.specs.BasesList.{IsGivenByWeight}
use Rattle.gfan_common.specs.Causes.{of_tree}
use Rattle.gfan_common.specs.CheckedSets.{of_check}

-- ---- why it is refused

-- u is the reduced basis of the ideal that s generates, for some positive weight that gives the marking of s
pub record IsReducedFrom (s u : MarkedPolynomials) : Type 0 where
  pub given : IsGivenByWeight s.variables (polys s.items) u
  pub weight : List ℕ
  pub reduced : IsReducedBasis s.variables (polys s.items) weight u.items
  pub marks : (b : MarkedPolynomial) → Contains s.items b → IsRealisedBy weight b

-- the set is refused as a basis; or it is one, and the autoreduction of its members made monic and arranged is refused
pub data IsReducingRefusal (s : MarkedPolynomials) (r : Refusal) : Type 0 where
  at_check : (e : CheckError) → IsReducedBasisRefusal 0 s e → r ≡ of_check e → IsReducingRefusal s r
  at_tails : (t : MarkedPolynomials) (d : PolyError) → IsMarkedGroebnerBasis s.variables s.items → IsArranged (monic_set s) t →
      IsAutoreductionRefusal t.items d → r ≡ of_check (of_poly d) → IsReducingRefusal s r

-- the set is refused as a basis, or its autoreduction is refused; or a call of the search is refused at a basis on the way up from the
-- reduced basis to the root
pub data IsGivenRootRefusal (s : MarkedPolynomials) (pairs : ℕ) (r : Refusal) : Type 0 where
  at_basis : IsReducingRefusal s r → IsGivenRootRefusal s pairs r
  on_the_way : (u : MarkedPolynomials) (e : TreeError) → IsMarkedGroebnerBasis s.variables s.items → IsReducedFrom s u →
      IsWayRefused (all_positive s.variables) pairs u e → r ≡ of_tree e → IsGivenRootRefusal s pairs r
