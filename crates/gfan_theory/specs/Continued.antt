-- Lists that start from a marked Gröbner basis (`-g`) and lists that continue after a basis (`--after`): what `_bases` may do stays within its limits.
-- Laws: proofs/GivenLimits.antt, proofs/ContinuedLaws.antt.
use Rattle.std.specs.Prelude.{◌≡◌, ℕ, ◌≤◌, Bool, true, false, List, [], length, None, ℤ}
use Rattle.gf_poly.specs.Marking.{MarkedPolynomials}
use Rattle.gf_buchberger.specs.Tasks.{HaveRingVariables}
use Rattle.gf_buchberger.specs.Pairs.{pairs_below}
use Rattle.gf_reduced.specs.Markings.{IsMarkedGroebnerBasis}
use Rattle.gf_facets_theory.specs.Regions.{Region, IsInRegion, all_positive}
use Rattle.gf_reverse_theory.specs.Upward.{IsNodeIn}
use Rattle.gf_tree.specs.Ideals.{ideal_by, ideal_within}
use Rattle.gf_weights.specs.Roots.{IsRegionOf}
use Rattle.gfan_common.specs.Forms.{generators_of}
use Rattle.gfan_lists.specs.declared.bases.ListOptions.{ListOptions}
use Rattle.gfan_lists.specs.Ways.{ways_by}
use Rattle.gfan_lists.specs.After.{Given, names_given, generators_given, IsBasisTaken}
use Rattle.gfan_lists.specs.ListCommand.{IsListWithin}
use Rattle.gfan_theory.specs.Inputs.{AreGivenListsWithin, AreGivenRegionListsWithin}
use Rattle.gfan_theory.specs.Differences.{AreDifferenceRows}
use Rattle.gfan_theory.specs.Linear.{AreLinearDifferences, IsLinearSet}

-- a marked set of variables and differences of variables, in n variables, that is a Gröbner basis for its marking
pub record IsLinearBasis (n : ℕ) (s : MarkedPolynomials) : Type 0 where
  pub set : IsLinearSet s
  pub variables : s.variables ≡ n
  pub basis : IsMarkedGroebnerBasis s.variables s.items

-- In at most four variables, without a limit and with the budget of pairs of a list with as many members as there are variables: nothing that `_bases -g`
-- may do leaves its limits, with certificates or without; nor anything that `_bases -g --within` may do without certificates, in the region of at most
-- three rows that are differences of two entries.
pub record GivenListsStayWithinLimits : Type 0 where
  pub everywhere : (o : ListOptions) (n : ℕ) (s : MarkedPolynomials) → o.limit ≡ None → 1 ≤ n → n ≤ 4 → IsLinearBasis n s → pairs_below n ≤ o.pairs →
      AreGivenListsWithin o n s
  pub regions : (o : ListOptions) (n : ℕ) (rows : List (List ℤ)) (v : List ℤ) (s : MarkedPolynomials) → o.limit ≡ None → o.certified ≡ false → 1 ≤ n → n ≤ 4 →
      length rows ≤ 3 → AreDifferenceRows n rows → IsInRegion n (record { rows = rows; root = v }) v → IsLinearBasis n s → pairs_below n ≤ o.pairs →
      AreGivenRegionListsWithin o n rows s

-- what the input says: variables and differences of variables as generators, or such a basis
abbrev pub IsLinearInput : (from_basis : Bool) → Given from_basis → Type 0
IsLinearInput false v = HaveRingVariables (length v.0) (generators_of v.1.0) × AreLinearDifferences (length v.0) (generators_of v.1.0)
IsLinearInput true v = IsLinearBasis (length v.0) v.1

-- The ideal of variables and differences of variables, in at most four variables, with certificates or without and without a limit: where the marked set of
-- the file, of variables and differences of variables too, stands for one of its bases, nothing that `_bases --after` may do leaves its limits, also with
-- `-g`. The budget of pairs is at least that of a list with as many members as there are variables.
abbrev pub ContinuationsStayWithinLimits : Type 0
ContinuationsStayWithinLimits = (from_basis : Bool) (o : ListOptions) (v : Given from_basis) (s b : MarkedPolynomials) → o.limit ≡ None →
    1 ≤ length (names_given from_basis v) → length (names_given from_basis v) ≤ 4 → IsLinearInput from_basis v →
    pairs_below (length (names_given from_basis v)) ≤ o.pairs → s.variables ≡ length (names_given from_basis v) → IsLinearSet s →
    IsBasisTaken (all_positive (length (names_given from_basis v))) s b →
    IsNodeIn (ideal_by (length (names_given from_basis v)) (generators_given from_basis v)) b →
    IsListWithin (ways_by from_basis false true) o ([], ((names_given from_basis v, s), v))

-- So it is with `--within`, with `-g` or without, in the region of at most three rows that are differences of two entries and without certificates, where the
-- set stands for one of the bases in the region.
abbrev pub ContinuationsWithinStayWithinLimits : Type 0
ContinuationsWithinStayWithinLimits = (from_basis : Bool) (o : ListOptions) (rows : List (List ℤ)) (w : List ℤ) (v : Given from_basis)
    (s b : MarkedPolynomials) → o.limit ≡ None → o.certified ≡ false →
    1 ≤ length (names_given from_basis v) → length (names_given from_basis v) ≤ 4 → length rows ≤ 3 →
    AreDifferenceRows (length (names_given from_basis v)) rows → IsInRegion (length (names_given from_basis v)) (record { rows = rows; root = w }) w →
    IsLinearInput from_basis v → pairs_below (length (names_given from_basis v)) ≤ o.pairs → s.variables ≡ length (names_given from_basis v) → IsLinearSet s →
    ((k : Region) → IsRegionOf (length (names_given from_basis v)) rows k →
    IsBasisTaken k s b × IsNodeIn (ideal_within (length (names_given from_basis v)) (generators_given from_basis v) k) b) →
    IsListWithin (ways_by from_basis true true) o (rows, ((names_given from_basis v, s), v))
