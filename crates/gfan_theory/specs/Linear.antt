-- Ideals that differences of variables generate: their runs, flips and searches stay within their limits.
-- Laws: proofs/LinearRuns.antt, proofs/LinearBases.antt, proofs/LinearLimits.antt, proofs/LinearChecks.antt, proofs/SessionLaws.antt.
use Rattle.std.specs.Prelude.{◌≡◌, ℕ, ◌≤◌, false, List, length, None, replicate, Contains, ℤ}
use Rattle.gf_exponents_theory.specs.Exponents.{Exponents, degree}
use Rattle.gf_poly.specs.Polynomial.{Terms}
use Rattle.gf_ideal_theory.specs.Membership.{HasMonomial, AreInVariables}
use Rattle.gf_ideal_theory.specs.MonomialOrders.{MonomialOrder, IsAdmissible}
use Rattle.gf_binomials_theory.specs.Binomials.{AreBinomials}
use Rattle.gf_buchberger.specs.Pairs.{pairs_below}
use Rattle.gf_buchberger.specs.declared.queue.Strategy.{Strategy}
use Rattle.gf_buchberger.specs.Bases.{AreRunsWithinLimits}
use Rattle.gf_buchberger.specs.Tasks.{HaveRingVariables}
use Rattle.gf_buchberger.specs.Ruled.{AreRuledRunsWithinLimits}
use Rattle.gf_poly.specs.Marking.{MarkedPolynomial, MarkedPolynomials}
use Rattle.gf_reduced.specs.Markings.{IsMarkedGroebnerBasis}
use Rattle.gf_reduced.specs.Terms.{AreReduced}
use Rattle.gf_reduced.specs.Refusals.{AreChecksWithinLimits}
use Rattle.gf_binomial_calls_theory.specs.Sets.{IsBinomialSet}
use Rattle.gfan_sets.specs.WeightVector.{IsWeighedWithin}
use Rattle.gf_gordan.specs.Sizes.{HaveEntriesUpTo}
use Rattle.gf_facets_theory.specs.Regions.{Region, IsInRegion}
use Rattle.gf_facets_theory.specs.Facets.{IsFlippable}
use Rattle.gf_facets_theory.specs.MarkedBases.{IsBasisInRegion}
use Rattle.gf_flip.specs.Operations.{IsFlipWithinLimits}
use Rattle.gf_reverse_theory.specs.Upward.{Fan}
use Rattle.gf_tree.specs.Refusals.{IsTreeWithinLimits}
use Rattle.gfan_lists.specs.declared.bases.ListOptions.{ListOptions}
use Rattle.gfan_theory.specs.Inputs.{AreListsWithin, AreRegionListsWithin}
use Rattle.gfan_interactive.specs.Interactive.{IsLedWithin}
use Rattle.gfan_theory.specs.Differences.{AreDifferenceRows}

-- each monomial of f is a variable
abbrev pub IsLinear : Terms → Type 0
IsLinear f = (x : Exponents) → HasMonomial f x → degree x ≡ 1

-- the polynomials are linear, in the first n variables
pub record AreLinearForms (n : ℕ) (fs : List Terms) : Type 0 where
  pub variables : AreInVariables n fs
  pub linear : (f : Terms) → Contains fs f → IsLinear f

-- variables and differences of two variables, among the first n, as a-b, b-c
pub record AreLinearDifferences (n : ℕ) (fs : List Terms) : Type 0 where
  pub forms : AreLinearForms n fs
  pub binomials : AreBinomials fs

-- No run on such generators, by an order that is good on homogeneous polynomials, has an operation whose operands don't fit, nor a list with more pairs
-- than n members have.
abbrev pub LinearRunsStayWithinLimits : Type 0
LinearRunsStayWithinLimits = (order : MonomialOrder) (n : ℕ) (fs : List Terms) (budget : ℕ) → IsAdmissible order n (replicate n 1) →
    AreLinearDifferences n fs → pairs_below n ≤ budget → AreRunsWithinLimits order fs budget

-- Nor has the run by the rule of the program, whatever pairs it takes first; with the least degree first, that is what `_buchberger` needs.
abbrev pub LinearRuledRunsStayWithinLimits : Type 0
LinearRuledRunsStayWithinLimits = (strategy : Strategy) (order : MonomialOrder) (n : ℕ) (fs : List Terms) (budget : ℕ) → IsAdmissible order n (replicate n 1) →
    HaveRingVariables n fs → AreLinearDifferences n fs → pairs_below n ≤ budget → AreRuledRunsWithinLimits strategy order fs budget

-- So it is with the flips of their ideal, in each region; with the search over its bases, in at most three variables and for rows of the region up to 500,
-- and in four variables for rows up to 10; and with all that `_bases` may do without a limit in at most four variables: for all positive weights, with
-- certificates or without; and without certificates in the region of at most three rows that are differences of two entries.
pub record LinearIdealsStayWithinLimits : Type 0 where
  pub flips : (n : ℕ) (fs : List Terms) (k : Region) (bs : List MarkedPolynomial) (a : List ℤ) (budget : ℕ) → AreLinearDifferences n fs →
      IsBasisInRegion n fs k bs → IsFlippable n k bs a → pairs_below n ≤ budget → IsFlipWithinLimits n bs a budget
  pub searches : (F : Fan) (budget : ℕ) → AreLinearDifferences F.variables F.ideal → F.variables ≤ 3 → HaveEntriesUpTo 500 F.region.rows →
      pairs_below F.variables ≤ budget → IsTreeWithinLimits F budget
  pub searches_in_four : (F : Fan) (budget : ℕ) → AreLinearDifferences F.variables F.ideal → F.variables ≤ 4 → HaveEntriesUpTo 10 F.region.rows →
      pairs_below F.variables ≤ budget → IsTreeWithinLimits F budget
  pub lists : (o : ListOptions) (n : ℕ) (fs : List Terms) → o.limit ≡ None → 1 ≤ n → n ≤ 4 → HaveRingVariables n fs →
      AreLinearDifferences n fs → pairs_below n ≤ o.pairs → AreListsWithin o n fs
  pub regions : (o : ListOptions) (n : ℕ) (rows : List (List ℤ)) (v : List ℤ) (fs : List Terms) → o.limit ≡ None → o.certified ≡ false → 1 ≤ n → n ≤ 4 →
      length rows ≤ 3 → AreDifferenceRows n rows → IsInRegion n (record { rows = rows; root = v }) v → HaveRingVariables n fs →
      AreLinearDifferences n fs → pairs_below n ≤ o.pairs → AreRegionListsWithin o n rows fs

-- a marked set of variables and differences of two variables, marked at either term, as it is read
pub record IsLinearSet (s : MarkedPolynomials) : Type 0 where
  pub binomials : IsBinomialSet s
  pub linear : (b : MarkedPolynomial) → Contains s.items b → IsLinear b.poly

-- In at most four variables, nothing that may be done in the checks of such a set leaves its limits; nor, if it is a reduced Gröbner basis for its
-- marking, anything that `_weightvector` may do.
pub record LinearWeightsStayWithinLimits : Type 0 where
  pub checks : (s : MarkedPolynomials) → IsLinearSet s → s.variables ≤ 4 → AreChecksWithinLimits s
  pub weights : (s : MarkedPolynomials) → IsLinearSet s → 1 ≤ s.variables → s.variables ≤ 4 → IsMarkedGroebnerBasis s.variables s.items → AreReduced s.items →
      IsWeighedWithin s

-- Nor anything that a session of `_interactive` may do that starts at such a basis, with the budget of pairs of a list with as many members as there are
-- variables.
abbrev pub LinearSessionsStayWithinLimits : Type 0
LinearSessionsStayWithinLimits = (pairs n : ℕ) (s : MarkedPolynomials) → IsLinearSet s → s.variables ≡ n → n ≤ 4 → IsMarkedGroebnerBasis s.variables s.items →
    AreReduced s.items → pairs_below n ≤ pairs → IsLedWithin pairs n s
