-- Everyday inputs that meet the premises of completeness of `_bases --within`, `_bases --certificates` and `_saturation`. Laws: proofs/VariableLaws.antt,
-- proofs/EverydayLaws.antt, proofs/SaturationLimits.antt.
use Rattle.std.specs.Prelude.{◌≡◌, ℕ, ◌+◌, ◌<◌, ◌≤◌, false, List, [], ◌∷◌, length, None, Some, Contains, ℤ}
use Rattle.gf_exponents_theory.specs.Exponents.{Exponents, entry}
use Rattle.gf_poly.specs.Polynomial.{Terms}
use Rattle.gf_buchberger.specs.Tasks.{HaveRingVariables}
use Rattle.gf_buchberger.specs.Pairs.{pairs_below}
use Rattle.gf_saturate.specs.Saturating.{AreStepsWithinLimits}
use Rattle.gf_facets_theory.specs.Regions.{IsInRegion}
use Rattle.gf_binomials_theory.specs.Binomials.{IsBinomialOf}
use Rattle.gf_binomial_calls_theory.specs.Limits.{IsPlainGenerator, HasExponentsUpTo}
use Rattle.gfan_lists.specs.declared.bases.ListOptions.{ListOptions}
use Rattle.gfan_theory.specs.Inputs.{AreListsWithin, AreRegionListsWithin}
use Rattle.gfan_theory.specs.Differences.{AreDifferenceRows}

-- The ideal of x^p - x^q in at most three variables, neither monomial dividing the other and with exponents up to 500, without certificates and without a
-- limit, in the region of at most two rows that are differences of two entries: nothing that `_bases --within` may do leaves its limits, whatever
-- the budget of pairs is.
abbrev pub RegionsOfBinomialsStayWithinLimits : Type 0
RegionsOfBinomialsStayWithinLimits = (o : ListOptions) (n : ℕ) (rows : List (List ℤ)) (v : List ℤ) (f : Terms) → o.limit ≡ None → o.certified ≡ false →
    1 ≤ n → n ≤ 3 → length rows ≤ 2 → AreDifferenceRows n rows → IsInRegion n (record { rows = rows; root = v }) v →
    HaveRingVariables n (f ∷ []) → IsPlainGenerator f → HasExponentsUpTo 500 f → AreRegionListsWithin o n rows (f ∷ [])

-- the monomial is the variable at this index
pub record IsVariable (index : ℕ) (x : Exponents) : Type 0 where
  pub one : entry x index ≡ 1
  pub others : (k : ℕ) → (k ≡ index → ⊥) → entry x k ≡ 0

-- f is the difference of two of the first n variables
pub record IsDifferenceOfVariables (n : ℕ) (f : Terms) : Type 0 where
  pub first : ℕ
  pub second : ℕ
  pub first_inside : first < n
  pub second_inside : second < n
  pub apart : first ≡ second → ⊥
  pub left : Exponents
  pub right : Exponents
  pub is_left : IsVariable first left
  pub is_right : IsVariable second right
  pub binomial : IsBinomialOf (Some left) (Some right) f

-- The ideal of the difference of two of at most three variables, with certificates or without, without a limit, and whatever the budget of pairs is: nothing
-- that `_bases` may do leaves its limits; nor anything that `_bases --within` may do in the region of at most one row that is a difference of two entries.
pub record CertificatesOfVariablesStayWithinLimits : Type 0 where
  pub everywhere : (o : ListOptions) (n : ℕ) (f : Terms) → o.limit ≡ None → n ≤ 3 → HaveRingVariables n (f ∷ []) →
      IsDifferenceOfVariables n f → AreListsWithin o n (f ∷ [])
  pub regions : (o : ListOptions) (n : ℕ) (rows : List (List ℤ)) (v : List ℤ) (f : Terms) → o.limit ≡ None → n ≤ 3 → length rows ≤ 1 →
      AreDifferenceRows n rows →
      IsInRegion n (record { rows = rows; root = v }) v → HaveRingVariables n (f ∷ []) → IsDifferenceOfVariables n f → AreRegionListsWithin o n rows (f ∷ [])

-- each of the polynomials is such a difference, as a-b, b-c
abbrev pub AreDifferencesOfVariables : ℕ → List Terms → Type 0
AreDifferencesOfVariables n fs = (f : Terms) → Contains fs f → IsDifferenceOfVariables n f

-- Of differences of variables, in any number of variables, the run by the rule of the program stays within its limits on each set that a saturation by the
-- product of the variables may come to: on those with the inverse of a variable, and on the last one. The budget is that of a list with one member more than
-- there are variables.
abbrev pub SaturationsOfVariablesStayWithinLimits : Type 0
SaturationsOfVariablesStayWithinLimits = (n : ℕ) (fs : List Terms) (budget : ℕ) → HaveRingVariables n fs → AreDifferencesOfVariables n fs →
    pairs_below (n + 1) ≤ budget → AreStepsWithinLimits n fs budget
