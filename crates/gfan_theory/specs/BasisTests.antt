-- Differences of variables, whose test for a tropical basis stays within its limits. Laws: proofs/RepeatedRows.antt, proofs/BasisTestLimits.antt.
use Rattle.std.specs.Prelude.{◌≡◌, ◌⊎◌, ℕ, ◌+◌, ◌<◌, ◌≤◌, List, [], ◌∷◌, Contains}
use Rattle.gf_frac.specs.Fraction.{neg_ℚ, one_ℚ}
use Rattle.gf_poly.specs.declared.Term.{Term}
use Rattle.gf_poly.specs.Polynomial.{Terms}
use Rattle.gf_buchberger.specs.Pairs.{pairs_below}
use Rattle.gf_saturate.specs.Widening.{variable_at}
use Rattle.gf_tropical_basis_test.specs.Limits.{IsTestWithinLimits}

-- the variable at index i, of n, and its negative
abbrev pub plus_variable : ℕ → ℕ → Term
plus_variable n i = record { coef = one_ℚ; mono = variable_at n i }

abbrev pub minus_variable : ℕ → ℕ → Term
minus_variable n i = record { coef = neg_ℚ one_ℚ; mono = variable_at n i }

-- f has these two terms, in either order: one of the first n variables, and another one with the sign -
pub record IsKeptDifference (n : ℕ) (f : Terms) : Type 0 where
  pub first : ℕ
  pub second : ℕ
  pub first_inside : first < n
  pub second_inside : second < n
  pub apart : first ≡ second → ⊥
  pub is : (f ≡ plus_variable n first ∷ minus_variable n second ∷ []) ⊎ (f ≡ minus_variable n second ∷ plus_variable n first ∷ [])

-- In at most three variables, the test whether such polynomials, as a-b, b-c, are a tropical basis stays within its limits: the prevariety, the run for
-- the first basis, the search, and the faces of each cone of the prevariety, by whatever differences of exponents it is given, and each basis. The budget
-- is that of a list with one member more than there are variables.
abbrev pub BasisTestsOfDifferencesStayWithinLimits : Type 0
BasisTestsOfDifferencesStayWithinLimits = (n : ℕ) (fs : List Terms) (budget : ℕ) → 1 ≤ n → n ≤ 3 → ((f : Terms) → Contains fs f → IsKeptDifference n f) →
    pairs_below (n + 1) ≤ budget → IsTestWithinLimits n fs budget
