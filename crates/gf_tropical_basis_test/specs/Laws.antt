-- The theorem that a function of this crate names. Law: proofs/MonomialTests.antt.
use Rattle.std.specs.Prelude.{◌≡◌, ℕ, ◌<◌, ◌≤◌, ◌^◌, [], ◌∷◌, true}
use Rattle.gf_exponents_theory.specs.Exponents.{Exponents, entry}
use Rattle.gf_poly.specs.Polynomial.{HasVariables}
use Rattle.gf_buchberger.specs.Bases.{unit_monomial}
use Rattle.gf_rays.specs.Limits.{has_room}
use Rattle.gf_tropical.specs.Limits.{HaveExponentsUpTo}
use Rattle.gf_tropical_basis_test.specs.Limits.{IsTestWithinLimits}

-- the test of a single monomial with exponents up to b stays within its limits, for every budget, if there is room for a system without
-- inequalities. There is such room for three variables and exponents up to 3. The prevariety of a monomial has no cone
abbrev pub TestsOfMonomialsStayWithinLimits : Type 0
TestsOfMonomialsStayWithinLimits = (n b budget : ℕ) (e : Exponents) → 1 ≤ n → 1 ≤ b → HasVariables n (unit_monomial e) →
    HaveExponentsUpTo b (unit_monomial e ∷ []) → ((i : ℕ) → entry e i < 2 ^ 31) →
    has_room n b 0 ≡ true → IsTestWithinLimits n (unit_monomial e ∷ []) budget
