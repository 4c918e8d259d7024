-- The theorems on these generators that functions of this crate name.
use Rattle.std.specs.Prelude.{◌≡◌, ◌≢◌, ℕ, [], ◌∷◌, Contains}
use Rattle.gf_poly.specs.Polynomial.{Terms, HasVariables}
use Rattle.gf_binomials_theory.specs.Binomials.{AreBinomials}
use Rattle.gf_generated.specs.Generated.{difference, generated_set}

-- each is a difference of two monomials in four variables, without coefficients, and isn't zero; for 0 they are a - b, b - c and c - d, and for 1
-- a^2 - b^2, a^2*b^2*d^2 - c^3 and a^2*b*c^3 - d^3
pub record GeneratorsAreBinomials : Type 0 where
  pub binomials : (k : ℕ) → AreBinomials (generated_set k)
  pub variables : (k : ℕ) (f : Terms) → Contains (generated_set k) f → HasVariables 4 f
  pub nonzero : (k : ℕ) (f : Terms) → Contains (generated_set k) f → f ≢ []
  pub zero : generated_set 0 ≡
      difference (1 ∷ 0 ∷ 0 ∷ 0 ∷ []) (0 ∷ 1 ∷ 0 ∷ 0 ∷ [])
      ∷ difference (0 ∷ 1 ∷ 0 ∷ 0 ∷ []) (0 ∷ 0 ∷ 1 ∷ 0 ∷ [])
      ∷ difference (0 ∷ 0 ∷ 1 ∷ 0 ∷ []) (0 ∷ 0 ∷ 0 ∷ 1 ∷ [])
      ∷ []
  pub one : generated_set 1 ≡
      difference (2 ∷ 0 ∷ 0 ∷ 0 ∷ []) (0 ∷ 2 ∷ 0 ∷ 0 ∷ [])
      ∷ difference (2 ∷ 2 ∷ 0 ∷ 2 ∷ []) (0 ∷ 0 ∷ 3 ∷ 0 ∷ [])
      ∷ difference (2 ∷ 1 ∷ 3 ∷ 0 ∷ []) (0 ∷ 0 ∷ 0 ∷ 3 ∷ [])
      ∷ []
