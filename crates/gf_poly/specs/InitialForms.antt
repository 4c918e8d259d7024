-- Initial forms: the terms of greatest weight, by whole weights of any sign.
-- Laws: proofs/InitialFormLaws.antt. Source: Sturmfels, Gröbner Bases and Convex Polytopes, 1.
use Rattle.std.specs.Prelude.{◌≡◌, ◌≢◌, ℤ, List, ◌<ℤ◌, ◌≤ℤ◌}
use Rattle.gf_frac.specs.Fraction.{zero_ℚ}
use Rattle.gf_exponents_theory.specs.Exponents.{Exponents, whole_weight}
use Rattle.gf_poly.specs.Polynomial.{Terms, coefficient}

-- no monomial of f weighs more than x
abbrev pub IsOfGreatestWeight : List ℤ → Terms → Exponents → Type 0
IsOfGreatestWeight w f x = (y : Exponents) → coefficient f y ≢ zero_ℚ → whole_weight w y ≤ℤ whole_weight w x

-- h is the initial form of f by w: it has the coefficient of f at each monomial of greatest weight, and 0 at each other
pub record IsInitialForm (w : List ℤ) (f h : Terms) : Type 0 where
  pub heaviest : (x : Exponents) → IsOfGreatestWeight w f x → coefficient h x ≡ coefficient f x
  pub lighter : (x y : Exponents) → coefficient f y ≢ zero_ℚ → whole_weight w x <ℤ whole_weight w y →
      coefficient h x ≡ zero_ℚ
