-- Polynomials none of whose monomials divides another one of theirs, as homogeneous ones are. Laws: proofs/PrincipalRuns.antt.
use Rattle.std.specs.Prelude.{◌≡◌, ℕ, ◌<◌, ◌^◌, true, []}
use Rattle.gf_exponents_theory.specs.Exponents.{Exponents, entry, same, plus}
use Rattle.gf_poly.specs.Polynomial.{Terms}
use Rattle.gf_ideal_theory.specs.Membership.{HasMonomial}

-- where u times a monomial of f is one of f, u is 1
pub record IsAntichain (f : Terms) : Type 0 where
  pub apart : (u x y : Exponents) → HasMonomial f x → HasMonomial f y → same y (plus u x) ≡ true → same u [] ≡ true

-- the exponents of f are below 2^31
abbrev pub HasShortExponents : Terms → Type 0
HasShortExponents f = (x : Exponents) → HasMonomial f x → (i : ℕ) → entry x i < 2 ^ 31
