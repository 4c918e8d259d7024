-- The lists on the way to a saturation by all variables, where members may be divided by any monomials at any time.
use Rattle.std.specs.Prelude.{ℕ, List, [], ◌∷◌}
use Rattle.gf_frac.specs.Fraction.{neg_ℚ, one_ℚ}
use Rattle.gf_exponents_theory.specs.Exponents.{Exponents}
use Rattle.gf_poly.specs.Polynomial.{Terms}
use Rattle.gf_ideal_theory.specs.Membership.{AreInVariables, IsMember}
use Rattle.gf_saturation_theory.specs.Saturations.{IsSaturatedBy, IsSaturated}

-- a less b
abbrev pub difference : Exponents → Exponents → Terms
difference a b = record { coef = one_ℚ; mono = a } ∷ record { coef = neg_ℚ one_ℚ; mono = b } ∷ []

-- what gs generates is in the saturation of fs, and of each polynomial in that some power of v times it is in the ideal of gs: it is only
-- left to saturate by v
pub record IsOnTheWay (n : ℕ) (fs gs : List Terms) (v : Exponents) : Type 0 where
  pub ring : AreInVariables n gs
  pub inside : (f : Terms) → IsMember n gs f → IsSaturated n fs f
  pub left : (f : Terms) → IsSaturated n fs f → IsSaturatedBy n gs v f
