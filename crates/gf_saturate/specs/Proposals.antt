-- Vectors that are proposed: differences of two monomials in the saturation, which runs may start from beside the polynomials that are given.
-- Laws: proofs/ProposalLaws.antt.
use Rattle.std.specs.Prelude.{◌≡◌, ℕ, List, [], ◌∷◌, Contains, length}
use Rattle.gf_frac.specs.Fraction.{neg_ℚ, one_ℚ}
use Rattle.gf_exponents_theory.specs.Exponents.{Exponents, plus}
use Rattle.gf_poly.specs.Polynomial.{Terms, KeepsVariables, SamePolynomial}
use Rattle.gf_buchberger.specs.Tasks.{HaveRingVariables}
use Rattle.gf_saturation_theory.specs.Saturations.{IsSaturated}
use Rattle.gf_quotients_theory.specs.Ways.{difference}
use Rattle.gf_saturate.specs.declared.vectors.Vector.{Vector}

-- x less y is in the saturation of the ideal of fs by the product of n variables
pub record IsProposed (n : ℕ) (fs : List Terms) (x y : Exponents) : Type 0 where
  pub first : length x ≡ n
  pub second : length y ≡ n
  pub inside : IsSaturated n fs (difference x y)

-- so is the difference that the vector stands for
abbrev pub IsProposal : ℕ → List Terms → Vector → Type 0
IsProposal n fs v = IsProposed n fs v.first v.second

-- so is that of each
abbrev pub AreProposals : ℕ → List Terms → List Vector → Type 0
AreProposals n fs vs = (v : Vector) → Contains vs v → IsProposal n fs v

-- v is the vector of x and y, both divided by one monomial
pub record IsDivided (x y : Exponents) (v : Vector) : Type 0 where
  pub by : Exponents
  pub long : length by ≡ length x
  pub first_long : length v.first ≡ length x
  pub second_long : length v.second ≡ length x
  pub first : plus by v.first ≡ x
  pub second : plus by v.second ≡ y

-- f is the difference that the vector stands for, or its negative
pub data IsVectorOf (f : Terms) (v : Vector) : Type 0 where
  same : f ≡ difference v.first v.second → IsVectorOf f v
  turned : f ≡ record { coef = neg_ℚ one_ℚ; mono = v.second } ∷ record { coef = one_ℚ; mono = v.first } ∷ [] → IsVectorOf f v

-- f is that difference, in the variables of both monomials
pub record IsWritten (v : Vector) (f : Terms) : Type 0 where
  pub equal : SamePolynomial f (difference v.first v.second)
  pub variables : KeepsVariables (difference v.first v.second) f

-- hs are in n variables and in the saturation of fs, and have all of fs: so both have one saturation
pub record IsStart (n : ℕ) (fs hs : List Terms) : Type 0 where
  pub ring : HaveRingVariables n hs
  pub inside : (h : Terms) → Contains hs h → IsSaturated n fs h
  pub given : (f : Terms) → Contains fs f → Contains hs f
