-- S-polynomials of marked polynomials with any marked coefficients: those of their monic forms.
-- Laws: proofs/SPolynomialLaws.antt. Source: Cox, Little, O'Shea, Ideals, Varieties, and Algorithms, 2.6.
use Rattle.std.specs.Prelude.{◌≡◌, ◌⊎◌, ℕ, length}
use Rattle.gf_frac.specs.Fraction.{Fraction, one_ℚ}
use Rattle.gf_frac.specs.declared.refusal.Op.{Op}
use Rattle.gf_exponents_theory.specs.Exponents.{Exponents, plus, join}
use Rattle.gf_poly.specs.declared.error.PolyError.{PolyError}
use Rattle.gf_poly.specs.Refusals.{IsRefusedBy, NoOperation}
use Rattle.gf_poly.specs.Polynomial.{Terms, HasVariables, IsDescending, times}
use Rattle.gf_poly.specs.Marking.{MarkedPolynomial}
use Rattle.gf_ideal_theory.specs.Reduction.{IsSPolynomial}
use Rattle.gf_ideal_theory.specs.Operands.{IsShiftOperation, IsSPolynomialOperation, IsSPolynomialExponents}
use Rattle.gf_division.specs.MonicForms.{IsMadeMonic, IsDivisionByMark}

-- b and c have the same variables
pub record ArePairOf (n : ℕ) (b c : MarkedPolynomial) : Type 0 where
  pub left : HasVariables n b.poly
  pub right : HasVariables n c.poly

-- b and c have the same variables, so many of them
pub record SharePairVariables (b c : MarkedPolynomial) : Type 0 where
  pub n : ℕ
  pub are : ArePairOf n b c

-- s has the variables that b and c have
pub record KeepsPairVariables (b c : MarkedPolynomial) (s : Terms) : Type 0 where
  pub at : (n : ℕ) → ArePairOf n b c → HasVariables n s

-- b and c are f and g divided by their marked coefficients
pub record AreMadeMonic (f g b c : MarkedPolynomial) : Type 0 where
  pub left : IsMadeMonic f b
  pub right : IsMadeMonic g c

-- s is the S-polynomial of f and g: that of their monic forms
pub record IsSPolynomialOf (f g : MarkedPolynomial) (s : Terms) : Type 0 where
  pub left : MarkedPolynomial
  pub right : MarkedPolynomial
  pub monic : AreMadeMonic f g left right
  pub value : IsSPolynomial left right s

-- ---- refusals

-- of monic b and c: two coefficients at one monomial whose difference doesn't fit, or two exponents whose sum doesn't
abbrev pub IsMonicPairRefusal : MarkedPolynomial → MarkedPolynomial → PolyError → Type 0
IsMonicPairRefusal b c = IsRefusedBy (IsSPolynomialOperation b c) (IsSPolynomialExponents b c)

-- the operation is one of making f or g monic, or of the S-polynomial of their monic forms
abbrev pub IsPairOperation : MarkedPolynomial → MarkedPolynomial → Op → Fraction → Fraction → Type 0
IsPairOperation f g op left right = IsDivisionByMark f op left right ⊎ IsDivisionByMark g op left right ⊎ ((b : MarkedPolynomial) × (c : MarkedPolynomial) ×
    AreMadeMonic f g b c × IsSPolynomialOperation b c op left right)

-- the exponents are added in the S-polynomial of the monic forms of f and g
abbrev pub IsPairExponents : MarkedPolynomial → MarkedPolynomial → ℕ → ℕ → Type 0
IsPairExponents f g left right = (b : MarkedPolynomial) × (c : MarkedPolynomial) × AreMadeMonic f g b c × IsSPolynomialExponents b c left right

-- why the S-polynomial of f and g is refused: two numbers of such an operation don't fit
abbrev pub IsPairRefusal : MarkedPolynomial → MarkedPolynomial → PolyError → Type 0
IsPairRefusal f g = IsRefusedBy (IsPairOperation f g) (IsPairExponents f g)

-- ---- two multiples

-- u times x and v times y are the least common multiple of both, and have the variables of x
pub record AreLcmCofactors (x y u v : Exponents) : Type 0 where
  pub left : plus u x ≡ join x y
  pub right : plus v y ≡ join x y
  pub length_left : length u ≡ length x
  pub length_right : length v ≡ length x

-- h is f times the monomial u
pub record IsRaised (u : Exponents) (f h : Terms) : Type 0 where
  pub value : h ≡ times one_ℚ u f
  pub descending : IsDescending h

-- why f isn't raised by u: a sum of exponents that doesn't fit
abbrev pub IsRaisingRefusal : Exponents → Terms → PolyError → Type 0
IsRaisingRefusal u f = IsRefusedBy NoOperation (IsShiftOperation u f)
