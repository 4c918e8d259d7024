-- Homogenization by a new last variable, to the total degree of the polynomial.
-- Laws: proofs/HomogenizationLaws.antt.
-- Source: Cox, Little, O'Shea, Ideals, Varieties, and Algorithms, 8.2.
use Rattle.std.specs.Prelude.{◌≡◌, ℕ, ◌+◌, ◌-◌, ◌^◌, ◌<◌, ◌≤◌, All, List, [], ◌∷◌, ◌++◌, map}
use Rattle.std.specs.List.{AllZip}
use Rattle.gf_exponents_theory.specs.Exponents.{Exponents, degree}
use Rattle.gf_poly.specs.declared.Term.{Term}
use Rattle.gf_poly.specs.declared.monomial.ExponentOverflow.{ExponentOverflow}
use Rattle.gf_poly.specs.Polynomial.{Terms, SamePolynomial, IsDescending, HasVariables}
use Rattle.gf_poly.specs.Marking.{MarkedPolynomial}
use Rattle.gf_text.specs.declared.TheConstants.{MOST_VARIABLES}
use Rattle.gf_text.specs.declared.written.Written.{Written}
use Rattle.gf_text.specs.declared.written.Written.TheVariants as written
use Rattle.gf_small.specs.declared.homogenization.SmallError.{SmallError}
use Rattle.gf_small.specs.declared.homogenization.SmallError.TheVariants as errors
use Rattle.gf_small.specs.Degrees.{total_degree}

-- ---- of a polynomial of total degree d

-- the exponent of the new variable: d minus the degree of x
abbrev pub new_exponent : ℕ → Exponents → ℕ
new_exponent d x = d - degree x

-- x times that power of the new variable, which is the last one
abbrev pub filled : ℕ → Exponents → Exponents
filled d x = x ++ new_exponent d x ∷ []

-- the term t times that power of the new variable
abbrev pub filled_term : ℕ → Term → Term
filled_term d t = record { coef = t.coef; mono = filled d t.mono }

-- the homogenization of f: each term times the power of the new variable that brings it to the total degree of f
abbrev pub homogenized : Terms → Terms
homogenized f = map (filled_term (total_degree f)) f

-- c is the homogenization of b, marked at the term that the marked term of b becomes
pub record IsMarkedHomogenization (b c : MarkedPolynomial) : Type 0 where
  pub polynomial : SamePolynomial c.poly (homogenized b.poly)
  pub descending : IsDescending c.poly
  pub variables : (n : ℕ) → HasVariables n b.poly → HasVariables (n + 1) c.poly
  pub head : c.head ≡ filled (total_degree b.poly) b.head

-- the second is the homogenization of the first, where either may be zero: the homogenization of zero is zero
abbrev pub IsWrittenHomogenization : Written → Written → Type 0
IsWrittenHomogenization written.Zero written.Zero = Unit {0}
IsWrittenHomogenization written.Zero (written.Nonzero c) = ⊥
IsWrittenHomogenization (written.Nonzero b) written.Zero = ⊥
IsWrittenHomogenization (written.Nonzero b) (written.Nonzero c) = IsMarkedHomogenization b c

-- gs has the homogenization of each polynomial of fs, in their order
abbrev pub AreHomogenizations : List Written → List Written → Type 0
AreHomogenizations fs gs = AllZip IsWrittenHomogenization fs gs

-- ---- when the new exponents stay within the limit

-- the new exponents of a polynomial of total degree d are at most 2^31 - 1
abbrev pub ExponentsFit : ℕ → Terms → Type 0
ExponentsFit d f = All (λ t. new_exponent d t.mono < 2 ^ 31) f

-- the new exponents of a polynomial that may be zero are at most 2^31 - 1; zero has none
abbrev pub IsHomogenizedWithinLimit : Written → Type 0
IsHomogenizedWithinLimit written.Zero = Unit {0}
IsHomogenizedWithinLimit (written.Nonzero b) = ExponentsFit (total_degree b.poly) b.poly

-- the new exponent k passes the limit 2^31 - 1, and o has the limit and the difference of k and the limit
pub record IsExponentPastLimit (k : ℕ) (o : ExponentOverflow) : Type 0 where
  pub leaves : 2 ^ 31 ≤ k
  pub left : o.left ≡ 2 ^ 31 - 1
  pub right : o.right ≡ k - (2 ^ 31 - 1)

-- o is such a pair for the deglex greatest term of f whose new exponent passes the limit
pub record IsFirstPastLimit (d : ℕ) (f : Terms) (o : ExponentOverflow) : Type 0 where
  pub earlier : Terms
  pub term : Term
  pub later : Terms
  pub split : f ≡ earlier ++ term ∷ later
  pub before : ExponentsFit d earlier
  pub past : IsExponentPastLimit (new_exponent d term.mono) o

-- o is such a pair for a polynomial that may be zero; zero has none
abbrev pub IsWrittenPastLimit : Written → ExponentOverflow → Type 0
IsWrittenPastLimit written.Zero o = ⊥
IsWrittenPastLimit (written.Nonzero b) o = IsFirstPastLimit (total_degree b.poly) b.poly o

-- o is such a pair for the first polynomial of fs with a term whose new exponent passes the limit
pub record IsFirstExponentPastLimit (fs : List Written) (o : ExponentOverflow) : Type 0 where
  pub earlier : List Written
  pub polynomial : Written
  pub later : List Written
  pub split : fs ≡ earlier ++ polynomial ∷ later
  pub before : All IsHomogenizedWithinLimit earlier
  pub past : IsWrittenPastLimit polynomial o

-- why polynomials in n variables aren't homogenized: there would be more than MOST_VARIABLES; or there is room, and a new exponent passes
-- the limit; or memory runs out
abbrev pub IsHomogenizeCause : ℕ → List Written → SmallError → Type 0
IsHomogenizeCause n fs (errors.Exponent o) = (n < MOST_VARIABLES) × IsFirstExponentPastLimit fs o
IsHomogenizeCause n fs (errors.TooManyVariables count) = (MOST_VARIABLES < n + 1) × (count ≡ n + 1)
IsHomogenizeCause n fs errors.Memory = Unit {0}

-- ---- inside

-- the error has an exponent with the property P, or memory runs out
abbrev pub HasExponent : (ExponentOverflow → Type 0) → SmallError → Type 0
HasExponent P (errors.Exponent o) = P o
HasExponent P (errors.TooManyVariables count) = ⊥
HasExponent P errors.Memory = Unit {0}
