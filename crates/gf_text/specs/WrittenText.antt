-- What texts of sets mean, and that printed sets are read again.
use Rattle.std.specs.Prelude.{◌≡◌, ℕ, ◌+◌, ◌<◌, ◌^◌, true, All, List, [], ◌∷◌, ◌++◌, length, flat_map}
use Rattle.std.specs.List.{list_all}
use Rattle.gf_int_theory.specs.Range.{InRange}
use Rattle.gf_poly.specs.declared.Term.{Term}
use Rattle.gf_poly.specs.Polynomial.{Terms, HasVariables}
use Rattle.gf_poly.specs.Marking.{MarkedPolynomial, MarkedPolynomials, HasMarkedTerm}
use Rattle.gf_text.specs.declared.error.TextError.{TextError}
use Rattle.gf_text.specs.declared.error.TextError.TheVariants as errors
use Rattle.gf_text.specs.declared.written.Written.{Written}
use Rattle.gf_text.specs.declared.written.Written.TheVariants as written
use Rattle.gf_text.specs.Machine.{HasOneMeaning}
use Rattle.gf_text.specs.Tokens.{is_space, Position}
use Rattle.gf_text.specs.RingText.{IsRing}
use Rattle.gf_text.specs.SetText.{IsSetText}
use Rattle.gf_text.specs.PrintedSets.{polynomial_text, basis_text}
use Rattle.gf_text.specs.Sets.{IsSetRead, IsSetCause, IsMarkedRead, IsMarkedCause}

-- a text is the text of one set at most
abbrev pub SetsHaveOneMeaning : Type 0
SetsHaveOneMeaning = (ring : List (List ℕ)) → IsRing ring → HasOneMeaning (IsSetText ring)

-- At a place of a source a set is read in one way at most, and where it is read it is refused but for memory.
pub record SetsAreReadInOneWay : Type 0 where
  pub same : (ring : List (List ℕ)) (old : Position) (place end : ℕ) (ws vs : List Written) → IsSetRead ring old place ws → IsSetRead ring old end vs →
      (end ≡ place) × (vs ≡ ws)
  pub taken : (ring : List (List ℕ)) (old : Position) (place : ℕ) (ws : List Written) (e : TextError) → IsRing ring → IsSetRead ring old place ws →
      IsSetCause ring old e → e ≡ errors.Memory

-- ---- what the program keeps

-- a term whose coefficient has two numbers of at most 2^127 - 1, and whose exponents are at most 2^31 - 1
pub record IsTermInRange (t : Term) : Type 0 where
  pub numerator : InRange t.coef.num
  pub denominator : t.coef.den < 2 ^ 127
  pub exponents : All (λ e. e < 2 ^ 31) t.mono

-- each term of a polynomial is in range
abbrev pub AreInRange : Terms → Type 0
AreInRange [] = Unit {0}
AreInRange (t ∷ f) = IsTermInRange t × AreInRange f

-- a marked polynomial in n variables, in range
pub record IsKeptMarked (n : ℕ) (m : MarkedPolynomial) : Type 0 where
  pub marked : HasMarkedTerm m
  pub variables : HasVariables n m.poly
  pub range : AreInRange m.poly

-- the polynomial is zero, or one of these
abbrev pub IsWrittenKept : ℕ → Written → Type 0
IsWrittenKept n written.Zero = Unit {0}
IsWrittenKept n (written.Nonzero m) = IsKeptMarked n m

-- each of them is
abbrev pub AreWrittenKept : ℕ → List Written → Type 0
AreWrittenKept n [] = Unit {0}
AreWrittenKept n (w ∷ ws) = IsWrittenKept n w × AreWrittenKept n ws

-- each marked polynomial of the list is in n variables and in range
abbrev pub AreKept : ℕ → List MarkedPolynomial → Type 0
AreKept n [] = Unit {0}
AreKept n (m ∷ ms) = IsKeptMarked n m × AreKept n ms

-- ---- printed sets

-- polynomials with a comma and this white space between them
abbrev pub polynomials_text : List ℕ → List (List ℕ) → List Written → List ℕ
polynomials_text gap names [] = []
polynomials_text gap names (w ∷ ws) = polynomial_text names w ++ flat_map (λ v. 44 ∷ (gap ++ polynomial_text names v)) ws

-- printed polynomials as a set: a brace and this white space, the polynomials, a brace
abbrev pub set_text : List ℕ → List (List ℕ) → List Written → List ℕ
set_text gap names ws = (123 ∷ (gap ++ polynomials_text gap names ws)) ++ 125 ∷ []

-- From this position the reader reads these polynomials and no others, and goes to this place; it refuses nothing but
-- for memory.
pub record IsReadAs (ring : List (List ℕ)) (old : Position) (place : ℕ) (ws : List Written) : Type 0 where
  pub read : IsSetRead ring old place ws
  pub only : (end : ℕ) (vs : List Written) → IsSetRead ring old end vs → (end ≡ place) × (vs ≡ ws)
  pub taken : (e : TextError) → IsSetCause ring old e → e ≡ errors.Memory

-- Printed polynomials that stand as a set anywhere in a text are read as what they are, with their marks, whatever
-- follows them.
abbrev pub SetsAreReadAgain : Type 0
SetsAreReadAgain = (ring : List (List ℕ)) (gap : List ℕ) (ws : List Written) (before text : List ℕ)
    → IsRing ring → list_all is_space gap ≡ true → AreWrittenKept (length ring) ws
    → IsReadAs ring (record { source = before ++ (set_text gap ring ws ++ text); at = length before }) (length before + length (set_text gap ring ws)) ws

-- the same of a marked set
pub record IsReadAsMarked (ring : List (List ℕ)) (old : Position) (place : ℕ) (s : MarkedPolynomials) : Type 0 where
  pub read : IsMarkedRead ring old place s
  pub only : (end : ℕ) (r : MarkedPolynomials) → IsMarkedRead ring old end r → (end ≡ place) × (r ≡ s)
  pub taken : (e : TextError) → IsMarkedCause ring old e → e ≡ errors.Memory

-- A printed basis that stands anywhere in a text is read as what it is, with its marks, whatever follows it.
abbrev pub BasesAreReadAgain : Type 0
BasesAreReadAgain = (ring : List (List ℕ)) (ms : List MarkedPolynomial) (before text : List ℕ)
    → IsRing ring → AreKept (length ring) ms
    → IsReadAsMarked ring (record { source = before ++ (basis_text ring ms ++ text); at = length before }) (length before + length (basis_text ring ms))
    (record { variables = length ring; items = ms })
