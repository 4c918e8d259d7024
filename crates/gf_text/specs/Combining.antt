-- From what a text of a set says to polynomials: products of powers, sums of terms, and the marked term.
-- The exponents of equal variables of a term are added from the left; like terms are added; the first term, as written,
-- that remains is marked.
-- Laws: proofs/CombiningLaws.antt.
use Rattle.std.specs.Prelude.{◌≡◌, ◌≢◌, ℕ, pos, ◌+◌, ◌-◌, ◌^◌, ◌<◌, Bool, true, false, nat_lt, List, [], ◌∷◌, Option, Some, IfSome, MatchOption, Result, Ok}
use Rattle.std.specs.Prelude.{Err, slice_get, slice_index, slice_set, replicate, if◌then◌else◌}
use Rattle.gf_frac.specs.Fraction.{Fraction, over, zero_ℚ, neg_ℚ}
use Rattle.gf_exponents_theory.specs.Exponents.{Exponents}
use Rattle.gf_poly.specs.declared.Term.{Term}
use Rattle.gf_poly.specs.declared.monomial.ExponentOverflow.{ExponentOverflow}
use Rattle.gf_poly.specs.Polynomial.{Terms, coefficient, SamePolynomial, IsDescending, HasVariables, KeepsVariables}
use Rattle.gf_poly.specs.Marking.{MarkedPolynomial}
use Rattle.gf_text.specs.declared.tree.Factor.{Factor}
use Rattle.gf_text.specs.declared.tree.WrittenTerm.{WrittenTerm}

-- ---- terms

-- a monomial times a power of a variable, where the exponent stays within 2^31 - 1
abbrev pub raised_by : Exponents → Factor → Result Exponents ExponentOverflow
raised_by x f = if nat_lt (slice_index x f.variable + f.exponent) (2 ^ 31) then Ok (slice_set x f.variable (slice_index x f.variable + f.exponent))
    else Err (record { left = slice_index x f.variable; right = f.exponent })

-- what comes next, where a monomial came of the factors so far
abbrev pub then_factors : Result Exponents ExponentOverflow → (Exponents → Result Exponents ExponentOverflow) → Result Exponents ExponentOverflow
then_factors (Ok x) next = next x
then_factors (Err o) next = Err o

-- a monomial times powers, one after another
abbrev pub times_factors : Exponents → List Factor → Result Exponents ExponentOverflow
times_factors x [] = Ok x
times_factors x (f ∷ fs) = then_factors (raised_by x f) (λ y. times_factors y fs)

-- a fraction, or its negative
abbrev pub signed_fraction : Bool → Fraction → Fraction
signed_fraction true c = neg_ℚ c
signed_fraction false c = c

-- the coefficient that is written: the rational number with its sign
abbrev pub coefficient_of : WrittenTerm → Fraction
coefficient_of u = signed_fraction u.minus (over (pos u.numer) (u.denom - 1))

-- the term of a coefficient and a monomial, where there is one
abbrev pub with_coefficient : Fraction → Result Exponents ExponentOverflow → Result Term ExponentOverflow
with_coefficient c (Ok x) = Ok (record { coef = c; mono = x })
with_coefficient c (Err o) = Err o

-- the monomial that is written, in n variables
abbrev pub exponents_of : ℕ → WrittenTerm → Result Exponents ExponentOverflow
exponents_of n u = times_factors (replicate n 0) u.factors

-- the term that is written, in n variables
abbrev pub term_written : ℕ → WrittenTerm → Result Term ExponentOverflow
term_written n u = with_coefficient (coefficient_of u) (exponents_of n u)

-- an element before others, where neither is refused
abbrev pub before_all : {A : Type 0} → Result A ExponentOverflow → Result (List A) ExponentOverflow → Result (List A) ExponentOverflow
before_all (Ok x) (Ok xs) = Ok (x ∷ xs)
before_all (Ok x) (Err o) = Err o
before_all (Err o) others = Err o

-- the terms that are written, or the first refusal
abbrev pub terms_written : ℕ → List WrittenTerm → Result Terms ExponentOverflow
terms_written n [] = Ok []
terms_written n (u ∷ us) = before_all (term_written n u) (terms_written n us)

-- the same of each polynomial
abbrev pub sums_of : ℕ → List (List WrittenTerm) → Result (List Terms) ExponentOverflow
sums_of n [] = Ok []
sums_of n (q ∷ qs) = before_all (terms_written n q) (sums_of n qs)

-- each exponent of these terms stays within its limit
abbrev pub WrittenExponentsFit : ℕ → List WrittenTerm → Type 0
WrittenExponentsFit n us = (f : Terms) × (terms_written n us ≡ Ok f)

-- each sum has n variables
abbrev pub SumsHaveVariables : ℕ → List Terms → Type 0
SumsHaveVariables n [] = Unit {0}
SumsHaveVariables n (f ∷ fs) = HasVariables n f × SumsHaveVariables n fs

-- ---- what remains of a sum of terms

-- no term remains: the coefficient at the monomial of each is zero
abbrev pub NoneRemains : Terms → Type 0
NoneRemains f = (k : ℕ) → IfSome (slice_get f k) (λ t. coefficient f t.mono ≡ zero_ℚ)

-- x is the monomial of the first term, as written, that remains
pub record IsFirstRemaining (f : Terms) (x : Exponents) : Type 0 where
  pub at : ℕ
  pub term : Term
  pub stands : slice_get f at ≡ Some term
  pub monomial : term.mono ≡ x
  pub remains : coefficient f x ≢ zero_ℚ
  pub before : (k : ℕ) → k < at → IfSome (slice_get f k) (λ t. coefficient f t.mono ≡ zero_ℚ)

-- i is the place of the monomial x in f, where its coefficient isn't zero
pub record IsPlaceOf (f : Terms) (x : Exponents) (i : ℕ) : Type 0 where
  pub term : Term
  pub stands : slice_get f i ≡ Some term
  pub monomial : term.mono ≡ x
  pub nonzero : coefficient f x ≢ zero_ℚ

-- i is the place in the sum g of the first term of f that remains
pub record IsFirstRemainingAt (f g : Terms) (i : ℕ) : Type 0 where
  pub term : Term
  pub stands : slice_get g i ≡ Some term
  pub first : IsFirstRemaining f term.mono

-- g is the sum of the terms that are written
abbrev pub IsSumOf : ℕ → List WrittenTerm → Terms → Type 0
IsSumOf n us g = (f : Terms) → terms_written n us ≡ Ok f → SamePolynomial g f

-- the place, in the sum g of the terms that are written, of the first that remains; or none remains
abbrev pub FindsFirst : ℕ → List WrittenTerm → Terms → Option ℕ → Type 0
FindsFirst n us g place = (f : Terms) → terms_written n us ≡ Ok f → MatchOption place (NoneRemains f) (IsFirstRemainingAt f g)

-- m is the sum of the terms of f, marked at the first that remains
pub record IsSumMarked (f : Terms) (m : MarkedPolynomial) : Type 0 where
  pub sum : SamePolynomial m.poly f
  pub descending : IsDescending m.poly
  pub variables : KeepsVariables f m.poly
  pub marked : IsFirstRemaining f m.head
