-- Rings as they are read.
use Rattle.std.specs.Prelude.{◌≡◌, ℕ, ◌<◌, ◌+◌, ◌++◌, List, length}
use Rattle.gf_text.specs.declared.TheConstants.{MOST_VARIABLES}
use Rattle.gf_text.specs.declared.error.TextError.{TextError}
use Rattle.gf_text.specs.declared.error.TextError.TheVariants as errors
use Rattle.gf_text.specs.Machine.{Reads}
use Rattle.gf_text.specs.Tokens.{lexemes, word_more, Position}
use Rattle.gf_text.specs.RingText.{IsRing, IsRingText, ring_words}
use Rattle.gf_text.specs.RingKinds.{IsRingKind}
use Rattle.gf_text.specs.Given.{IsNoText}

-- the ring of these names is read, and the reader goes to this place
pub record IsRingRead (old : Position) (place : ℕ) (names : List (List ℕ)) : Type 0 where
  pub text : Reads IsRingText (lexemes word_more old.source old.at) names place
  pub ring : IsRing names

-- no ring's text stands there, and the fault is of this kind
abbrev pub HasNoRing : Position → TextError → Type 0
HasNoRing old e = IsNoText IsRingText IsRingKind (lexemes word_more old.source old.at) (length old.source) e

-- a ring's text stands there, and it has so many names, more than MOST_VARIABLES
pub record HasTooMany (old : Position) (count : ℕ) : Type 0 where
  pub names : List (List ℕ)
  pub place : ℕ
  pub text : Reads IsRingText (lexemes word_more old.source old.at) names place
  pub number : length names ≡ count
  pub many : MOST_VARIABLES < count

-- why a ring is refused
abbrev pub IsRingCause : Position → TextError → Type 0
IsRingCause old (errors.Overflow o) = ⊥
IsRingCause old (errors.Exponent o) = ⊥
IsRingCause old (errors.Syntax s) = HasNoRing old (errors.Syntax s)
IsRingCause old (errors.TooWide place) = ⊥
IsRingCause old (errors.UnknownName place) = ⊥
IsRingCause old (errors.TooManyVariables count) = HasTooMany old count
IsRingCause old (errors.ZeroPolynomial set index) = ⊥
IsRingCause old errors.Memory = Unit {0}

-- From this position the reader reads the ring of these names and no other, and goes to this place; it refuses nothing but
-- for memory.
pub record IsReadAsRing (old : Position) (place : ℕ) (names : List (List ℕ)) : Type 0 where
  pub read : IsRingRead old place names
  pub only : (end : ℕ) (ns : List (List ℕ)) → IsRingRead old end ns → (end ≡ place) × (ns ≡ names)
  pub taken : (e : TextError) → IsRingCause old e → e ≡ errors.Memory

-- A ring that stands anywhere in a text is read as what it is, whatever follows it.
abbrev pub RingsAreReadAgain : Type 0
RingsAreReadAgain = (names : List (List ℕ)) (before text : List ℕ) → IsRing names
    → IsReadAsRing (record { source = before ++ (ring_words names ++ text); at = length before }) (length before + length (ring_words names)) names
