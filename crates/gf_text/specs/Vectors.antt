-- Vectors as they are read.
use Rattle.std.specs.Prelude.{◌≡◌, ℕ, ◌+◌, ◌++◌, List, length, All, ℤ}
use Rattle.gf_text.specs.declared.error.TextError.{TextError}
use Rattle.gf_text.specs.declared.error.TextError.TheVariants as errors
use Rattle.gf_text.specs.Machine.{Reads}
use Rattle.gf_text.specs.Tokens.{lexemes, word_more, Position}
use Rattle.gf_text.specs.VectorText.{IsVectorText, IsEntryWithin, vector_text}
use Rattle.gf_text.specs.Kinds.{IsNumberKind}
use Rattle.gf_text.specs.Given.{IsNoText}

-- the vector of these entries is read, and the reader goes to this place
abbrev pub IsVectorRead : Position → ℕ → List ℤ → Type 0
IsVectorRead old place zs = Reads IsVectorText (lexemes word_more old.source old.at) zs place

-- each entry is at most 2^63 - 1 in absolute value
abbrev pub AreEntriesWithin : List ℤ → Type 0
AreEntriesWithin zs = All IsEntryWithin zs

-- no vector's text stands there, and the fault is of this kind
abbrev pub HasNoVector : Position → TextError → Type 0
HasNoVector old e = IsNoText IsVectorText (IsNumberKind IsVectorText) (lexemes word_more old.source old.at) (length old.source) e

-- why a vector is refused
abbrev pub IsVectorCause : Position → TextError → Type 0
IsVectorCause old (errors.Overflow o) = ⊥
IsVectorCause old (errors.Exponent o) = ⊥
IsVectorCause old (errors.Syntax s) = HasNoVector old (errors.Syntax s)
IsVectorCause old (errors.TooWide place) = HasNoVector old (errors.TooWide place)
IsVectorCause old (errors.UnknownName place) = ⊥
IsVectorCause old (errors.TooManyVariables count) = ⊥
IsVectorCause old (errors.ZeroPolynomial set index) = ⊥
IsVectorCause old errors.Memory = Unit {0}

-- From this position the reader reads this vector and no other, and goes to this place; it refuses nothing but for memory.
pub record IsReadAsVector (old : Position) (place : ℕ) (zs : List ℤ) : Type 0 where
  pub read : IsVectorRead old place zs
  pub only : (end : ℕ) (ys : List ℤ) → IsVectorRead old end ys → (end ≡ place) × (ys ≡ zs)
  pub taken : (e : TextError) → IsVectorCause old e → e ≡ errors.Memory

-- A printed vector whose entries are at most 2^63 - 1 in absolute value is read again as what it is, wherever it stands and
-- whatever follows it.
abbrev pub VectorsAreReadAgain : Type 0
VectorsAreReadAgain = (zs : List ℤ) (before text : List ℕ) → AreEntriesWithin zs
    → IsReadAsVector (record { source = before ++ (vector_text zs ++ text); at = length before }) (length before + length (vector_text zs)) zs
