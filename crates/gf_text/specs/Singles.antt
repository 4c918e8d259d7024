-- Dimensions and names of new variables as they are read.
use Rattle.std.specs.Prelude.{ℕ, ◌≤◌, ◌<◌, List, length}
use Rattle.gf_text.specs.declared.TheConstants.{MOST_VARIABLES}
use Rattle.gf_text.specs.declared.error.TextError.{TextError}
use Rattle.gf_text.specs.declared.error.TextError.TheVariants as errors
use Rattle.gf_text.specs.Machine.{Reads}
use Rattle.gf_text.specs.Tokens.{lexemes, word_more, Position}
use Rattle.gf_text.specs.Kinds.{IsNumberKind}
use Rattle.gf_text.specs.SingleText.{IsDimensionText, IsNewNameText, IsNewNameKind}
use Rattle.gf_text.specs.Given.{IsNoText}

-- this dimension is read, and the reader goes to this place
pub record IsDimensionRead (old : Position) (place n : ℕ) : Type 0 where
  pub text : Reads IsDimensionText (lexemes word_more old.source old.at) n place
  pub few : n ≤ MOST_VARIABLES

-- no dimension's text stands there, and the fault is of this kind
abbrev pub HasNoDimension : Position → TextError → Type 0
HasNoDimension old e = IsNoText IsDimensionText (IsNumberKind IsDimensionText) (lexemes word_more old.source old.at) (length old.source) e

-- a dimension's text stands there, and it is this one, more than MOST_VARIABLES
pub record HasGreatDimension (old : Position) (count : ℕ) : Type 0 where
  pub place : ℕ
  pub text : Reads IsDimensionText (lexemes word_more old.source old.at) count place
  pub many : MOST_VARIABLES < count

-- why a dimension is refused
abbrev pub IsDimensionCause : Position → TextError → Type 0
IsDimensionCause old (errors.Overflow o) = ⊥
IsDimensionCause old (errors.Exponent o) = ⊥
IsDimensionCause old (errors.Syntax s) = HasNoDimension old (errors.Syntax s)
IsDimensionCause old (errors.TooWide place) = HasNoDimension old (errors.TooWide place)
IsDimensionCause old (errors.UnknownName place) = ⊥
IsDimensionCause old (errors.TooManyVariables count) = HasGreatDimension old count
IsDimensionCause old (errors.ZeroPolynomial set index) = ⊥
IsDimensionCause old errors.Memory = ⊥

-- this name, which isn't one of these, is read, and the reader goes to this place
abbrev pub IsNameRead : List (List ℕ) → Position → ℕ → List ℕ → Type 0
IsNameRead names old place n = Reads (IsNewNameText names) (lexemes word_more old.source old.at) n place

-- no text of a new name stands there, and the fault is of this kind
abbrev pub HasNoName : List (List ℕ) → Position → TextError → Type 0
HasNoName names old e = IsNoText (IsNewNameText names) (IsNewNameKind names) (lexemes word_more old.source old.at) (length old.source) e

-- why a name is refused
abbrev pub IsNameCause : List (List ℕ) → Position → TextError → Type 0
IsNameCause names old (errors.Overflow o) = ⊥
IsNameCause names old (errors.Exponent o) = ⊥
IsNameCause names old (errors.Syntax s) = HasNoName names old (errors.Syntax s)
IsNameCause names old (errors.TooWide place) = ⊥
IsNameCause names old (errors.UnknownName place) = ⊥
IsNameCause names old (errors.TooManyVariables count) = ⊥
IsNameCause names old (errors.ZeroPolynomial set index) = ⊥
IsNameCause names old errors.Memory = ⊥
