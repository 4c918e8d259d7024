-- Tokens as they are read, one by one.
use Rattle.std.specs.Prelude.{◌≡◌, ℕ, ◌≤◌, ◌<◌, ◌-◌, true, false, List, [], ◌∷◌, take, drop, length}
use Rattle.gf_text.specs.declared.error.Kind.{Kind}
use Rattle.gf_text.specs.declared.error.Kind.TheVariants as kinds
use Rattle.gf_text.specs.declared.error.TextError.{TextError}
use Rattle.gf_text.specs.declared.error.TextError.TheVariants as errors
use Rattle.gf_text.specs.Machine.{Lexeme}
use Rattle.gf_text.specs.Tokens.{lexemes, word_more, begins_token, Position}

-- the token with this text that begins at `at` is the next one, and the reader goes to this place, behind it
pub record IsTokenRead (old : Position) (place : ℕ) (text : List ℕ) (at : ℕ) : Type 0 where
  pub next : lexemes word_more old.source old.at ≡ record { text = text; at = at } ∷ lexemes word_more old.source place
  pub slice : text ≡ take (place - at) (drop at old.source)
  pub begins : old.at ≤ at
  pub rises : at < place
  pub within : place ≤ length old.source
  pub known : begins_token text ≡ true

-- what begins next begins no token
pub record IsNoToken (old : Position) (place : ℕ) : Type 0 where
  pub first : Lexeme
  pub others : List Lexeme
  pub next : lexemes word_more old.source old.at ≡ first ∷ others
  pub unknown : begins_token first.text ≡ false
  pub at : place ≡ first.at

-- what a refusal of this kind at this place says: no token follows, and the place is the length of the source; or a byte
-- stands there that begins no token
abbrev pub HasNoToken : Position → ℕ → Kind → Type 0
HasNoToken old place kinds.Ended = (lexemes word_more old.source old.at ≡ []) × (place ≡ length old.source)
HasNoToken old place kinds.Unexpected = IsNoToken old place
HasNoToken old place kinds.RepeatedName = ⊥
HasNoToken old place kinds.ZeroDenominator = ⊥

-- why no token is read
abbrev pub IsTokenCause : Position → TextError → Type 0
IsTokenCause old (errors.Overflow o) = ⊥
IsTokenCause old (errors.Exponent o) = ⊥
IsTokenCause old (errors.Syntax s) = HasNoToken old s.at s.kind
IsTokenCause old (errors.TooWide place) = ⊥
IsTokenCause old (errors.UnknownName place) = ⊥
IsTokenCause old (errors.TooManyVariables count) = ⊥
IsTokenCause old (errors.ZeroPolynomial set index) = ⊥
IsTokenCause old errors.Memory = ⊥
