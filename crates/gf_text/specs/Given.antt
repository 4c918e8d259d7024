-- What a reader gave, against what its machine reads.
use Rattle.std.specs.Prelude.{◌≡◌, ℕ, ◌<◌, ◌≤◌, true, false, Result, Ok, Err, List}
use Rattle.gf_text.specs.Machine.{Lexeme, Move, go, done, halt, Fault, IsFault, Reads}
use Rattle.gf_text.specs.RingText.{RingState}
use Rattle.gf_text.specs.Refusing.{refusal}
use Rattle.gf_text.specs.Tokens.{is_number, decimal_value}
use Rattle.gf_text.specs.declared.tokens.Number.{Number}
use Rattle.gf_text.specs.declared.tokens.Number.TheVariants as numbers
use Rattle.gf_text.specs.declared.error.Cause.{Cause}
use Rattle.gf_text.specs.declared.error.TextError.{TextError}
use Rattle.gf_text.specs.declared.error.TextError.TheVariants as errors
use Rattle.gf_text.specs.declared.ring_reader.RingStep.{RingStep}
use Rattle.gf_text.specs.declared.ring_reader.RingStep.TheVariants as steps

-- nothing is read, and this is the refusal of the fault
abbrev pub IsRefusedAs : {Y : Type 0} → TextError → Result Y Fault → Type 0
IsRefusedAs e read = (f : Fault) × (read ≡ Err f) × (refusal f ≡ e)

-- why a machine's text isn't read: a fault, or memory ran out
abbrev pub Fails : {Y : Type 0} → TextError → Result Y Fault → Type 0
Fails (errors.Overflow o) read = ⊥
Fails (errors.Exponent o) read = ⊥
Fails (errors.Syntax s) read = IsRefusedAs (errors.Syntax s) read
Fails (errors.TooWide place) read = IsRefusedAs (errors.TooWide place) read
Fails (errors.UnknownName place) read = IsRefusedAs (errors.UnknownName place) read
Fails (errors.TooManyVariables count) read = ⊥
Fails (errors.ZeroPolynomial set index) read = ⊥
Fails errors.Memory read = Unit {0}

-- A result, seen by view, is what is read, unless memory ran out.
abbrev pub ReturnsRead : {X Y : Type 0} → (X → Y) → Result X TextError → Result Y Fault → Type 0
ReturnsRead view (Ok x) read = read ≡ Ok (view x)
ReturnsRead view (Err e) read = Fails e read

-- No tokens at the front of these are a text of the grammar; the refusal names the place of the fault, and says which.
pub record IsNoText {Y : Type 0} (grammar : List (List ℕ) → Y → Type 0) (kind : List (List ℕ) → List ℕ → Cause → Type 0) (xs : List Lexeme) (end : ℕ)
    (e : TextError) : Type 0 where
  pub fault : Fault
  pub refused : refusal fault ≡ e
  pub place : IsFault grammar kind xs end fault
  pub none : (a : Y) (behind : ℕ) → Reads grammar xs a behind → ⊥

-- what a token is as a number up to a limit
abbrev pub IsNumberRead : Number → List ℕ → ℕ → Type 0
IsNumberRead numbers.None t limit = is_number t ≡ false
IsNumberRead numbers.Wide t limit = (is_number t ≡ true) × (limit < decimal_value t)
IsNumberRead (numbers.Within n) t limit = (is_number t ≡ true) × (decimal_value t ≡ n) × (n ≤ limit)

-- a step of the code, with the names behind it, as a move
abbrev pub ring_move : RingStep → List (List ℕ) → Move RingState (List (List ℕ))
ring_move (steps.Go place) names = go (place, names)
ring_move steps.Done names = done names
ring_move (steps.Halt cause) names = halt cause
