-- Reading by a machine, token by token.
-- A machine has states, and at a token it goes on, is done, or can't take it. `run` reads the tokens of a text with
-- their places; `after` says what the machine does at some tokens, whatever their places are.
-- Laws: proofs/MachineLaws.antt.
use Rattle.std.specs.Prelude.{◌≡◌, ℕ, ◌+◌, Result, Ok, Err, List, [], ◌∷◌, ◌++◌, length, map}
use Rattle.gf_text.specs.declared.error.Cause.{Cause}
use Rattle.gf_text.specs.declared.error.Cause.TheVariants.{Ended, Unexpected, RepeatedName, ZeroDenominator, TooWide, UnknownName}

-- a token: its text, and the place of its first byte
pub record Lexeme : Type 0 where
  pub text : List ℕ
  pub at : ℕ

-- the place behind a token
abbrev pub behind : Lexeme → ℕ
behind x = x.at + length x.text

-- the texts of tokens
abbrev pub texts : List Lexeme → List (List ℕ)
texts xs = map (λ (x : Lexeme). x.text) xs

-- the place behind tokens, and d where there is none
abbrev pub behind_all : ℕ → List Lexeme → ℕ
behind_all d [] = d
behind_all d (x ∷ xs) = behind_all (behind x) xs

-- what a machine does at a token: it goes on, is done behind it, or can't take it
pub data Move (S A : Type 0) : Type 0 where
  go : S → Move S A
  done : A → Move S A
  halt : Cause → Move S A

-- where reading stopped, and why
pub record Fault : Type 0 where
  pub at : ℕ
  pub cause : Cause

module _ {S A : Type 0} where
  -- what is read at a token, by the move there
  abbrev pub moved : Move S A → Lexeme → (S → Result (A × ℕ) Fault) → Result (A × ℕ) Fault
  moved (go s) x next = next s
  moved (done a) x next = Ok (a, behind x)
  moved (halt cause) x next = Err (record { at = x.at; cause = cause })

  -- what the machine reads from a state on, and the place behind it; the text ends at the place `end`
  unfoldable pub run : (S → List ℕ → Move S A) → S → ℕ → List Lexeme → Result (A × ℕ) Fault
  run step s end [] = Err (record { at = end; cause = Ended })
  run step s end (x ∷ xs) = moved (step s x.text) x (λ t. run step t end xs)

  -- the move at a token, and what follows it; behind the end nothing can stand
  abbrev pub followed : Move S A → List (List ℕ) → (S → Move S A) → Move S A
  followed (go s) ts next = next s
  followed (done a) [] next = done a
  followed (done a) (t ∷ ts) next = halt Unexpected
  followed (halt cause) ts next = halt cause

  -- what the machine does at tokens with these texts
  unfoldable pub after : (S → List ℕ → Move S A) → S → List (List ℕ) → Move S A
  after step s [] = go s
  after step s (t ∷ ts) = followed (step s t) ts (λ u. after step u ts)

-- A grammar holds of the first of these tokens and the meaning a, and the place behind them is this one.
pub record Reads {A : Type 0} (grammar : List (List ℕ) → A → Type 0) (xs : List Lexeme) (a : A) (place : ℕ) : Type 0 where
  pub front : List Lexeme
  pub back : List Lexeme
  pub whole : xs ≡ front ++ back
  pub text : grammar (texts front) a
  pub end : behind_all 0 front ≡ place

-- these tokens go on to a text of the grammar
abbrev pub GoesOnToText : {A : Type 0} → (List (List ℕ) → A → Type 0) → List (List ℕ) → Type 0
GoesOnToText {A} grammar ts = (later : List (List ℕ)) × (a : A) × grammar (ts ++ later) a

-- At this place stands the first token after which nothing goes on: what stands before it goes on to a text of the
-- grammar, and with it never does. `kind` says of the texts before a token, of its text and of a cause whether the fault
-- there is of this cause.
pub record StandsAt {A : Type 0} (grammar : List (List ℕ) → A → Type 0) (kind : List (List ℕ) → List ℕ → Cause → Type 0) (xs : List Lexeme) (place : ℕ)
    (cause : Cause) : Type 0 where
  pub front : List Lexeme
  pub token : Lexeme
  pub back : List Lexeme
  pub whole : xs ≡ front ++ token ∷ back
  pub at : token.at ≡ place
  pub before : GoesOnToText grammar (texts front)
  pub never : GoesOnToText grammar (texts front ++ token.text ∷ []) → ⊥
  pub of_kind : kind (texts front) token.text cause

-- what a fault of this cause at this place says: the text ends too early, and all of it goes on; or the place is that of
-- the first token after which nothing goes on, and the fault is of this kind
abbrev pub IsFaultAt : {A : Type 0} → (List (List ℕ) → A → Type 0) → (List (List ℕ) → List ℕ → Cause → Type 0) → List Lexeme → ℕ → ℕ → Cause → Type 0
IsFaultAt grammar kind xs end place Ended = (place ≡ end) × GoesOnToText grammar (texts xs)
IsFaultAt grammar kind xs end place Unexpected = StandsAt grammar kind xs place Unexpected
IsFaultAt grammar kind xs end place RepeatedName = StandsAt grammar kind xs place RepeatedName
IsFaultAt grammar kind xs end place ZeroDenominator = StandsAt grammar kind xs place ZeroDenominator
IsFaultAt grammar kind xs end place TooWide = StandsAt grammar kind xs place TooWide
IsFaultAt grammar kind xs end place UnknownName = StandsAt grammar kind xs place UnknownName

-- what a fault says of these tokens, where the text ends at the place `end`
abbrev pub IsFault : {A : Type 0} → (List (List ℕ) → A → Type 0) → (List (List ℕ) → List ℕ → Cause → Type 0) → List Lexeme → ℕ → Fault → Type 0
IsFault grammar kind xs end f = IsFaultAt grammar kind xs end f.at f.cause

-- the same tokens have at most one meaning, and one place behind it
abbrev pub HasOneMeaning : {A : Type 0} → (List (List ℕ) → A → Type 0) → Type 0
HasOneMeaning {A} grammar = (xs : List Lexeme) (a b : A) (place other : ℕ) → Reads grammar xs a place → Reads grammar xs b other → (a ≡ b) × (place ≡ other)
