-- Lists of ray numbers, one a line between braces: what their text is, and the machine that reads it.
-- `AreConeTexts` is the grammar, `cone_step` the machine.
-- Laws: proofs/ConeTextLaws.antt.
use Rattle.std.specs.Prelude.{◌≡◌, ℕ, ◌-◌, ◌^◌, nat_le, List, [], ◌∷◌, ◌++◌, bytes_eq, if◌then◌else◌}
use Rattle.gf_text.specs.Machine.{Move, go, done, halt}
use Rattle.gf_text.specs.Marks.{brace, brace_end}
use Rattle.gf_text.specs.SetText.{IsNumberText}
use Rattle.gf_text.specs.Tokens.{is_number, decimal_value}
use Rattle.gf_text.specs.declared.error.Cause.TheVariants as cause
use Rattle.gf_fan_files.specs.Lines.{line_end, section_end}

-- the greatest number that is no entry of a row
abbrev pub most_number : ℕ
most_number = 2 ^ 63 - 1

-- ---- the grammar

-- numbers up to the brace and the end of the line
abbrev pub AreNumberTexts : List (List ℕ) → List ℕ → Type 0
AreNumberTexts ts [] = ts ≡ brace_end ∷ line_end ∷ []
AreNumberTexts ts (n ∷ ns) = (t : List ℕ) × (rest : List (List ℕ)) × (ts ≡ t ∷ rest) × IsNumberText t n most_number × AreNumberTexts rest ns

-- a list of numbers between braces, up to the end of its line
abbrev pub IsConeNumbersText : List (List ℕ) → List ℕ → Type 0
IsConeNumbersText ts ns = (rest : List (List ℕ)) × (ts ≡ brace ∷ rest) × AreNumberTexts rest ns

-- lists up to the end of their section
abbrev pub AreConeTexts : List (List ℕ) → List (List ℕ) → Type 0
AreConeTexts ts [] = ts ≡ section_end ∷ []
AreConeTexts ts (c ∷ cs) = (first : List (List ℕ)) × (rest : List (List ℕ)) × (ts ≡ first ++ rest) × IsConeNumbersText first c × AreConeTexts rest cs

-- ---- the machine

-- before a list, in it, or behind its brace
pub data ConePlace : Type 0 where
  before : ConePlace
  inside : List ℕ → ConePlace
  closed : List ℕ → ConePlace

-- the lists that were read, and where the next token stands
abbrev pub ConeState : Type 0
ConeState = List (List ℕ) × ConePlace

-- a move of the machine of cones
abbrev pub ConeMove : Type 0
ConeMove = Move ConeState (List (List ℕ))

-- the machine of cones at a token: an opening brace, numbers, the closing brace, the end of the line, and so on to the end of the section
abbrev pub cone_step : ConeState → List ℕ → ConeMove
cone_step (cs, before) t = if bytes_eq t section_end then done cs else if bytes_eq t brace then go (cs, inside []) else halt cause.Unexpected
cone_step (cs, inside ns) t = if bytes_eq t brace_end then go (cs, closed ns)
    else if is_number t then (if nat_le (decimal_value t) most_number then go (cs, inside (ns ++ decimal_value t ∷ [])) else halt cause.TooWide)
    else halt cause.Unexpected
cone_step (cs, closed ns) t = if bytes_eq t line_end then go (cs ++ ns ∷ [], before) else halt cause.Unexpected

-- nothing is read yet
abbrev pub cone_start : ConeState
cone_start = ([], before)
