-- Rows of whole numbers, one a line: what their text is, and the machine that reads it.
-- `AreRowTexts` is the grammar, `row_step` the machine.
-- Laws: proofs/RowTextLaws.antt.
use Rattle.std.specs.Prelude.{◌≡◌, ◌⊎◌, ℕ, ◌-◌, ◌^◌, nat_le, Bool, true, false, List, [], ◌∷◌, ◌++◌, bytes_eq, if◌then◌else◌, ℤ}
use Rattle.gf_text.specs.Machine.{Move, go, done, halt}
use Rattle.gf_text.specs.Marks.{minus_mark}
use Rattle.gf_text.specs.SetText.{IsNumberText}
use Rattle.gf_text.specs.Tokens.{is_number, decimal_value}
use Rattle.gf_text.specs.VectorText.{signed_entry}
use Rattle.gf_text.specs.declared.error.Cause.TheVariants as cause
use Rattle.gf_fan_files.specs.Lines.{line_end, section_end}

-- the greatest absolute value of an entry of a row
abbrev pub most_row_entry : ℕ
most_row_entry = 2 ^ 127 - 1

-- ---- the grammar

-- an entry of a row: a number, or - and a number
abbrev pub IsRowEntryText : List (List ℕ) → ℤ → Type 0
IsRowEntryText ts z = (t : List ℕ) × (n : ℕ) × IsNumberText t n most_row_entry
    × (((ts ≡ t ∷ []) × (z ≡ signed_entry false n)) ⊎ ((ts ≡ minus_mark ∷ t ∷ []) × (z ≡ signed_entry true n)))

-- entries up to the end of their line
abbrev pub AreRowEntryTexts : List (List ℕ) → List ℤ → Type 0
AreRowEntryTexts ts [] = ts ≡ line_end ∷ []
AreRowEntryTexts ts (z ∷ zs) = (first : List (List ℕ)) × (rest : List (List ℕ)) × (ts ≡ first ++ rest) × IsRowEntryText first z × AreRowEntryTexts rest zs

-- a row: at least one entry, up to the end of its line
abbrev pub IsRowText : List (List ℕ) → List ℤ → Type 0
IsRowText ts [] = ⊥
IsRowText ts (z ∷ zs) = AreRowEntryTexts ts (z ∷ zs)

-- rows up to the end of their section
abbrev pub AreRowTexts : List (List ℕ) → List (List ℤ) → Type 0
AreRowTexts ts [] = ts ≡ section_end ∷ []
AreRowTexts ts (r ∷ rs) = (first : List (List ℕ)) × (rest : List (List ℕ)) × (ts ≡ first ++ rest) × IsRowText first r × AreRowTexts rest rs

-- ---- the machine

-- Rows that were read; entries of the row that is being read; whether a minus stands before the next token.
pub record RowState : Type 0 where
  pub rows : List (List ℤ)
  pub entries : List ℤ
  pub negative : Bool

-- a move of the machine of rows
abbrev pub RowMove : Type 0
RowMove = Move RowState (List (List ℤ))

-- the state with these rows, these entries of the next row, and this sign
abbrev pub row_state : List (List ℤ) → List ℤ → Bool → RowState
row_state rs zs m = record { rows = rs; entries = zs; negative = m }

-- a number within the limit, with the sign that stood before it
abbrev pub row_size_step : List (List ℤ) → List ℤ → Bool → List ℕ → RowMove
row_size_step rs zs m t = if is_number t then (if nat_le (decimal_value t) most_row_entry then go
    (row_state rs (zs ++ signed_entry m (decimal_value t) ∷ []) false) else halt cause.TooWide)
    else halt cause.Unexpected

-- a sign or a number at the front of an entry
abbrev pub row_entry_step : List (List ℤ) → List ℤ → List ℕ → RowMove
row_entry_step rs zs t = if bytes_eq t minus_mark then go (row_state rs zs true) else row_size_step rs zs false t

-- what a token does behind these rows, these entries and a minus or none
abbrev pub row_step_at : List (List ℤ) → List ℤ → Bool → List ℕ → RowMove
row_step_at rs zs true t = row_size_step rs zs true t
row_step_at rs [] false t = if bytes_eq t section_end then done rs else row_entry_step rs [] t
row_step_at rs (z ∷ zs) false t = if bytes_eq t line_end then go (row_state (rs ++ (z ∷ zs) ∷ []) [] false) else row_entry_step rs (z ∷ zs) t

-- the machine of rows at a token
abbrev pub row_step : RowState → List ℕ → RowMove
row_step s t = row_step_at s.rows s.entries s.negative t

-- nothing is read yet
abbrev pub row_start : RowState
row_start = row_state [] [] false
