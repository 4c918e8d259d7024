-- One number on a line of its own: what its text is, and the machine that reads it.
-- `IsOneNumberText` is the grammar, `number_step` the machine, whose states are before the number, behind it and behind its
-- line.
-- Laws: proofs/NumberTextLaws.antt.
use Rattle.std.specs.Prelude.{◌≡◌, ℕ, nat_le, List, [], ◌∷◌, bytes_eq, if◌then◌else◌}
use Rattle.gf_text.specs.Machine.{Move, go, done, halt}
use Rattle.gf_text.specs.SetText.{IsNumberText}
use Rattle.gf_text.specs.Tokens.{is_number, decimal_value}
use Rattle.gf_text.specs.declared.error.Cause.TheVariants as cause
use Rattle.gf_fan_files.specs.declared.numbers.NumberState.{NumberState}
use Rattle.gf_fan_files.specs.declared.numbers.NumberState.TheVariants as at
use Rattle.gf_fan_files.specs.Lines.{line_end, section_end}
use Rattle.gf_fan_files.specs.ConeText.{most_number}

-- a number, the end of its line, the end of its section
abbrev pub IsOneNumberText : List (List ℕ) → ℕ → Type 0
IsOneNumberText ts n = (t : List ℕ) × (ts ≡ t ∷ line_end ∷ section_end ∷ []) × IsNumberText t n most_number

-- the machine of a number at a token: the number, the end of the line, the end of the section
abbrev pub number_step : NumberState → List ℕ → Move NumberState ℕ
number_step at.Unread t = if is_number t then (if nat_le (decimal_value t) most_number then go (at.Read (decimal_value t)) else halt cause.TooWide)
    else halt cause.Unexpected
number_step (at.Read n) t = if bytes_eq t line_end then go (at.Finished n) else halt cause.Unexpected
number_step (at.Finished n) t = if bytes_eq t section_end then done n else halt cause.Unexpected
