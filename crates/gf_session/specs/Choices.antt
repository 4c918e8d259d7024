-- What a line of a session asks for. Laws: proofs/ChoiceLaws.antt.
use Rattle.std.specs.Prelude.{ℕ, ◌+◌, ◌*◌, ◌-◌, ◌^◌, min, nat_le, Bool, ◌&&◌, ◌||◌, ◌==◌, List, [], ◌∷◌, length, if◌then◌else◌}
use Rattle.std.specs.List.{list_all}
use Rattle.gf_session.specs.declared.choice.Choice.{Choice}
use Rattle.gf_session.specs.declared.choice.Choice.TheVariants as choices

-- ---- words

-- space, tab or carriage return
abbrev pub is_blank : ℕ → Bool
is_blank b = b == 32 || (b == 9 || b == 13)

-- without the blanks at its beginning
abbrev pub trim_start : List ℕ → List ℕ
trim_start [] = []
trim_start (b ∷ bs) = if is_blank b then trim_start bs else b ∷ bs

-- b before a line that has lost the blanks at its end
abbrev pub put_before : ℕ → List ℕ → List ℕ
put_before b [] = if is_blank b then [] else b ∷ []
put_before b (c ∷ cs) = b ∷ c ∷ cs

-- without the blanks at its end
abbrev pub trim_end : List ℕ → List ℕ
trim_end [] = []
trim_end (b ∷ bs) = put_before b (trim_end bs)

-- without the blanks at both ends
abbrev pub trimmed : List ℕ → List ℕ
trimmed line = trim_end (trim_start line)

-- 0 to 9
abbrev pub is_digit : ℕ → Bool
is_digit b = nat_le 48 b && nat_le b 57

-- the number of these decimal digits, behind those of n
abbrev pub value_from : ℕ → List ℕ → ℕ
value_from n [] = n
value_from n (d ∷ ds) = value_from (10 * n + (d - 48)) ds

-- ---- lines

-- u to undo, q to end
abbrev pub letter_choice : ℕ → List ℕ → Choice
letter_choice b [] = if b == 117 then choices.Undo else if b == 113 then choices.Quit else choices.Unknown
letter_choice b (c ∷ cs) = choices.Unknown

-- nothing; digits alone are the number of what is to be crossed; a letter; any other word isn't understood
abbrev pub word_choice : List ℕ → Choice
word_choice [] = choices.Blank
word_choice (b ∷ bs) = if list_all is_digit (b ∷ bs) then choices.Across (value_from 0 (b ∷ bs)) else letter_choice b bs

-- what a line of at most 80 bytes, without its line feed, asks for; a longer one isn't understood
abbrev pub choice_of : List ℕ → Choice
choice_of line = if nat_le (length line) 80 then word_choice (trimmed line) else choices.Unknown

-- a number from 2^64 - 1 on is told as that
abbrev pub narrowed : Choice → Choice
narrowed (choices.Across n) = choices.Across (min n (2 ^ 64 - 1))
narrowed choice = choice
