-- What a match of the table holds for each option: a value that the option takes.
use Rattle.std.specs.Prelude.{◌≡◌, ◌⊎◌, ◌≤◌, ◌<◌, ◌^◌, ℕ, List, [], ◌∷◌, codes, Some, is_some, true}
use Rattle.std.specs.Str.Parse.{IsNumeral, digits_value, without_leading_plus}
use Rattle.clap.specs.Words.{Row, Text, one_of, first_of}
use Rattle.gf_front.specs.declared.choice.Choice.{Choice}
use Rattle.gf_front.specs.declared.choice.Choice.TheVariants as choices
use Rattle.gf_front.specs.Table.{Entry, commands}

-- the value of an option without a value says whether it is there
abbrev pub HoldsFlag : Text → List Row → Type 0
HoldsFlag id rows = (text : Text) → one_of id rows ≡ Some text → (text ≡ codes "true") ⊎ (text ≡ codes "false")

-- the value is a number of 64 bits, and it lies from `least` to `most`
abbrev pub HoldsUnsigned : Text → List Row → Type 0
HoldsUnsigned id rows = (text : Text) → one_of id rows ≡ Some text → IsNumeral 10 (without_leading_plus text) ×
    (digits_value 10 (without_leading_plus text) < 2 ^ 64)

-- the value lies from `least` to `most`
abbrev pub LiesBetween : Text → ℕ → ℕ → List Row → Type 0
LiesBetween id least most rows = (text : Text) → one_of id rows ≡ Some text → (least ≤ digits_value 10 (without_leading_plus text)) ×
    (digits_value 10 (without_leading_plus text) ≤ most)

-- so it is with a number that has these limits
abbrev pub HoldsNumber : Text → ℕ → ℕ → List Row → Type 0
HoldsNumber id least most rows = HoldsUnsigned id rows × LiesBetween id least most rows

-- there is a text
abbrev pub HoldsText : Text → List Row → Type 0
HoldsText id rows = is_some (first_of id rows) ≡ true

-- the option's value is one that it takes
abbrev pub HoldsChoice : Text → Choice → List Row → Type 0
HoldsChoice id (choices.Letter letter) rows = HoldsFlag id rows
HoldsChoice id choices.Flag rows = HoldsFlag id rows
HoldsChoice id (choices.Number least most) rows = HoldsNumber id least most rows
HoldsChoice id choices.File rows = Unit {0}
HoldsChoice id choices.NeededFile rows = HoldsText id rows
HoldsChoice id (choices.BareNumber least most) rows = HoldsNumber id least most rows × HoldsText id rows
HoldsChoice id choices.BareFile rows = HoldsText id rows

-- each of these options holds what it may
abbrev pub HoldChoices : List (Text × Choice) → List Row → Type 0
HoldChoices [] rows = Unit {0}
HoldChoices (o ∷ os) rows = HoldsChoice o.0 o.1 rows × HoldChoices os rows

-- ---- commands

-- it is one of these commands, and its options hold what they take
abbrev pub NamesEntry : List Entry → Text × List Row → Type 0
NamesEntry [] m = ⊥
NamesEntry (e ∷ es) m = ((m.0 ≡ e.name) × HoldChoices e.options m.1) ⊎ NamesEntry es m

-- a command of the table was matched, and its options hold what they may
abbrev pub IsCommand : Text × List Row → Type 0
IsCommand m = NamesEntry commands m
