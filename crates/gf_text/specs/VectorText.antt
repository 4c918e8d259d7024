-- Vectors of whole numbers: what a text of a vector is, and the machine that reads it.
-- `IsVectorText` is the grammar, `vector_step` the machine.
-- Laws: proofs/VectorTextLaws.antt.
use Rattle.std.specs.Prelude.{◌≡◌, ◌⊎◌, ℕ, ◌≤◌, ◌-◌, ◌^◌, nat_le, Bool, true, false, List, [], ◌∷◌, ◌++◌, length, bytes_eq, if◌then◌else◌, Result, ℤ, pos}
use Rattle.std.specs.Prelude.{unsigned_abs, decimal, flat_map}
use lib.IntN.{neg_ℤ}
use Rattle.gf_text.specs.PrintedText.{is_below_zero}
use Rattle.gf_text.specs.Machine.{Move, go, done, halt, Fault, run}
use Rattle.gf_text.specs.Marks.{parenthesis, parenthesis_end, comma, minus_mark}
use Rattle.gf_text.specs.Tokens.{is_number, decimal_value, lexemes, word_more}
use Rattle.gf_text.specs.declared.error.Cause.TheVariants as cause
use Rattle.gf_text.specs.declared.vector_reader.VectorPlace.{VectorPlace}
use Rattle.gf_text.specs.declared.vector_reader.VectorPlace.TheVariants as at

-- ---- tokens

-- the greatest absolute value of an entry
abbrev pub most_entry : ℕ
most_entry = 2 ^ 63 - 1

-- ---- the grammar

-- a natural number, or its negative
abbrev pub signed_entry : Bool → ℕ → ℤ
signed_entry true n = neg_ℤ (pos n)
signed_entry false n = pos n

-- the token is a number, n, within the limit of an entry
abbrev pub IsSizeText : List ℕ → ℕ → Type 0
IsSizeText t n = (is_number t ≡ true) × (decimal_value t ≡ n) × (n ≤ most_entry)

-- an entry: a number, or - and a number
abbrev pub IsEntryText : List (List ℕ) → ℤ → Type 0
IsEntryText ts z = (t : List ℕ) × (n : ℕ) × IsSizeText t n
    × (((ts ≡ t ∷ []) × (z ≡ signed_entry false n)) ⊎ ((ts ≡ minus_mark ∷ t ∷ []) × (z ≡ signed_entry true n)))

-- entries, each behind a comma
abbrev pub AreMoreEntries : List (List ℕ) → List ℤ → Type 0
AreMoreEntries ts [] = ts ≡ []
AreMoreEntries ts (z ∷ zs) = (first : List (List ℕ)) × (rest : List (List ℕ)) × (ts ≡ comma ∷ (first ++ rest)) × IsEntryText first z × AreMoreEntries rest zs

-- a vector: entries joined by commas between parentheses
abbrev pub IsVectorText : List (List ℕ) → List ℤ → Type 0
IsVectorText ts [] = ts ≡ parenthesis ∷ parenthesis_end ∷ []
IsVectorText ts (z ∷ zs) = (first : List (List ℕ)) × (rest : List (List ℕ)) × (ts ≡ parenthesis ∷ (first ++ (rest ++ parenthesis_end ∷ []))) ×
    IsEntryText first z × AreMoreEntries rest zs

-- the entry is within its limit
abbrev pub IsEntryWithin : ℤ → Type 0
IsEntryWithin z = unsigned_abs z ≤ most_entry

-- ---- what is printed

-- an entry: its digits, behind - where it is below zero
abbrev pub entry_text : ℤ → List ℕ
entry_text z = if is_below_zero z then 45 ∷ decimal (unsigned_abs z) else decimal (unsigned_abs z)

-- entries with commas between them
abbrev pub entries_text : List ℤ → List ℕ
entries_text [] = []
entries_text (z ∷ zs) = entry_text z ++ flat_map (λ y. 44 ∷ entry_text y) zs

-- a vector: its entries joined by commas between parentheses
abbrev pub vector_text : List ℤ → List ℕ
vector_text zs = (40 ∷ entries_text zs) ++ 41 ∷ []

-- ---- the machine

-- what is expected, and the entries that were read
abbrev pub VectorState : Type 0
VectorState = VectorPlace × List ℤ

-- what a token does to what is read of a vector
abbrev pub VectorMove : Type 0
VectorMove = Move VectorState (List ℤ)

-- a number within the limit, with the sign that stood before it
abbrev pub size_step : Bool → List ℤ → List ℕ → VectorMove
size_step m zs t =
    if is_number t then (if nat_le (decimal_value t) most_entry then go (at.Behind, zs ++ signed_entry m (decimal_value t) ∷ []) else halt cause.TooWide)
    else halt cause.Unexpected

-- a sign or a number at the front of an entry
abbrev pub entry_step : List ℤ → List ℕ → VectorMove
entry_step zs t = if bytes_eq t minus_mark then go (at.Negative, zs) else size_step false zs t

-- what the next token does, by what is expected
abbrev pub vector_step : VectorState → List ℕ → VectorMove
vector_step (at.Parenthesis, zs) t = if bytes_eq t parenthesis then go (at.First, zs) else halt cause.Unexpected
vector_step (at.First, zs) t = if bytes_eq t parenthesis_end then done zs else entry_step zs t
vector_step (at.Entry, zs) t = entry_step zs t
vector_step (at.Negative, zs) t = size_step true zs t
vector_step (at.Behind, zs) t = if bytes_eq t comma then go (at.Entry, zs)
    else if bytes_eq t parenthesis_end then done zs
    else halt cause.Unexpected

-- the vector that stands in the source from this place on, and the place behind it
abbrev pub vector_at : List ℕ → ℕ → Result (List ℤ × ℕ) Fault
vector_at source from = run vector_step (at.Parenthesis, []) (length source) (lexemes word_more source from)
