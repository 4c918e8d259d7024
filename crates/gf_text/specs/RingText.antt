-- Rings: names, what a text of a ring is, and the machine that reads it.
-- `IsRingText` is the grammar, `ring_text` what is printed, `ring_step` the machine.
-- Laws: proofs/RingTextLaws.antt.
use Rattle.std.specs.Prelude.{◌≡◌, ℕ, ◌≤◌, ◌<◌, Bool, true, false, ◌&&◌, List, [], ◌∷◌, ◌++◌, length, bytes_eq, flat_map, if◌then◌else◌, Result}
use Rattle.std.specs.List.{list_any, list_all}
use Rattle.gf_text.specs.Machine.{Move, go, done, halt, Fault, run}
use Rattle.gf_text.specs.Marks.{bracket, comma, bracket_end}
use Rattle.gf_text.specs.Tokens.{is_letter, is_name_byte, lexemes, word_more}
use Rattle.gf_text.specs.declared.TheConstants.{MOST_VARIABLES}
use Rattle.gf_text.specs.declared.error.Cause.TheVariants as cause
use Rattle.gf_text.specs.declared.ring_reader.RingPlace.{RingPlace}
use Rattle.gf_text.specs.declared.ring_reader.RingPlace.TheVariants as at

-- a name is a letter, then letters, digits and _
abbrev pub is_name : List ℕ → Bool
is_name [] = false
is_name (b ∷ bs) = is_letter b && list_all is_name_byte bs

-- whether the name is one of these
abbrev pub has : List (List ℕ) → List ℕ → Bool
has names name = list_any (λ n. bytes_eq n name) names

-- names, each of which isn't among those before
abbrev pub AreNew : List (List ℕ) → List (List ℕ) → Type 0
AreNew before [] = Unit {0}
AreNew before (n ∷ ns) = (is_name n ≡ true) × (has before n ≡ false) × AreNew (before ++ n ∷ []) ns

-- 1 to MOST_VARIABLES different names
pub record IsRing (names : List (List ℕ)) : Type 0 where
  pub some : 0 < length names
  pub few : length names ≤ MOST_VARIABLES
  pub different : AreNew [] names

-- ---- the grammar

-- the letter that a ring begins with
abbrev pub letter_q : List ℕ
letter_q = 81 ∷ []

-- a comma and a name, for each name
abbrev pub more_names : List (List ℕ) → List (List ℕ)
more_names ns = flat_map (λ n. comma ∷ n ∷ []) ns

-- the tokens of a ring: Q, names joined by commas between brackets
abbrev pub ring_tokens : List (List ℕ) → List (List ℕ)
ring_tokens [] = []
ring_tokens (n ∷ ns) = letter_q ∷ bracket ∷ n ∷ (more_names ns ++ bracket_end ∷ [])

-- These tokens are the text of a ring with these names, however many they are.
pub record IsRingText (ts names : List (List ℕ)) : Type 0 where
  pub tokens : ts ≡ ring_tokens names
  pub some : 0 < length names
  pub different : AreNew [] names

-- ---- the machine

-- what is expected, and the names that were read
abbrev pub RingState : Type 0
RingState = RingPlace × List (List ℕ)

-- what the next token does to what is read of a ring
abbrev pub ring_step : RingState → List ℕ → Move RingState (List (List ℕ))
ring_step (at.Letter, names) t = if bytes_eq t letter_q then go (at.Bracket, names) else halt cause.Unexpected
ring_step (at.Bracket, names) t = if bytes_eq t bracket then go (at.Variable, names) else halt cause.Unexpected
ring_step (at.Variable, names) t = if is_name t then (if has names t then halt cause.RepeatedName else go (at.Behind, names ++ t ∷ []))
    else halt cause.Unexpected
ring_step (at.Behind, names) t = if bytes_eq t comma then go (at.Variable, names)
    else if bytes_eq t bracket_end then done names
    else halt cause.Unexpected

-- the ring that stands in the source from this place on, and the place behind it
abbrev pub ring_at : List ℕ → ℕ → Result (List (List ℕ) × ℕ) Fault
ring_at source from = run ring_step (at.Letter, []) (length source) (lexemes word_more source from)

-- ---- what is printed

-- names with commas between them
abbrev pub names_text : List (List ℕ) → List ℕ
names_text [] = []
names_text (n ∷ ns) = n ++ flat_map (λ m. 44 ∷ m) ns

-- Q, names joined by commas between brackets
abbrev pub ring_words : List (List ℕ) → List ℕ
ring_words names = 81 ∷ 91 ∷ (names_text names ++ 93 ∷ [])

-- the line of a ring
abbrev pub ring_text : List (List ℕ) → List ℕ
ring_text names = ring_words names ++ 10 ∷ []
