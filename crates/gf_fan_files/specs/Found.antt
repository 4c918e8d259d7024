-- Lines and tokens as the program finds them, against those of the text.
use Rattle.std.specs.Prelude.{◌≡◌, ℕ, ◌<◌, ◌≤◌, List, [], ◌∷◌, ◌++◌, length, take, Result, Ok, Err}
use Rattle.gf_text.specs.Machine.{Lexeme}
use Rattle.gf_text.specs.Tokens.{lexeme, lexemes, word_more}
use Rattle.gf_fan_files.specs.declared.error.FanFileError.{FanFileError}
use Rattle.gf_fan_files.specs.declared.error.FanFileError.TheVariants as errors
use Rattle.gf_fan_files.specs.declared.lines.TextLine.{TextLine}
use Rattle.gf_fan_files.specs.declared.lines.TextLine.TheVariants as found
use Rattle.gf_fan_files.specs.declared.places.Token.{Token}
use Rattle.gf_fan_files.specs.declared.places.Token.TheVariants as tokens
use Rattle.gf_fan_files.specs.declared.places.Place.{Place}
use Rattle.gf_fan_files.specs.declared.places.Place.TheVariants as places
use Rattle.gf_fan_files.specs.Lines.{Sections, no_sections, with_name, with_line, sections_from, tokens_between, blank, all_parted, line_end, section_end}
use Rattle.gf_fan_files.specs.Lines.{front_place, content_from}

-- ---- lines

-- the first of these tokens stands at this place
abbrev pub BeginsAt : ℕ → List Lexeme → Type 0
BeginsAt place [] = ⊥
BeginsAt place (x ∷ xs) = x.at ≡ place

-- The first line with tokens, where the text says this from there on: there is none, it is the name of a section, or it
-- has these tokens.
abbrev pub IsLineFound : List ℕ → Sections → TextLine → Type 0
IsLineFound source s found.Ended = s ≡ no_sections
IsLineFound source s (found.Name start end next) = s ≡ with_name (lexeme source start end) (sections_from source next)
IsLineFound source s (found.Tokens start from end next) = (s ≡ with_line (tokens_between source from end) (sections_from source next)) × BeginsAt start
    (tokens_between source from end)

-- its places are within the source
abbrev pub IsLineWithin : List ℕ → TextLine → Type 0
IsLineWithin source found.Ended = Unit {0}
IsLineWithin source (found.Name start end next) = (start < end) × (end ≤ next) × (next ≤ length source)
IsLineWithin source (found.Tokens start from end next) = (from ≤ end) × (end ≤ next) × (next ≤ length source)

-- ---- tokens of a content

-- the token that the program found, as one of the text
abbrev pub lexeme_of : List ℕ → Token → Lexeme
lexeme_of source (tokens.Word start end) = lexeme source start end
lexeme_of source (tokens.Blank at) = record { text = blank; at = at }
lexeme_of source (tokens.LineEnd at) = record { text = line_end; at = at }
lexeme_of source (tokens.SectionEnd at) = record { text = section_end; at = at }

-- a word lies within the source
abbrev pub IsTokenWithin : List ℕ → Token → Type 0
IsTokenWithin source (tokens.Word start end) = (start ≤ end) × (end ≤ length source)
IsTokenWithin source (tokens.Blank at) = Unit {0}
IsTokenWithin source (tokens.LineEnd at) = Unit {0}
IsTokenWithin source (tokens.SectionEnd at) = Unit {0}

-- the tokens that are left in a content
abbrev pub tokens_left : List ℕ → Place → List Lexeme
tokens_left source (places.Within at end next minus) = all_parted minus at (lexemes word_more (take end source) at) ++ record {
  text = line_end;
  at = front_place (length source) (sections_from source next);
} ∷ content_from source next
tokens_left source (places.End at) = record { text = section_end; at = at } ∷ []
tokens_left source places.Behind = []

-- a place in a line lies within the source, and so does what follows the line
abbrev pub IsPlaceWithin : List ℕ → Place → Type 0
IsPlaceWithin source (places.Within at end next minus) = (at ≤ end) × (end ≤ length source) × (next ≤ length source)
IsPlaceWithin source (places.End at) = Unit {0}
IsPlaceWithin source places.Behind = Unit {0}

-- ---- results

-- memory ran out, or this is refused so
abbrev pub IsRefusedSo : {Y : Type 0} → FanFileError → Result Y FanFileError → Type 0
IsRefusedSo (errors.Syntax s) read = read ≡ Err (errors.Syntax s)
IsRefusedSo (errors.TooWide at) read = read ≡ Err (errors.TooWide at)
IsRefusedSo (errors.TooManyVariables count) read = read ≡ Err (errors.TooManyVariables count)
IsRefusedSo (errors.Cone o) read = read ≡ Err (errors.Cone o)
IsRefusedSo (errors.NotAFan i j) read = read ≡ Err (errors.NotAFan i j)
IsRefusedSo (errors.Missing section) read = read ≡ Err (errors.Missing section)
IsRefusedSo (errors.BadRay number) read = read ≡ Err (errors.BadRay number)
IsRefusedSo (errors.Dimensions left right) read = read ≡ Err (errors.Dimensions left right)
IsRefusedSo (errors.BadVersion number) read = read ≡ Err (errors.BadVersion number)
IsRefusedSo (errors.BadCertificate cone) read = read ≡ Err (errors.BadCertificate cone)
IsRefusedSo (errors.Wide w) read = read ≡ Err (errors.Wide w)
IsRefusedSo errors.Memory read = Unit {0}

-- A result, seen by view, is what is read, unless memory ran out.
abbrev pub IsReadSo : {X Y : Type 0} → (X → Y) → Result X FanFileError → Result Y FanFileError → Type 0
IsReadSo view (Ok x) read = read ≡ Ok (view x)
IsReadSo view (Err e) read = IsRefusedSo e read
