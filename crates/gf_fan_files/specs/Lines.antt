-- Lines of a text and their tokens, and the sections that they form.
-- A # begins a comment to the end of its line; lines without tokens are passed over.
-- Laws: proofs/LinesLaws.antt.
use Rattle.std.specs.Prelude.{ℕ, ◌+◌, Bool, false, ◌&&◌, ◌||◌, ◌==◌, not, nat_le, List, [], ◌∷◌, ◌++◌, drop, take, take_while, length, if◌then◌else◌, bytes_eq}
use Rattle.std.specs.List.{list_all}
use Rattle.gf_text.specs.Machine.{Lexeme, behind}
use Rattle.gf_text.specs.Tokens.{is_digit, lex_tokens, lexemes, word_more}
use Rattle.gf_text.specs.Marks.{minus_mark}

-- ---- lines

-- a byte before the first of these lines
abbrev pub before_line : ℕ → ℕ → List Lexeme → List Lexeme
before_line b at [] = record { text = b ∷ []; at = at } ∷ []
before_line b at (l ∷ ls) = record { text = b ∷ l.text; at = at } ∷ ls

-- the lines of a text that begins at this place
unfoldable pub lines : ℕ → List ℕ → List Lexeme
lines at [] = record { text = []; at = at } ∷ []
lines at (b ∷ bs) = if b == 10 then record { text = []; at = at } ∷ lines (at + 1) bs else before_line b at (lines (at + 1) bs)

-- the byte doesn't end a line; the byte doesn't begin a comment
abbrev pub goes_on_line : ℕ → Bool
goes_on_line b = not (b == 10)

-- whether the byte doesn't begin a comment
abbrev pub is_no_comment : ℕ → Bool
is_no_comment b = not (b == 35)

-- what stands before a comment
abbrev pub before_comment : List ℕ → List ℕ
before_comment bs = take_while is_no_comment bs

-- ---- the tokens of a line

-- a token that white space parts from the minus before it
abbrev pub blank : List ℕ
blank = 32 ∷ []

-- The token, behind a minus that ends at this place, or behind something else: where white space parts it from the minus,
-- a blank stands for it, which is no number.
abbrev pub parted : Bool → ℕ → Lexeme → Lexeme
parted is_behind_minus place x = if is_behind_minus && not (place == x.at) then record { text = blank; at = x.at } else x

-- the same of each of these tokens
abbrev pub all_parted : Bool → ℕ → List Lexeme → List Lexeme
all_parted is_behind_minus place [] = []
all_parted is_behind_minus place (x ∷ xs) = parted is_behind_minus place x ∷ all_parted (bytes_eq x.text minus_mark) (behind x) xs

-- the tokens of a line
abbrev pub line_tokens : Lexeme → List Lexeme
line_tokens l = all_parted false l.at (lex_tokens word_more 0 l.at (before_comment l.text))

-- the tokens of the line whose text before its comment stands between two places of the source
abbrev pub tokens_between : List ℕ → ℕ → ℕ → List Lexeme
tokens_between source at end = all_parted false at (lexemes word_more (take end source) at)

-- ---- sections

-- whether the byte is a letter from A to Z
abbrev pub is_capital : ℕ → Bool
is_capital b = nat_le 65 b && nat_le b 90

-- a capital letter, a digit or _
abbrev pub is_section_byte : ℕ → Bool
is_section_byte b = is_capital b || (is_digit b || b == 95)

-- a capital letter, then capital letters, digits and _
abbrev pub is_section_name : List ℕ → Bool
is_section_name [] = false
is_section_name (b ∷ bs) = is_capital b && list_all is_section_byte bs

-- A section: its name, the place of the name, and the tokens of each line of its content.
pub record Section : Type 0 where
  pub name : List ℕ
  pub at : ℕ
  pub content : List (List Lexeme)

-- lines before the first section, and the sections
pub record Sections : Type 0 where
  pub front : List (List Lexeme)
  pub all : List Section

-- a source without lines
abbrev pub no_sections : Sections
no_sections = record { front = []; all = [] }

-- the lines before the first section are the content of one of this name
abbrev pub with_name : Lexeme → Sections → Sections
with_name x s = record { front = []; all = record { name = x.text; at = x.at; content = s.front } ∷ s.all }

-- a line with these tokens stands in front
abbrev pub with_line : List Lexeme → Sections → Sections
with_line l s = record { front = l ∷ s.front; all = s.all }

-- a line before sections: it has no tokens, is the name of one, or stands in front of them
abbrev pub with_tokens : List Lexeme → Sections → Sections
with_tokens [] s = s
with_tokens (x ∷ []) s = if is_section_name x.text then with_name x s else with_line (x ∷ []) s
with_tokens (x ∷ y ∷ ys) s = with_line (x ∷ y ∷ ys) s

-- what lines say of sections
abbrev pub sections_of : List Lexeme → Sections
sections_of [] = no_sections
sections_of (l ∷ ls) = with_tokens (line_tokens l) (sections_of ls)

-- what the text says from a place on
abbrev pub sections_from : List ℕ → ℕ → Sections
sections_from source at = sections_of (lines at (drop at source))

-- the sections of a text
abbrev pub sections : List ℕ → List Section
sections source = (sections_from source 0).all

-- ---- the tokens of a section's content

-- the mark at the end of a line, and that at the end of a section
abbrev pub line_end : List ℕ
line_end = 10 ∷ []

-- the mark at the end of a section
abbrev pub section_end : List ℕ
section_end = []

-- the place of the first token of these lines, and d where there is none
abbrev pub place_from : ℕ → List (List Lexeme) → ℕ
place_from d [] = d
place_from d ([] ∷ ls) = place_from d ls
place_from d ((x ∷ xs) ∷ ls) = x.at

-- The tokens of a content, which the place `end` follows. The end of a line stands where the next token stands, so that
-- what a line leaves open is a fault there.
abbrev pub content_tokens : ℕ → List (List Lexeme) → List Lexeme
content_tokens end [] = record { text = section_end; at = end } ∷ []
content_tokens end (l ∷ ls) = l ++ record { text = line_end; at = place_from end ls } ∷ content_tokens end ls

-- where a section ends: at the next one, or at the end of the text
abbrev pub end_before : ℕ → List Section → ℕ
end_before length [] = length
end_before length (s ∷ ss) = s.at

-- the tokens of the lines before the first of these sections, in a text of this length
abbrev pub front_tokens : ℕ → Sections → List Lexeme
front_tokens length s = content_tokens (end_before length s.all) s.front

-- the place of the first token there
abbrev pub front_place : ℕ → Sections → ℕ
front_place length s = place_from (end_before length s.all) s.front

-- the tokens of the content that begins at a place of the source
abbrev pub content_from : List ℕ → ℕ → List Lexeme
content_from source at = front_tokens (length source) (sections_from source at)
