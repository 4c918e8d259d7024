-- Sections that are written, whatever they are, are read again, where the lines of each are those of its content.
-- To cite: no_byte, IsContentLine, AreContentLines, ArePlain, contents, IsSaid, AreSaid, written_again. The rest are steps.
use Rattle.std.proofs.Common.{◌≡◌, ℕ, suc, ◌+◌, Bool, true, false, ◌==◌, not, List, [], ◌∷◌, ◌++◌, length, take, flat_map, refl, sym, ap, subst, ◌∙◌}
use Rattle.std.proofs.Common.{append_assoc, append-nil, bytes_eq, arith}
use Rattle.std.proofs.lemmas.Bool.{and_parts}
use Rattle.std.specs.List.{list_all, prefix_len}
use Rattle.gf_text.specs.Machine.{Lexeme, texts, behind}
use Rattle.gf_text.specs.Marks.{minus_mark}
use Rattle.gf_text.specs.Tokens.{is_space, lex_tokens, word_more}
use Rattle.gf_text.specs.RingText.{has, is_name}
use Rattle.gf_text.proofs.SpelledLaws.{word_token, lex-token}
use Rattle.gf_fan_files.specs.Lines.{before_line, lines, before_comment, all_parted, line_tokens, is_capital, is_section_name, Sections, with_name, with_line}
use Rattle.gf_fan_files.specs.Lines.{with_tokens, sections_of, sections, content_tokens, end_before}
use Rattle.gf_fan_files.specs.FanText.{Content, IsContentText, Table, kind_in, Named, AreHeld}
use Rattle.gf_fan_files.specs.FanWords.{TextSection, lines_text, section_text, sections_text}

-- ---- lines

-- none of these is the byte c
abbrev pub no_byte : ℕ → List ℕ → Bool
no_byte c bs = list_all (λ b. not (b == c)) bs

not_true : (v : Bool) → not v ≡ true → v ≡ false
not_true true e = cc
not_true false e = refl

line_first : (l rest : List ℕ) (at : ℕ) → no_byte 10 l ≡ true → lines at (l ++ 10 ∷ rest) ≡ record { text = l; at = at } ∷ lines (at + length l + 1) rest
unfolding lines
line_first [] rest at h = let place : at + 1 ≡ at + 0 + 1 = omega arith in ap (λ n. record { text = []; at = at } ∷ lines n rest) place
line_first (b ∷ l) rest at h =
    let both = and_parts (not (b == 10)) (no_byte 10 l) h in
    let other = not_true (b == 10) both.0 in
    let place : (at + 1) + length l + 1 ≡ at + length (b ∷ l) + 1 = omega arith in
    rw other (ap (before_line b at) (line_first l rest (at + 1) both.1) ∙ ap (λ n. record { text = b ∷ l; at = at } ∷ lines n rest) place)

-- lines from this place on, with a line end behind each
abbrev placed : ℕ → List (List ℕ) → List Lexeme
placed at [] = record { text = []; at = at } ∷ []
placed at (l ∷ ls) = record { text = l; at = at } ∷ placed (at + length l + 1) ls

abbrev pub ArePlain : List (List ℕ) → Type 0
ArePlain [] = Unit {0}
ArePlain (l ∷ ls) = (no_byte 10 l ≡ true) × ArePlain ls

lines_placed : (ls : List (List ℕ)) (at : ℕ) → ArePlain ls → lines at (lines_text ls) ≡ placed at ls
unfolding lines
lines_placed [] at h = refl
lines_placed (l ∷ ls) at h =
    ap (lines at) (append_assoc l (10 ∷ []) (lines_text ls)) ∙ line_first l (lines_text ls) at h.0
    ∙ ap (λ xs. record { text = l; at = at } ∷ xs) (lines_placed ls (at + length l + 1) h.1)

plain-++ : (ls ms : List (List ℕ)) → ArePlain ls → ArePlain ms → ArePlain (ls ++ ms)
plain-++ [] ms h k = k
plain-++ (l ∷ ls) ms h k = (h.0, plain-++ ls ms h.1 k)

-- ---- lines of contents

-- A line whose first byte is visible, is no capital letter, and begins no comment.
pub record IsContentLine (l : List ℕ) : Type 0 where
  pub first : ℕ
  pub others : List ℕ
  pub shape : l ≡ first ∷ others
  pub visible : is_space first ≡ false
  pub small : is_capital first ≡ false
  pub bare : (first == 35) ≡ false

abbrev pub AreContentLines : List (List ℕ) → Type 0
AreContentLines [] = Unit {0}
AreContentLines (l ∷ ls) = IsContentLine l × AreContentLines ls

-- the first token of a line
record Begins (l : Lexeme) (b : ℕ) : Type 0 where
  token : Lexeme
  later : List Lexeme
  tokens : line_tokens l ≡ token ∷ later
  bytes : List ℕ
  text : token.text ≡ b ∷ bytes

begins : (l : List ℕ) (h : IsContentLine l) (at : ℕ) → Begins (record { text = l; at = at }) h.first
unfolding lex_tokens
begins l h at =
    let b = h.first in
    let rest = before_comment h.others in
    let left : before_comment l ≡ b ∷ rest = ap before_comment h.shape ∙ (let bare = h.bare in let next : 1 + prefix_len (λ x. not (x == 35)) h.others ≡
    suc (prefix_len (λ x. not (x == 35)) h.others) = omega arith in rw (bare, next) refl) in
    let x : Lexeme = record { text = b ∷ take (word_more (b ∷ rest)) rest; at = at } in
    let xs = lex_tokens word_more (word_more (b ∷ rest)) (at + 1) rest in
    let lexed : lex_tokens word_more 0 at (b ∷ rest) ≡ x ∷ xs = (let visible = h.visible in rw visible refl) in
    record {
      token = x;
      later = all_parted (bytes_eq x.text minus_mark) (behind x) xs;
      tokens = ap (λ t. all_parted false at (lex_tokens word_more 0 at t)) left ∙ ap (all_parted false at) lexed;
      bytes = take (word_more (b ∷ rest)) rest;
      text = refl;
    }

no_name : (x : Lexeme) (b : ℕ) (bs : List ℕ) → x.text ≡ b ∷ bs → is_capital b ≡ false → is_section_name x.text ≡ false
no_name x b bs is small = ap is_section_name is ∙ rw small refl

in_front : (x : Lexeme) (xs : List Lexeme) (s : Sections) → is_section_name x.text ≡ false → with_tokens (x ∷ xs) s ≡ with_line (x ∷ xs) s
in_front x [] s h = rw h refl
in_front x (y ∷ ys) s h = refl

-- it stands in the content of the section before
content_stays : (l : List ℕ) → IsContentLine l → (at : ℕ) (s : Sections) →
    with_tokens (line_tokens (record { text = l; at = at })) s ≡ with_line (line_tokens (record { text = l; at = at })) s
content_stays l h at s =
    let g = begins l h at in
    ap (λ xs. with_tokens xs s) g.tokens ∙ in_front g.token g.later s (no_name g.token h.first g.bytes g.text h.small) ∙ ap (λ xs. with_line xs s)
    (sym g.tokens)

-- ---- the contents of sections

-- the tokens of lines from this place on
abbrev pub contents : ℕ → List (List ℕ) → List (List Lexeme)
contents at [] = []
contents at (l ∷ ls) = line_tokens (record { text = l; at = at }) ∷ contents (at + length l + 1) ls

abbrev behind_lines : ℕ → List (List ℕ) → ℕ
behind_lines at [] = at
behind_lines at (l ∷ ls) = behind_lines (at + length l + 1) ls

content_front : (ls tail : List (List ℕ)) (at : ℕ) → AreContentLines ls → (sections_of (placed (behind_lines at ls) tail)).front ≡ []
    → sections_of (placed at (ls ++ tail)) ≡ record { front = contents at ls; all = (sections_of (placed (behind_lines at ls) tail)).all }
content_front [] tail at h none = (let t = sections_of (placed at tail) in λ i. record { front = none i; all = t.all })
content_front (l ∷ ls) tail at h none =
    content_stays l h.0 at (sections_of (placed (at + length l + 1) (ls ++ tail)))
    ∙ ap (with_line (line_tokens (record { text = l; at = at }))) (content_front ls tail (at + length l + 1) h.1 none)

-- the line of a name
name_line : (n : List ℕ) (at : ℕ) → is_name n ≡ true → before_comment n ≡ n → line_tokens (record { text = n; at = at }) ≡ record { text = n; at = at } ∷ []
unfolding lex_tokens
name_line n at word bare =
    ap (λ t. all_parted false at (lex_tokens word_more 0 at t)) (bare ∙ sym (append-nil n)) ∙ ap (all_parted false at)
    (lex-token word_more at n [] (word_token n [] word refl))

name_by : (x : Lexeme) (s : Sections) → is_section_name x.text ≡ true → with_tokens (x ∷ []) s ≡ with_name x s
name_by x s h = rw h refl

-- ---- sections that are written

-- the lines of a section
abbrev section_lines : TextSection → List (List ℕ)
section_lines w = w.name ∷ (w.lines ++ [] ∷ [])

lines-++ : (ls ms : List (List ℕ)) → lines_text (ls ++ ms) ≡ lines_text ls ++ lines_text ms
lines-++ [] ms = refl
lines-++ (l ∷ ls) ms = ap (λ t. (l ++ 10 ∷ []) ++ t) (lines-++ ls ms) ∙ sym (append_assoc (l ++ 10 ∷ []) (lines_text ls) (lines_text ms))

section_as_lines : (w : TextSection) → section_text w ≡ lines_text (section_lines w)
section_as_lines w = sym (append_assoc w.name (10 ∷ []) (lines_text w.lines ++ 10 ∷ [])) ∙ ap (λ t. (w.name ++ 10 ∷ []) ++ t) (sym (lines-++ w.lines ([] ∷ [])))

sections_as_lines : (ws : List TextSection) → sections_text ws ≡ lines_text (flat_map section_lines ws)
sections_as_lines [] = refl
sections_as_lines (w ∷ ws) = ap (λ t. t ++ sections_text ws) (section_as_lines w) ∙ ap (λ t. lines_text (section_lines w) ++ t) (sections_as_lines ws) ∙
    sym (lines-++ (section_lines w) (flat_map section_lines ws))

-- behind sections of these names, a section is read as this content, wherever it stands
pub record IsSaid (table : Table) (seen : List (List ℕ)) (w : TextSection) (c : Content) : Type 0 where
  pub new : has seen w.name ≡ false
  pub name : is_section_name w.name ≡ true
  pub word : is_name w.name ≡ true
  pub bare : before_comment w.name ≡ w.name
  pub one_line : no_byte 10 w.name ≡ true
  pub lines : AreContentLines w.lines
  pub plain : ArePlain w.lines
  pub holds : (end at : ℕ) → IsContentText (kind_in table w.name) (texts (content_tokens end (contents at w.lines))) c

abbrev pub AreSaid : Table → List (List ℕ) → List TextSection → Named → Type 0
AreSaid table seen [] cs = cs ≡ []
AreSaid table seen (w ∷ ws) [] = ⊥
AreSaid table seen (w ∷ ws) (c ∷ cs) = (c.0 ≡ w.name) × IsSaid table seen w c.1 × AreSaid table (seen ++ w.name ∷ []) ws cs

all_lines : List TextSection → List (List ℕ)
all_lines ws = flat_map section_lines ws

all_plain : (table : Table) (seen : List (List ℕ)) (ws : List TextSection) (cs : Named) → AreSaid table seen ws cs → ArePlain (all_lines ws)
unfolding all_lines
all_plain table seen [] cs h = tt
all_plain table seen (w ∷ ws) [] h = absurd h
all_plain table seen (w ∷ ws) (c ∷ cs) (name, said, later) =
    plain-++ (section_lines w) (all_lines ws) (said.one_line, plain-++ w.lines ([] ∷ []) said.plain (refl, tt)) (all_plain table (seen ++ w.name ∷ []) ws cs
    later)

-- one section, and those behind it
section_again : (w : TextSection) (tail : List (List ℕ)) (at : ℕ) → is_section_name w.name ≡ true → is_name w.name ≡ true → before_comment w.name ≡ w.name →
    AreContentLines w.lines
    → (sections_of (placed (behind_lines (at + length w.name + 1) w.lines + 0 + 1) tail)).front ≡ []
    → sections_of (placed at (section_lines w ++ tail))
    ≡ record {
      front = [];
      all = record {
        name = w.name;
        at = at;
        content = contents (at + length w.name + 1) w.lines;
      } ∷ (sections_of (placed (behind_lines (at + length w.name + 1) w.lines + 0 + 1) tail)).all;
    }
unfolding lex_tokens
section_again w tail at name word bare lines none =
    let x : Lexeme = record { text = w.name; at = at } in
    let p = at + length w.name + 1 in
    let rest = sections_of (placed p ((w.lines ++ [] ∷ []) ++ tail)) in
    let inner : rest ≡ record { front = contents p w.lines; all = (sections_of (placed (behind_lines p w.lines + 0 + 1) tail)).all } =
    ap (λ ls. sections_of (placed p ls)) (append_assoc w.lines ([] ∷ []) tail) ∙ content_front w.lines ([] ∷ tail) p lines none in
    ap (λ xs. with_tokens xs rest) (name_line w.name at word bare) ∙ name_by x rest name ∙ ap (with_name x) inner

record AreRead (table : Table) (end : ℕ) (seen : List (List ℕ)) (s : Sections) (cs : Named) : Type 0 where
  none : s.front ≡ []
  held : AreHeld table end seen s.all cs

all_read : (table : Table) (end : ℕ) (seen : List (List ℕ)) (ws : List TextSection) (cs : Named) (at : ℕ) → AreSaid table seen ws cs →
    AreRead table end seen (sections_of (placed at (all_lines ws))) cs
unfolding lex_tokens all_lines
all_read table end seen [] cs at h = record { none = refl; held = h }
all_read table end seen (w ∷ ws) [] at h = absurd h
all_read table end seen (w ∷ ws) (c ∷ cs) at (name, said, later) =
    let p = at + length w.name + 1 in
    let q = behind_lines p w.lines + 0 + 1 in
    let tail = sections_of (placed q (all_lines ws)) in
    let r = all_read table end (seen ++ w.name ∷ []) ws cs q later in
    let is = section_again w (all_lines ws) at said.name said.word said.bare said.lines r.none in
    subst (λ s. AreRead table end seen s (c ∷ cs)) (sym is) (record { none = refl; held = (said.new, name, said.holds (end_before end tail.all) p, r.held) })

-- the text of sections says what they say
pub written_again : (table : Table) (ws : List TextSection) (cs : Named) → AreSaid table [] ws cs →
    AreHeld table (length (sections_text ws)) [] (sections (sections_text ws)) cs
unfolding all_lines
written_again table ws cs h =
    let source = lines_text (flat_map section_lines ws) in
    let r = all_read table (length source) [] ws cs 0 h in
    let same : sections source ≡ (sections_of (placed 0 (flat_map section_lines ws))).all =
    ap (λ ls. (sections_of ls).all) (lines_placed (flat_map section_lines ws) 0 (all_plain table [] ws cs h)) in
    subst (λ t. AreHeld table (length t) [] (sections t) cs) (sym (sections_as_lines ws)) (subst (λ ss. AreHeld table (length source) [] ss cs) (sym same)
    r.held)
