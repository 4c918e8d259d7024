-- The end of a section stands once among its tokens, so that a machine that is done there has read them all.
-- To cite: sections_some, ends_once, whole_read. The rest are steps.
use Rattle.std.proofs.Common.{◌≡◌, ℕ, zero, suc, ◌+◌, Bool, true, false, ◌&&◌, ◌==◌, not, List, [], ◌∷◌, ◌++◌, take, Ok, refl, ap, bytes_eq, if◌then◌else◌}
use Rattle.gf_text.specs.Machine.{Lexeme, behind, texts, Move, go, done, halt, moved, run, followed, after}
use Rattle.gf_text.specs.Tokens.{is_space, lex_tokens, word_more}
use Rattle.gf_text.specs.Marks.{minus_mark}
use Rattle.gf_fan_files.specs.Lines.{lines, before_comment, blank, all_parted, line_tokens, is_section_name, Section, Sections, with_name, with_line}
use Rattle.gf_fan_files.specs.Lines.{with_tokens, sections_of, sections, line_end, section_end, place_from, content_tokens}

-- the token has bytes
abbrev pub IsSome : Lexeme → Type 0
IsSome x = x.text ≡ [] → ⊥

abbrev pub AreSome : List Lexeme → Type 0
AreSome [] = Unit {0}
AreSome (x ∷ xs) = IsSome x × AreSome xs

abbrev pub LinesSome : List (List Lexeme) → Type 0
LinesSome [] = Unit {0}
LinesSome (l ∷ ls) = AreSome l × LinesSome ls

abbrev pub SectionsSome : List Section → Type 0
SectionsSome [] = Unit {0}
SectionsSome (s ∷ ss) = LinesSome s.content × SectionsSome ss

lex_some : (more : List ℕ → ℕ) (k at : ℕ) (bs : List ℕ) → AreSome (lex_tokens more k at bs)
unfolding lex_tokens
lex_some more zero at [] = tt
lex_some more (suc k) at [] = tt
lex_some more zero at (b ∷ bs) = by (is_space b) (lex_some more 0 (at + 1) bs) (lex_some more (more (b ∷ bs)) (at + 1) bs)
  where
    by : (v : Bool) → AreSome (lex_tokens more 0 (at + 1) bs) → AreSome (lex_tokens more (more (b ∷ bs)) (at + 1) bs)
        → AreSome (if v then lex_tokens more 0 (at + 1) bs else record { text = b ∷ take (more (b ∷ bs)) bs; at = at } ∷ lex_tokens more
        (more (b ∷ bs)) (at + 1) bs)
    by true one other = one
    by false one other = ((λ e. cc), other)
lex_some more (suc k) at (b ∷ bs) = lex_some more k (at + 1) bs

parted_by : (v : Bool) (y z : Lexeme) → IsSome y → IsSome z → IsSome (if v then y else z)
parted_by true y z h k = h
parted_by false y z h k = k

parted_some : (minus : Bool) (place : ℕ) (xs : List Lexeme) → AreSome xs → AreSome (all_parted minus place xs)
parted_some minus place [] h = tt
parted_some minus place (x ∷ xs) h = (
  parted_by (minus && not (place == x.at)) (record { text = blank; at = x.at }) x (λ e. cc) h.0,
  parted_some (bytes_eq x.text minus_mark) (behind x) xs h.1,
)

line_some : (l : Lexeme) → AreSome (line_tokens l)
line_some l = parted_some false l.at (lex_tokens word_more 0 l.at (before_comment l.text)) (lex_some word_more 0 l.at (before_comment l.text))

abbrev AllSome : Sections → Type 0
AllSome s = LinesSome s.front × SectionsSome s.all

name_by : (v : Bool) (x : Lexeme) (s : Sections) → IsSome x → AllSome s → AllSome (if v then with_name x s else with_line (x ∷ []) s)
name_by true x s h k = (tt, (k.0, k.1))
name_by false x s h k = (((h, tt), k.0), k.1)

with_some : (l : List Lexeme) (s : Sections) → AreSome l → AllSome s → AllSome (with_tokens l s)
with_some [] s h k = k
with_some (x ∷ []) s h k = name_by (is_section_name x.text) x s h.0 k
with_some (x ∷ y ∷ ys) s h k = ((h, k.0), k.1)

all_some : (ls : List Lexeme) → AllSome (sections_of ls)
all_some [] = (tt, tt)
all_some (l ∷ ls) = with_some (line_tokens l) (sections_of ls) (line_some l) (all_some ls)

pub sections_some : (source : List ℕ) → SectionsSome (sections source)
sections_some source = (all_some (lines 0 source)).1

-- ---- the end of the section

-- the last of these tokens has no bytes, and the others have
abbrev pub EndsOnce : List Lexeme → Type 0
EndsOnce [] = ⊥
EndsOnce (x ∷ []) = x.text ≡ section_end
EndsOnce (x ∷ y ∷ ys) = IsSome x × EndsOnce (y ∷ ys)

later_once : (x : Lexeme) (xs : List Lexeme) → IsSome x → EndsOnce xs → EndsOnce (x ∷ xs)
later_once x [] h k = absurd k
later_once x (y ∷ ys) h k = (h, k)

front_once : (xs ys : List Lexeme) → AreSome xs → EndsOnce ys → EndsOnce (xs ++ ys)
front_once [] ys h k = k
front_once (x ∷ xs) ys h k = later_once x (xs ++ ys) h.0 (front_once xs ys h.1 k)

pub ends_once : (end : ℕ) (ls : List (List Lexeme)) → LinesSome ls → EndsOnce (content_tokens end ls)
ends_once end [] h = refl
ends_once end (l ∷ ls) h =
    let mark : Lexeme = record { text = line_end; at = place_from end ls } in
    front_once l (mark ∷ content_tokens end ls) h.0 (later_once mark (content_tokens end ls) (λ e. cc) (ends_once end ls h.1))

-- ---- a machine that is done at the end of a section alone

module _ {S A : Type 0} (step : S → List ℕ → Move S A) (only : (s : S) (t : List ℕ) (a : A) → step s t ≡ done a → t ≡ section_end) where
  read_by : (s : S) (m : Move S A) (x : Lexeme) (xs : List Lexeme) (end : ℕ) (a : A) (place : ℕ) → step s x.text ≡ m → EndsOnce (x ∷ xs)
      → ((t : S) → EndsOnce xs → run step t end xs ≡ Ok (a, place) → after step t (texts xs) ≡ done a)
      → moved m x (λ t. run step t end xs) ≡ Ok (a, place) → followed m (texts xs) (λ t. after step t (texts xs)) ≡ done a
  unfolding run
  read_by s (go t) x [] end a place is once later e = cc
  read_by s (go t) x (y ∷ ys) end a place is once later e = later t once.1 e
  read_by s (done b) x [] end a place is once later e = (let got : A × ℕ = (b, behind x) in let wanted : A × ℕ = (a, place) in let pair : got ≡ wanted = cc in
      ap (λ p. done (p.0)) pair)
  read_by s (done b) x (y ∷ ys) end a place is once later e = absurd (once.0 (only s x.text b is))
  read_by s (halt cause) x xs end a place is once later e = cc

  -- what is read is what all the tokens say
  pub whole_read : (s : S) (end : ℕ) (xs : List Lexeme) (a : A) (place : ℕ) → EndsOnce xs → run step s end xs ≡ Ok (a, place) → after step s (texts xs) ≡ done a
  unfolding run after
  whole_read s end [] a place once e = absurd once
  whole_read s end (x ∷ xs) a place once e = read_by s (step s x.text) x xs end a place refl once (λ t o f. whole_read t end xs a place o f) e
