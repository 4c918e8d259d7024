-- Lines are found from left to right, and what is read of them.
-- To cite: line_first, lines_ended, first_token, is_name, cut_lexeme, left_word. The rest are steps.
use Rattle.std.proofs.Common.{◌≡◌, ◌<◌, ◌≤◌, ℕ, suc, ◌+◌, ◌-◌, Bool, true, false, cond, ◌&&◌, ◌==◌, not, min, List, [], ◌∷◌, length, take, drop, take_while}
use Rattle.std.proofs.Common.{refl, sym, ap, ◌∙◌, ◌⊎◌, inl, inr, bytes_eq, arith, if◌then◌else◌}
use Rattle.std.proofs.lemmas.List.{drop-drop, drop-take, take-take, take_all, drop_all, length-drop}
use Rattle.std.proofs.lemmas.Bool.{cases_lt}
use Rattle.std.proofs.lemmas.List.Sums.{prefix_len-le-length}
use Rattle.std.proofs.lemmas.List.Folds.{length-prefix_len}
use Rattle.std.specs.List.{prefix_len}
use Rattle.gf_text.specs.Machine.{Lexeme, behind}
use Rattle.gf_text.specs.Marks.{minus_mark}
use Rattle.gf_text.specs.Tokens.{lex_tokens, lexemes, lexeme, word_more}
use Rattle.gf_text.proofs.TokensLaws.{behind-lexeme}
use Rattle.gf_text.proofs.PrintedTokensLaws.{byte_itself}
use Rattle.gf_fan_files.specs.Lines.{blank, parted, before_line, lines, goes_on_line, is_no_comment, before_comment, all_parted, line_tokens, tokens_between}
use Rattle.gf_fan_files.specs.Lines.{Sections, no_sections, with_name, with_line, with_tokens, sections_of, sections_from, is_section_name}

-- ---- the first line

-- the lines behind the first one, which has k bytes
lines_behind : ℕ → List ℕ → ℕ → List Lexeme
lines_behind at bs k = lines (at + suc k) (drop (suc k) bs)

more_by : (b at : ℕ) (bs : List ℕ) (v : Bool) → (prefix_len goes_on_line bs < length bs →
    lines (at + 1) bs ≡ record { text = take (prefix_len goes_on_line bs) bs; at = at + 1 } ∷ lines_behind (at + 1) bs (prefix_len goes_on_line bs))
    → cond (not v) (1 + prefix_len goes_on_line bs) 0 < suc (length bs)
    → (if v then record { text = []; at = at } ∷ lines (at + 1) bs else before_line b at (lines (at + 1) bs))
    ≡ record {
      text = take (cond (not v) (1 + prefix_len goes_on_line bs) 0) (b ∷ bs);
      at = at;
    } ∷ lines_behind at (b ∷ bs) (cond (not v) (1 + prefix_len goes_on_line bs) 0)
unfolding lines_behind
more_by b at bs true later h = refl
more_by b at bs false later h =
    let k = prefix_len goes_on_line bs in
    let fits : k < length bs = omega arith in
    let next : 1 + k ≡ suc k = omega arith in
    let place : (at + 1) + suc k ≡ at + suc (suc k) = omega arith in
    rw (later fits, next, place) refl

first_more : (at : ℕ) (bs : List ℕ) → prefix_len goes_on_line bs < length bs → lines at bs ≡ record {
  text = take (prefix_len goes_on_line bs) bs;
  at =
      at;
} ∷ lines_behind at bs (prefix_len goes_on_line bs)
unfolding lines
first_more at [] h = absurd (omega arith)
first_more at (b ∷ bs) h = more_by b at bs (b == 10) (first_more (at + 1) bs) h

last_by : (b at : ℕ) (bs : List ℕ) (v : Bool) → (length bs ≤ prefix_len goes_on_line bs → lines (at + 1) bs ≡ record { text = bs; at = at + 1 } ∷ [])
    → suc (length bs) ≤ cond (not v) (1 + prefix_len goes_on_line bs) 0
    → (if v then record { text = []; at = at } ∷ lines (at + 1) bs else before_line b at (lines (at + 1) bs)) ≡ record { text = b ∷ bs; at = at } ∷ []
last_by b at bs true later h = absurd (omega arith)
last_by b at bs false later h = let fits : length bs ≤ prefix_len goes_on_line bs = omega arith in rw (later fits) refl

first_last : (at : ℕ) (bs : List ℕ) → length bs ≤ prefix_len goes_on_line bs → lines at bs ≡ record { text = bs; at = at } ∷ []
unfolding lines
first_last at [] h = refl
first_last at (b ∷ bs) h = last_by b at bs (b == 10) (first_last (at + 1) bs) h

-- at the end of the source there are no sections
pub lines_ended : (source : List ℕ) (at : ℕ) → length source ≤ at → sections_from source at ≡ no_sections
unfolding lines lex_tokens
lines_ended source at h = let none = drop_all at source h in rw none refl

-- the tokens of a line, cut out of the source
between : (source text : List ℕ) (at k : ℕ) → k ≡ length (before_comment text) → take (length text) (drop at source) ≡ text
    → line_tokens (record { text = text; at = at }) ≡ tokens_between source at (at + k)
between source text at k is front =
    let n = prefix_len is_no_comment text in
    let size : n ≡ k = sym (length-prefix_len is_no_comment text) ∙ sym is in
    let fits : n ≤ length text = prefix_len-le-length is_no_comment text in
    let cut : take n text ≡ drop at (take (at + k) source) =
    ap (take n) (sym front) ∙ take-take n (length text) (drop at source) fits ∙ ap (λ m. take m (drop at source)) size ∙ sym (drop-take at k source) in
    ap (λ l. all_parted false at (lex_tokens word_more 0 at l)) cut

module _ (source : List ℕ) (at whole text : ℕ) (within : at ≤ length source) (is_whole : whole ≡ length (take_while goes_on_line (drop at source)))
    (is_text : text ≡ length (take_while is_no_comment (take whole (drop at source)))) where
  line_more : prefix_len goes_on_line (drop at source) < length (drop at source) →
      sections_from source at ≡ with_tokens (tokens_between source at (at + text)) (sections_from source (min (at + whole + 1) (length source)))
  unfolding lines_behind
  line_more h =
      let bs = drop at source in
      let k = prefix_len goes_on_line bs in
      let size : k ≡ whole = sym (length-prefix_len goes_on_line bs) ∙ sym is_whole in
      let some = length-drop at source in
      let place : at + suc k ≡ min (at + whole + 1) (length source) = omega arith in
      let front : take (length (take k bs)) bs ≡ take k bs = ap (λ n. take n bs) (length-prefix_len goes_on_line bs) in
      let tokens : line_tokens (record { text = take k bs; at = at }) ≡ tokens_between source at (at + text) =
      between source (take k bs) at text (is_text ∙ ap (λ n. length (take_while is_no_comment (take n bs))) (sym size)) front in
      ap sections_of (first_more at bs h)
      ∙ ap (λ l. with_tokens l (sections_of (lines (at + suc k) (drop (suc k) bs)))) tokens
      ∙ ap (λ l. with_tokens (tokens_between source at (at + text)) (sections_of (lines (at + suc k) l))) (drop-drop (suc k) at source)
      ∙ ap (λ n. with_tokens (tokens_between source at (at + text)) (sections_from source n)) place

  line_last : length (drop at source) ≤ prefix_len goes_on_line (drop at source) →
      sections_from source at ≡ with_tokens (tokens_between source at (at + text)) (sections_from source (min (at + whole + 1) (length source)))
  line_last h =
      let bs = drop at source in
      let k = prefix_len goes_on_line bs in
      let fits = prefix_len-le-length goes_on_line bs in
      let size : k ≡ whole = sym (length-prefix_len goes_on_line bs) ∙ sym is_whole in
      let some = length-drop at source in
      let all : take whole bs ≡ bs = take_all whole bs (omega arith) in
      let front : take (length bs) bs ≡ bs = take_all (length bs) bs (omega arith) in
      let end : length source ≤ min (at + whole + 1) (length source) = omega arith in
      let tokens : line_tokens (record { text = bs; at = at }) ≡ tokens_between source at (at + text) =
      between source bs at text (is_text ∙ ap (λ l. length (take_while is_no_comment l)) all) front in
      ap sections_of (first_last at bs h)
      ∙ ap (λ l. with_tokens l no_sections) tokens
      ∙ ap (λ s. with_tokens (tokens_between source at (at + text)) s) (sym (lines_ended source (min (at + whole + 1) (length source)) end))

  -- the line that stands at a place, and what stands behind it
  pub line_first : (next : ℕ) → next ≡ min (at + whole + 1) (length source) →
      sections_from source at ≡ with_tokens (tokens_between source at (at + text)) (sections_from source next)
  line_first next e = elim (cases_lt (prefix_len goes_on_line (drop at source)) (length (drop at source))) [ inl h ↦ line_more h | inr h ↦ line_last h ] ∙
      ap (λ n. with_tokens (tokens_between source at (at + text)) (sections_from source n)) (sym e)

-- ---- what a line is

module _ (source : List ℕ) (at end : ℕ) (s : Sections) where
  module _ (x : Lexeme) (xs : List Lexeme) (e : lexemes word_more (take end source) at ≡ x ∷ xs) where
    -- its first token
    pub first_token : tokens_between source at end ≡ x ∷ all_parted (bytes_eq x.text minus_mark) (behind x) xs
    first_token = ap (λ ys. all_parted false at ys) e

    -- a name of a section alone
    pub is_name : xs ≡ [] → is_section_name x.text ≡ true → with_tokens (tokens_between source at end) s ≡ with_name x s
    is_name none name =
        ap (λ l. with_tokens l s) first_token
        ∙ ap (λ ys. with_tokens (x ∷ all_parted (bytes_eq x.text minus_mark) (behind x) ys) s) none
        ∙ ap (λ b. if b then with_name x s else with_line (x ∷ []) s) name

-- a token of a line is that of the source
pub cut_lexeme : (source : List ℕ) (end s b : ℕ) → s ≤ b → b ≤ end → lexeme (take end source) s b ≡ lexeme source s b
cut_lexeme source end s b rises within =
    let whole : s + (end - s) ≡ end = omega arith in
    let short : b - s ≤ end - s = omega arith in
    let cut : take (b - s) (drop s (take end source)) ≡ take (b - s) (drop s source) =
    ap (λ n. take (b - s) (drop s (take n source))) (sym whole) ∙ ap (take (b - s)) (drop-take s (end - s) source) ∙ take-take (b - s) (end - s) (drop s source)
    short in
    ap (λ t. record { text = t; at = s }) cut

-- ---- the next token of a line

module _ (source : List ℕ) (at end s b : ℕ) (is_behind_minus : Bool) (here : lexemes word_more (take end source) at ≡ lexeme (take end source) s b ∷
    lexemes word_more (take end source) b) where
  -- nothing parts the token from a minus before it
  not_parted : (place : ℕ) (x : Lexeme) → ((is_behind_minus ≡ true) × (place ≡ x.at)) ⊎ (is_behind_minus ≡ false) → parted is_behind_minus place x ≡ x
  not_parted place x (inl (is, same)) = ap (λ n. if is_behind_minus && not (n == x.at) then record { text = blank; at = x.at } else x) same ∙
      ap (λ v. if is_behind_minus && not v then record { text = blank; at = x.at } else x) (byte_itself x.at) ∙ never is_behind_minus
    where
      never : (v : Bool) → (if v && false then record { text = blank; at = x.at } else x) ≡ x
      never true = refl
      never false = refl
  not_parted place x (inr none) = ap (λ v. if v && not (place == x.at) then record { text = blank; at = x.at } else x) none

  pub left_word : s < b → b ≤ length (take end source) → b ≤ end → (m : Bool) → m ≡ bytes_eq (take (b - s) (drop s (take end source))) minus_mark →
      ((is_behind_minus ≡ true) × (at ≡ s)) ⊎ (is_behind_minus ≡ false)
      → all_parted is_behind_minus at (lexemes word_more (take end source) at) ≡ lexeme source s b ∷ all_parted m b (lexemes word_more (take end source) b)
  left_word rises within fits m is apart =
      let x = lexeme (take end source) s b in
      let xs = lexemes word_more (take end source) b in
      ap (λ l. all_parted is_behind_minus at l) here
      ∙ ap (λ y. y ∷ all_parted (bytes_eq x.text minus_mark) (behind x) xs) (not_parted at x apart ∙ cut_lexeme source end s b (omega arith) fits)
      ∙ ap (λ n. lexeme source s b ∷ all_parted (bytes_eq x.text minus_mark) n xs) (behind-lexeme (take end source) s b rises within)
      ∙ ap (λ v. lexeme source s b ∷ all_parted v b xs) (sym is)
