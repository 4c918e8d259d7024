-- The tokens of printed rows, with or without a comment behind.
-- To cite: no_byte-++, digits_no, number_digits, IsTail, no_tail, comment_tail, IsSmall, AreSmall, IsRowLine, AreRowLines, row_as_line, rows_hold,
-- rows_content, rows_plain, line_texts, first_digit. The rest are steps.
use Rattle.std.proofs.Common.{◌≡◌, ◌≤◌, ℕ, suc, ◌+◌, Bool, true, false, ◌==◌, not, List, [], ◌∷◌, ◌++◌, length, flat_map, decimal, refl, sym, ap, subst, ◌∙◌}
use Rattle.std.proofs.Common.{inl, inr, append_assoc, bytes_eq, arith, if◌then◌else◌, ℤ, pos, negsuc, unsigned_abs}
use Rattle.std.proofs.lemmas.Bool.Decides.{nat_tests, eqb_tells}
use Rattle.std.proofs.lemmas.Bool.{and_parts}
use Rattle.std.specs.List.{list_all, prefix_len, AllByRecursion}
use Rattle.gf_text.specs.Machine.{Lexeme, texts, behind}
use Rattle.gf_text.specs.Marks.{minus_mark}
use Rattle.gf_text.specs.Tokens.{is_digit, is_number, decimal_value, lex_tokens, word_more}
use Rattle.gf_text.specs.PrintedText.{is_below_zero}
use Rattle.gf_text.specs.VectorText.{entry_text}
use Rattle.gf_text.proofs.SetTokensLaws.{number_no_mark}
use Rattle.gf_text.proofs.SpelledLaws.{goes_on, mark_token, lex-space, lex-token, texts-++}
use Rattle.gf_text.proofs.PrintedTokensLaws.{decimal_number, number_word, digit_visible, byte_itself}
use Rattle.gf_fan_files.specs.Lines.{before_comment, parted, all_parted, line_tokens, is_capital, line_end, content_tokens, place_from}
use Rattle.gf_fan_files.specs.RowText.{most_row_entry, IsRowEntryText, AreRowEntryTexts, IsRowText, AreRowTexts}
use Rattle.gf_fan_files.specs.FanWords.{spaced_entries, comment}
use Rattle.gf_fan_files.proofs.WrittenLaws.{no_byte, IsContentLine, AreContentLines, ArePlain, contents}

-- ---- bytes

pub no_byte-++ : (c : ℕ) (xs ys : List ℕ) → no_byte c xs ≡ true → no_byte c ys ≡ true → no_byte c (xs ++ ys) ≡ true
no_byte-++ c [] ys h k = k
no_byte-++ c (x ∷ xs) ys h k = let both = and_parts (not (x == c)) (no_byte c xs) h in rw both.0 (no_byte-++ c xs ys both.1 k)

digit_no : (b c : ℕ) → is_digit b ≡ true → is_digit c ≡ false → not (b == c) ≡ true
digit_no b c h k = elim (eqb_tells b c) [
  | inl e ↦ (let same : is_digit b ≡ is_digit c = ap is_digit e.1 in cc)
  | inr e ↦ ap not e.0
]

pub digits_no : (c : ℕ) (ds : List ℕ) → list_all is_digit ds ≡ true → is_digit c ≡ false → no_byte c ds ≡ true
digits_no c [] h k = refl
digits_no c (d ∷ ds) h k = let both = and_parts (is_digit d) (list_all is_digit ds) h in rw (digit_no d c both.0 k) (digits_no c ds both.1 k)

pub number_digits : (ds : List ℕ) → is_number ds ≡ true → list_all is_digit ds ≡ true
number_digits [] h = refl
number_digits (d ∷ ds) h = h

-- ---- what may stand behind a line's tokens

-- nothing, or a comment
pub record IsTail (tail : List ℕ) : Type 0 where
  pub blank : List ℕ
  pub left : (bs : List ℕ) → no_byte 35 bs ≡ true → before_comment (bs ++ tail) ≡ bs ++ blank
  pub none : (at : ℕ) → lex_tokens word_more 0 at blank ≡ []
  pub stops : goes_on blank ≡ false
  pub plain : no_byte 10 tail ≡ true

left_by : (b : ℕ) (bs rest : List ℕ) (more : List ℕ) → not (b == 35) ≡ true → before_comment (bs ++ rest) ≡ more → before_comment (b ∷ (bs ++ rest)) ≡ b ∷ more
left_by b bs rest more h e =
    let k = prefix_len (λ x. not (x == 35)) (bs ++ rest) in
    let next : 1 + k ≡ suc k = omega arith in
    rw (h, next) (ap (λ l. b ∷ l) e)

uncommented_all : (bs : List ℕ) → no_byte 35 bs ≡ true → before_comment (bs ++ []) ≡ bs ++ []
uncommented_all [] h = refl
uncommented_all (b ∷ bs) h = let both = and_parts (not (b == 35)) (no_byte 35 bs) h in left_by b bs [] (bs ++ []) both.0 (uncommented_all bs both.1)

tab_left : (rest : List ℕ) → before_comment (9 ∷ 35 ∷ rest) ≡ 9 ∷ []
tab_left rest = refl

uncommented_front : (bs rest : List ℕ) → no_byte 35 bs ≡ true → before_comment (bs ++ (9 ∷ 35 ∷ rest)) ≡ bs ++ 9 ∷ []
uncommented_front [] rest h = tab_left rest
uncommented_front (b ∷ bs) rest h = let both = and_parts (not (b == 35)) (no_byte 35 bs) h in left_by b bs (9 ∷ 35 ∷ rest) (bs ++ 9 ∷ []) both.0
    (uncommented_front bs rest both.1)

no_lexed : (at : ℕ) → lex_tokens word_more 0 at [] ≡ []
unfolding lex_tokens
no_lexed at = refl

pub no_tail : IsTail []
no_tail = record { blank = []; left = uncommented_all; none = no_lexed; stops = refl; plain = refl }

pub comment_tail : (bs : List ℕ) → no_byte 10 bs ≡ true → IsTail (comment bs)
comment_tail bs h = record {
  blank = 9 ∷ [];
  left = λ cs k. uncommented_front cs (32 ∷ bs) k;
  none = λ at. lex-space word_more 9 at [] refl ∙ no_lexed (at + 1);
  stops = refl;
  plain = h;
}

-- ---- entries

-- an entry within its limit
abbrev pub IsSmall : ℤ → Type 0
IsSmall z = unsigned_abs z ≤ most_row_entry

abbrev pub AreSmall : List ℤ → Type 0
AreSmall zs = AllByRecursion (λ z. IsSmall z) zs

abbrev digits : ℤ → List ℕ
digits z = decimal (unsigned_abs z)

digits_number : (z : ℤ) → IsSmall z → (is_number (digits z) ≡ true) × (decimal_value (digits z) ≡ unsigned_abs z)
digits_number z h = decimal_number (unsigned_abs z) (omega arith)

-- the tokens of an entry that stands here
abbrev entry_tokens : ℕ → ℤ → List Lexeme
entry_tokens at z = if is_below_zero z then record { text = minus_mark; at = at } ∷ record { text = digits z; at = at + 1 } ∷ [] else record {
  text = digits z;
  at = at;
} ∷ []

entry_lexed : (at : ℕ) (z : ℤ) (rest : List ℕ) → IsSmall z → goes_on rest ≡ false →
    lex_tokens word_more 0 at (entry_text z ++ rest) ≡ entry_tokens at z ++ lex_tokens word_more 0 (at + length (entry_text z)) rest
entry_lexed at z rest small stops = by (is_below_zero z)
  where
    number : (p : ℕ) → lex_tokens word_more 0 p (digits z ++ rest) ≡ record { text = digits z; at = p } ∷ lex_tokens word_more 0 (p + length (digits z)) rest
    number p = lex-token word_more p (digits z) rest (number_word (digits z) rest (digits_number z small).0 stops)

    by : (v : Bool) → lex_tokens word_more 0 at ((if v then 45 ∷ digits z else digits z) ++ rest)
        ≡ (if v then record { text = minus_mark; at = at } ∷ record { text = digits z; at = at + 1 } ∷ [] else record { text = digits z; at = at } ∷ []) ++
        lex_tokens word_more 0 (at + length (if v then 45 ∷ digits z else digits z)) rest
    by true =
        let place : (at + 1) + length (digits z) ≡ at + length (45 ∷ digits z) = omega arith in
        lex-token word_more at minus_mark (digits z ++ rest) (mark_token 45 (digits z ++ rest) refl refl)
        ∙ ap (λ l. record { text = minus_mark; at = at } ∷ l) (number (at + 1))
        ∙ ap (λ p. record { text = minus_mark; at = at } ∷ record { text = digits z; at = at + 1 } ∷ lex_tokens word_more 0 p rest) place
    by false = number at

-- a minus stands right before its number
parted_next : (at : ℕ) (t : List ℕ) → parted true (at + 1) (record { text = t; at = at + 1 }) ≡ record { text = t; at = at + 1 }
parted_next at t = let same = byte_itself (at + 1) in rw same refl

-- behind a token that is no minus, these are left as they are
Kept : List Lexeme → Type 0
Kept xs = (place : ℕ) → all_parted false place xs ≡ xs

entry_kept : (at : ℕ) (z : ℤ) (ys : List Lexeme) → IsSmall z → Kept ys → Kept (entry_tokens at z ++ ys)
unfolding Kept
entry_kept at z ys small kept place = by (is_below_zero z)
  where
    last : bytes_eq (digits z) minus_mark ≡ false
    last = number_no_mark (digits z) 45 (digits_number z small).0 refl

    by : (v : Bool) → all_parted false place ((if v then record { text = minus_mark; at = at } ∷ record { text = digits z; at = at + 1 } ∷
        [] else record { text = digits z; at = at } ∷ []) ++ ys)
        ≡ (if v then record { text = minus_mark; at = at } ∷ record { text = digits z; at = at + 1 } ∷ [] else record { text = digits z; at = at } ∷ []) ++ ys
    by true =
        let m : Lexeme = record { text = minus_mark; at = at } in
        let d : Lexeme = record { text = digits z; at = at + 1 } in
        ap (λ y. m ∷ y ∷ all_parted (bytes_eq (digits z) minus_mark) (behind d) ys) (parted_next at (digits z)) ∙ ap (λ v. m ∷ d ∷ all_parted v (behind d) ys)
        last ∙ ap (λ l. m ∷ d ∷ l) (kept (behind d))
    by false =
        let d : Lexeme = record { text = digits z; at = at } in
        ap (λ v. d ∷ all_parted v (behind d) ys) last ∙ ap (λ l. d ∷ l) (kept (behind d))

entry_said : (at : ℕ) (z : ℤ) → IsSmall z → IsRowEntryText (texts (entry_tokens at z)) z
entry_said at (pos n) small = let is = digits_number (pos n) small in (digits (pos n), n, (is.0, is.1, small), inl (refl, refl))
entry_said at (negsuc n) small = let is = digits_number (negsuc n) small in (digits (negsuc n), suc n, (is.0, is.1, small), inr (refl, refl))

-- ---- rows

-- entries, each behind a space
abbrev more_text : List ℤ → List ℕ
more_text zs = flat_map (λ y. 32 ∷ entry_text y) zs

abbrev more_tokens : ℕ → List ℤ → List Lexeme
more_tokens at [] = []
more_tokens at (z ∷ zs) = entry_tokens (at + 1) z ++ more_tokens ((at + 1) + length (entry_text z)) zs

more_stops : (zs : List ℤ) (rest : List ℕ) → goes_on rest ≡ false → goes_on (more_text zs ++ rest) ≡ false
more_stops [] rest h = h
more_stops (z ∷ zs) rest h = refl

more_lexed : (at : ℕ) (zs : List ℤ) (rest : List ℕ) → AreSmall zs → goes_on rest ≡ false → ((p : ℕ) → lex_tokens word_more 0 p rest ≡ []) →
    lex_tokens word_more 0 at (more_text zs ++ rest) ≡ more_tokens at zs
more_lexed at [] rest small stops none = none at
more_lexed at (z ∷ zs) rest small stops none =
    lex-space word_more 32 at ((entry_text z ++ more_text zs) ++ rest) refl
    ∙ ap (lex_tokens word_more 0 (at + 1)) (append_assoc (entry_text z) (more_text zs) rest)
    ∙ entry_lexed (at + 1) z (more_text zs ++ rest) small.0 (more_stops zs rest stops)
    ∙ ap (λ l. entry_tokens (at + 1) z ++ l) (more_lexed ((at + 1) + length (entry_text z)) zs rest small.1 stops none)

more_kept : (at : ℕ) (zs : List ℤ) → AreSmall zs → Kept (more_tokens at zs)
unfolding Kept
more_kept at [] small place = refl
more_kept at (z ∷ zs) small place = entry_kept (at + 1) z (more_tokens ((at + 1) + length (entry_text z)) zs) small.0
    (more_kept ((at + 1) + length (entry_text z)) zs small.1) place

-- tokens of an entry, and of entries behind it
said_by : (first : List Lexeme) (later : List Lexeme) (z : ℤ) (zs : List ℤ) → IsRowEntryText (texts first) z →
    AreRowEntryTexts (texts later ++ line_end ∷ []) zs → AreRowEntryTexts (texts (first ++ later) ++ line_end ∷ []) (z ∷ zs)
said_by first later z zs one more = (
  texts first,
  texts later ++ line_end ∷ [],
  ap (λ l. l ++ line_end ∷ []) (texts-++ first later) ∙ append_assoc (texts first)
      (texts later) (line_end ∷ []),
  one,
  more,
)

more_said : (at : ℕ) (zs : List ℤ) → AreSmall zs → AreRowEntryTexts (texts (more_tokens at zs) ++ line_end ∷ []) zs
more_said at [] small = refl
more_said at (z ∷ zs) small = said_by (entry_tokens (at + 1) z) (more_tokens ((at + 1) + length (entry_text z)) zs) z zs (entry_said (at + 1) z small.0)
    (more_said ((at + 1) + length (entry_text z)) zs small.1)

-- ---- bytes of rows

pub integer_no : (c : ℕ) (z : ℤ) → IsSmall z → is_digit c ≡ false → not (45 == c) ≡ true → no_byte c (entry_text z) ≡ true
integer_no c z small other line = by (is_below_zero z)
  where
    number : no_byte c (digits z) ≡ true
    number = digits_no c (digits z) (number_digits (digits z) (digits_number z small).0) other

    by : (v : Bool) → no_byte c (if v then 45 ∷ digits z else digits z) ≡ true
    by true = rw line number
    by false = number

more_no : (c : ℕ) (zs : List ℤ) → AreSmall zs → is_digit c ≡ false → not (45 == c) ≡ true → not (32 == c) ≡ true → no_byte c (more_text zs) ≡ true
more_no c [] small other line space = refl
more_no c (z ∷ zs) small other line space =
    rw space (no_byte-++ c (entry_text z) (more_text zs) (integer_no c z small.0 other line) (more_no c zs small.1 other line space))

row_no : (c : ℕ) (z : ℤ) (zs : List ℤ) → AreSmall (z ∷ zs) → is_digit c ≡ false → not (45 == c) ≡ true → not (32 == c) ≡ true →
    no_byte c (spaced_entries (z ∷ zs)) ≡ true
row_no c z zs small other line space = no_byte-++ c (entry_text z) (more_text zs) (integer_no c z small.0 other line) (more_no c zs small.1 other line space)

digit_small : (b : ℕ) → is_digit b ≡ true → is_capital b ≡ false
digit_small b h = grind (arith, nat_tests, h)

digit_bare : (b : ℕ) → is_digit b ≡ true → (b == 35) ≡ false
digit_bare b h = grind (arith, nat_tests, h)

-- a line that begins with a number
pub first_digit : (ds rest : List ℕ) → is_number ds ≡ true → IsContentLine (ds ++ rest)
first_digit [] rest h = cc
first_digit (d ∷ ds) rest h =
    let digit = (and_parts (is_digit d) (list_all is_digit ds) h).0 in
    record { first = d; others = ds ++ rest; shape = refl; visible = digit_visible d digit; small = digit_small d digit; bare = digit_bare d digit }

pub first_integer : (z : ℤ) (rest : List ℕ) → IsSmall z → IsContentLine (entry_text z ++ rest)
first_integer z rest small = by (is_below_zero z)
  where
    by : (v : Bool) → IsContentLine ((if v then 45 ∷ digits z else digits z) ++ rest)
    by true = record { first = 45; others = digits z ++ rest; shape = refl; visible = refl; small = refl; bare = refl }
    by false = first_digit (digits z) rest (digits_number z small).0

-- ---- lines of rows

row_kept : (at : ℕ) (z : ℤ) (ys : List Lexeme) → IsSmall z → Kept ys → all_parted false at (entry_tokens at z ++ ys) ≡ entry_tokens at z ++ ys
unfolding Kept
row_kept at z ys small kept = entry_kept at z ys small kept at

-- the line says this row, wherever it stands
pub record IsRowLine (l : List ℕ) (r : List ℤ) : Type 0 where
  pub said : (at : ℕ) → IsRowText (texts (line_tokens (record { text = l; at = at })) ++ line_end ∷ []) r
  pub content : IsContentLine l
  pub plain : no_byte 10 l ≡ true

pub row_as_line : (z : ℤ) (zs : List ℤ) (tail : List ℕ) → AreSmall (z ∷ zs) → IsTail tail → IsRowLine (spaced_entries (z ∷ zs) ++ tail) (z ∷ zs)
row_as_line z zs tail small is = record {
  said = λ at. (
      let row = spaced_entries (z ∷ zs) in
      let p = at + length (entry_text z) in
      let left = is.left row (row_no 35 z zs small refl refl refl) in
      let lexed : lex_tokens word_more 0 at (row ++ is.blank) ≡ entry_tokens at z ++ more_tokens p zs =
      ap (lex_tokens word_more 0 at) (append_assoc (entry_text z) (more_text zs) is.blank)
      ∙ entry_lexed at z (more_text zs ++ is.blank) small.0 (more_stops zs is.blank is.stops)
      ∙ ap (λ l. entry_tokens at z ++ l) (more_lexed p zs is.blank small.1 is.stops is.none) in
      let tokens : line_tokens (record { text = row ++ tail; at = at }) ≡ entry_tokens at z ++ more_tokens p zs =
      ap (λ t. all_parted false at (lex_tokens word_more 0 at t)) left ∙ ap (all_parted false at) lexed ∙ row_kept at z (more_tokens p zs) small.0
      (more_kept p zs small.1) in
      subst (λ xs. IsRowText (texts xs ++ line_end ∷ []) (z ∷ zs)) (sym tokens) (said_by (entry_tokens at z) (more_tokens p zs) z zs (entry_said at z small.0)
      (more_said p zs small.1))
      );
  content = subst IsContentLine (sym (append_assoc (entry_text z) (more_text zs) tail)) (first_integer z (more_text zs ++ tail) small.0);
  plain = no_byte-++ 10 (spaced_entries (z ∷ zs)) tail (row_no 10 z zs small refl refl refl) is.plain;
}

-- lines that say these rows
abbrev pub AreRowLines : List (List ℕ) → List (List ℤ) → Type 0
AreRowLines [] [] = Unit {0}
AreRowLines [] (r ∷ rs) = ⊥
AreRowLines (l ∷ ls) [] = ⊥
AreRowLines (l ∷ ls) (r ∷ rs) = IsRowLine l r × AreRowLines ls rs

-- the texts of a content that begins with a line
pub line_texts : (end : ℕ) (l : List Lexeme) (ls : List (List Lexeme)) →
    texts (content_tokens end (l ∷ ls)) ≡ (texts l ++ line_end ∷ []) ++ texts (content_tokens end ls)
line_texts end l ls = texts-++ l (record { text = line_end; at = place_from end ls } ∷ content_tokens end ls) ∙
    sym (append_assoc (texts l) (line_end ∷ []) (texts (content_tokens end ls)))

pub rows_hold : (ls : List (List ℕ)) (rs : List (List ℤ)) → AreRowLines ls rs → (end at : ℕ) → AreRowTexts (texts (content_tokens end (contents at ls))) rs
rows_hold [] [] h end at = refl
rows_hold [] (r ∷ rs) h end at = absurd h
rows_hold (l ∷ ls) [] h end at = absurd h
rows_hold (l ∷ ls) (r ∷ rs) h end at =
    let x = line_tokens (record { text = l; at = at }) in
    let later = contents (at + length l + 1) ls in
    (texts x ++ line_end ∷ [], texts (content_tokens end later), line_texts end x later, h.0.said at, rows_hold ls rs h.1 end (at + length l + 1))

pub rows_content : (ls : List (List ℕ)) (rs : List (List ℤ)) → AreRowLines ls rs → AreContentLines ls
rows_content [] rs h = tt
rows_content (l ∷ ls) [] h = absurd h
rows_content (l ∷ ls) (r ∷ rs) h = (h.0.content, rows_content ls rs h.1)

pub rows_plain : (ls : List (List ℕ)) (rs : List (List ℤ)) → AreRowLines ls rs → ArePlain ls
rows_plain [] rs h = tt
rows_plain (l ∷ ls) [] h = absurd h
rows_plain (l ∷ ls) (r ∷ rs) h = (h.0.plain, rows_plain ls rs h.1)
