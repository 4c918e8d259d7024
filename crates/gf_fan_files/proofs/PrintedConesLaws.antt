-- The tokens of printed numbers and lists of ray numbers, with or without a comment behind.
-- To cite: IsNumber, AreNumbers, number_is, number_no, number_holds, IsConeLine, AreConeLines, cone_as_line, cones_hold, cones_content, cones_plain,
-- numbers_content, numbers_no. The rest are steps.
use Rattle.std.proofs.Common.{◌≡◌, ◌≤◌, ℕ, ◌+◌, true, false, ◌==◌, not, List, [], ◌∷◌, ◌++◌, length, map, flat_map, decimal, refl, sym, ap, subst, ◌∙◌}
use Rattle.std.proofs.Common.{append-nil, bytes_eq, arith}
use Rattle.std.specs.List.{AllByRecursion}
use Rattle.gf_text.specs.Machine.{Lexeme, texts, behind}
use Rattle.gf_text.specs.Marks.{minus_mark, brace, brace_end}
use Rattle.gf_text.specs.Tokens.{is_digit, is_number, decimal_value, lex_tokens, word_more}
use Rattle.gf_text.proofs.SetTokensLaws.{number_no_mark}
use Rattle.gf_text.proofs.PrintedTokensLaws.{decimal_number, number_word}
use Rattle.gf_text.proofs.SpelledLaws.{IsSpelled, goes_on, mark_token, spelled-none, spelled-token, spelled-space, spelled-++}
use Rattle.gf_fan_files.specs.Lines.{all_parted, line_tokens, line_end, section_end, content_tokens}
use Rattle.gf_fan_files.specs.ConeText.{most_number, AreNumberTexts, IsConeNumbersText, AreConeTexts}
use Rattle.gf_fan_files.specs.NumberText.{IsOneNumberText}
use Rattle.gf_fan_files.specs.FanWords.{spaced_numbers, cone_text}
use Rattle.gf_fan_files.proofs.WrittenLaws.{no_byte, IsContentLine, AreContentLines, ArePlain, contents}
use Rattle.gf_fan_files.proofs.PrintedRowsLaws.{no_byte-++, digits_no, number_digits, IsTail, no_tail, first_digit, line_texts}

-- ---- numbers

-- a number within its limit
abbrev pub IsNumber : ℕ → Type 0
IsNumber n = n ≤ most_number

abbrev pub AreNumbers : List ℕ → Type 0
AreNumbers ns = AllByRecursion (λ n. IsNumber n) ns

pub number_is : (n : ℕ) → IsNumber n → (is_number (decimal n) ≡ true) × (decimal_value (decimal n) ≡ n)
number_is n h = decimal_number n (omega arith)

pub number_no : (c n : ℕ) → IsNumber n → is_digit c ≡ false → no_byte c (decimal n) ≡ true
number_no c n h other = digits_no c (decimal n) (number_digits (decimal n) (number_is n h).0) other

number_spelled : (n : ℕ) (rest : List ℕ) → IsNumber n → goes_on rest ≡ false → IsSpelled word_more (decimal n) rest (decimal n ∷ [])
number_spelled n rest h stops = spelled-token word_more (decimal n) rest (number_word (decimal n) rest (number_is n h).0 stops)

-- numbers, each behind a space
abbrev more_text : List ℕ → List ℕ
more_text ns = flat_map (λ m. 32 ∷ decimal m) ns

abbrev words : List ℕ → List (List ℕ)
words ns = map (λ n. decimal n) ns

more_stops : (ns rest : List ℕ) → goes_on rest ≡ false → goes_on (more_text ns ++ rest) ≡ false
more_stops [] rest h = h
more_stops (n ∷ ns) rest h = refl

more_spelled : (ns rest : List ℕ) → AreNumbers ns → goes_on rest ≡ false → IsSpelled word_more (more_text ns) rest (words ns)
more_spelled [] rest h stops = spelled-none word_more rest
more_spelled (n ∷ ns) rest h stops =
    let later = spelled-++ word_more (decimal n) (more_text ns) rest (decimal n ∷ []) (words ns)
    (number_spelled n (more_text ns ++ rest) h.0 (more_stops ns rest stops)) (more_spelled ns rest h.1 stops) in
    spelled-++ word_more (32 ∷ []) (decimal n ++ more_text ns) rest [] (decimal n ∷ words ns)
    (spelled-space word_more 32 ((decimal n ++ more_text ns) ++ rest) refl) later

numbers_spelled : (ns rest : List ℕ) → AreNumbers ns → goes_on rest ≡ false → IsSpelled word_more (spaced_numbers ns) rest (words ns)
numbers_spelled [] rest h stops = spelled-none word_more rest
numbers_spelled (n ∷ ns) rest h stops = spelled-++ word_more (decimal n) (more_text ns) rest (decimal n ∷ []) (words ns)
    (number_spelled n (more_text ns ++ rest) h.0 (more_stops ns rest stops)) (more_spelled ns rest h.1 stops)

more_no : (c : ℕ) (ns : List ℕ) → AreNumbers ns → is_digit c ≡ false → not (32 == c) ≡ true → no_byte c (more_text ns) ≡ true
more_no c [] h other space = refl
more_no c (n ∷ ns) h other space = rw space (no_byte-++ c (decimal n) (more_text ns) (number_no c n h.0 other) (more_no c ns h.1 other space))

pub numbers_no : (c : ℕ) (ns : List ℕ) → AreNumbers ns → is_digit c ≡ false → not (32 == c) ≡ true → no_byte c (spaced_numbers ns) ≡ true
numbers_no c [] h other space = refl
numbers_no c (n ∷ ns) h other space = no_byte-++ c (decimal n) (more_text ns) (number_no c n h.0 other) (more_no c ns h.1 other space)

pub numbers_content : (n : ℕ) (ns : List ℕ) → AreNumbers (n ∷ ns) → IsContentLine (spaced_numbers (n ∷ ns))
numbers_content n ns h = first_digit (decimal n) (more_text ns) (number_is n h.0).0

-- ---- tokens among which there is no minus

abbrev NoMinus : List (List ℕ) → Type 0
NoMinus [] = Unit {0}
NoMinus (t ∷ ts) = (bytes_eq t minus_mark ≡ false) × NoMinus ts

words_kept : (place : ℕ) (xs : List Lexeme) → NoMinus (texts xs) → all_parted false place xs ≡ xs
words_kept place [] h = refl
words_kept place (x ∷ xs) h = ap (λ v. x ∷ all_parted v (behind x) xs) h.0 ∙ ap (λ l. x ∷ l) (words_kept (behind x) xs h.1)

-- a line that spells tokens without a minus
spelled_line : (bs tail : List ℕ) (ts : List (List ℕ)) (is : IsTail tail) → no_byte 35 bs ≡ true → IsSpelled word_more bs is.blank ts → NoMinus ts → (at : ℕ) →
    texts (line_tokens (record { text = bs ++ tail; at = at })) ≡ ts
spelled_line bs tail ts is bare s none at =
    let xs = s.tokens at in
    let lexed : lex_tokens word_more 0 at (bs ++ is.blank) ≡ xs = s.lexed at ∙ ap (λ l. xs ++ l) (is.none (at + length bs)) ∙ append-nil xs in
    let clear : NoMinus (texts xs) = subst (λ us. NoMinus us) (sym (s.said at)) none in
    ap (λ t. texts (all_parted false at (lex_tokens word_more 0 at t))) (is.left bs bare) ∙ ap (λ ys. texts (all_parted false at ys)) lexed ∙
    ap (λ ys. texts ys) (words_kept at xs clear) ∙ s.said at

words_clear : (ns : List ℕ) (later : List (List ℕ)) → AreNumbers ns → NoMinus later → NoMinus (words ns ++ later)
words_clear [] later h k = k
words_clear (n ∷ ns) later h k = (number_no_mark (decimal n) 45 (number_is n h.0).0 refl, words_clear ns later h.1 k)

-- ---- one number on a line

pub number_holds : (n : ℕ) → IsNumber n → (end at : ℕ) → IsOneNumberText (texts (content_tokens end (contents at (decimal n ∷ [])))) n
number_holds n h end at =
    let is = number_is n h in
    let x = line_tokens (record { text = decimal n; at = at }) in
    let line : texts x ≡ decimal n ∷ [] =
    ap (λ l. texts (line_tokens (record { text = l; at = at }))) (sym (append-nil (decimal n)))
    ∙ spelled_line (decimal n) [] (decimal n ∷ []) no_tail (number_no 35 n h refl) (number_spelled n no_tail.blank h no_tail.stops)
    (number_no_mark (decimal n) 45 is.0 refl, tt) at in
    (decimal n, line_texts end x [] ∙ ap (λ ts. (ts ++ line_end ∷ []) ++ section_end ∷ []) line, (is.0, is.1, h))

-- ---- lines of lists

-- the line says this list, wherever it stands
pub record IsConeLine (l c : List ℕ) : Type 0 where
  pub said : (at : ℕ) → IsConeNumbersText (texts (line_tokens (record { text = l; at = at })) ++ line_end ∷ []) c
  pub content : IsContentLine l
  pub plain : no_byte 10 l ≡ true

numbers_said : (ns : List ℕ) → AreNumbers ns → AreNumberTexts ((words ns ++ brace_end ∷ []) ++ line_end ∷ []) ns
numbers_said [] h = refl
numbers_said (n ∷ ns) h = (let is = number_is n h.0 in (decimal n, (words ns ++ brace_end ∷ []) ++ line_end ∷ [], refl, (is.0, is.1, h.0), numbers_said ns h.1))

cone_no : (c : ℕ) (ns : List ℕ) → AreNumbers ns → is_digit c ≡ false → not (32 == c) ≡ true → not (123 == c) ≡ true → not (125 == c) ≡ true →
    no_byte c (cone_text ns) ≡ true
cone_no c ns h other space brace_on brace_off = rw brace_on (no_byte-++ c (spaced_numbers ns) (125 ∷ []) (numbers_no c ns h other space) (rw brace_off refl))

cone_spelled : (ns rest : List ℕ) → AreNumbers ns → IsSpelled word_more (cone_text ns) rest (brace ∷ (words ns ++ brace_end ∷ []))
cone_spelled ns rest h =
    let end = spelled-token word_more brace_end rest (mark_token 125 rest refl refl) in
    let inner = spelled-++ word_more (spaced_numbers ns) brace_end rest (words ns) (brace_end ∷ []) (numbers_spelled ns (brace_end ++ rest) h refl) end in
    spelled-++ word_more brace (spaced_numbers ns ++ brace_end) rest (brace ∷ []) (words ns ++ brace_end ∷ []) (spelled-token word_more brace
    ((spaced_numbers ns ++ brace_end) ++ rest) (mark_token 123 ((spaced_numbers ns ++ brace_end) ++ rest) refl refl)) inner

pub cone_as_line : (ns tail : List ℕ) → AreNumbers ns → IsTail tail → IsConeLine (cone_text ns ++ tail) ns
cone_as_line ns tail h is = record {
  said = λ at. (
      let ts = brace ∷ (words ns ++ brace_end ∷ []) in
      let line = spelled_line (cone_text ns) tail ts is (cone_no 35 ns h refl refl refl refl) (cone_spelled ns is.blank h)
      (refl, words_clear ns (brace_end ∷ []) h (refl, tt)) at in
      subst (λ us. IsConeNumbersText (us ++ line_end ∷ []) ns) (sym line) ((words ns ++ brace_end ∷ []) ++ line_end ∷ [], refl, numbers_said ns h)
      );
  content = record { first = 123; others = (spaced_numbers ns ++ 125 ∷ []) ++ tail; shape = refl; visible = refl; small = refl; bare = refl };
  plain = no_byte-++ 10 (cone_text ns) tail (cone_no 10 ns h refl refl refl refl) is.plain;
}

-- lines that say these lists
abbrev pub AreConeLines : List (List ℕ) → List (List ℕ) → Type 0
AreConeLines [] [] = Unit {0}
AreConeLines [] (c ∷ cs) = ⊥
AreConeLines (l ∷ ls) [] = ⊥
AreConeLines (l ∷ ls) (c ∷ cs) = IsConeLine l c × AreConeLines ls cs

pub cones_hold : (ls cs : List (List ℕ)) → AreConeLines ls cs → (end at : ℕ) → AreConeTexts (texts (content_tokens end (contents at ls))) cs
cones_hold [] [] h end at = refl
cones_hold [] (c ∷ cs) h end at = absurd h
cones_hold (l ∷ ls) [] h end at = absurd h
cones_hold (l ∷ ls) (c ∷ cs) h end at =
    let x = line_tokens (record { text = l; at = at }) in
    let later = contents (at + length l + 1) ls in
    (texts x ++ line_end ∷ [], texts (content_tokens end later), line_texts end x later, h.0.said at, cones_hold ls cs h.1 end (at + length l + 1))

pub cones_content : (ls cs : List (List ℕ)) → AreConeLines ls cs → AreContentLines ls
cones_content [] cs h = tt
cones_content (l ∷ ls) [] h = absurd h
cones_content (l ∷ ls) (c ∷ cs) h = (h.0.content, cones_content ls cs h.1)

pub cones_plain : (ls cs : List (List ℕ)) → AreConeLines ls cs → ArePlain ls
cones_plain [] cs h = tt
cones_plain (l ∷ ls) [] h = absurd h
cones_plain (l ∷ ls) (c ∷ cs) h = (h.0.plain, cones_plain ls cs h.1)
