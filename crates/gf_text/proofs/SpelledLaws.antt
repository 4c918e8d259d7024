-- Bytes that spell tokens: what the tokens of a text are where pieces of it stand one after another.
-- To cite: IsToken, IsSpelled, spelled-none, spelled-token, spelled-space, spelled-++, spelled-read; mark_token, word_token. The rest are steps.
use Rattle.std.proofs.Common.{◌≡◌, ◌≤◌, ℕ, ◌+◌, Bool, true, false, List, [], ◌∷◌, ◌++◌, length, take, refl, sym, ap, ◌∙◌, subst, arith, append_assoc}
use Rattle.std.proofs.Common.{length-append}
use Rattle.std.proofs.lemmas.Bool.Decides.{nat_tests}
use Rattle.std.proofs.lemmas.List.Folds.{length-prefix_len}
use Rattle.std.proofs.Math.Seq.{drop-append_seam, take-append_seam}
use Rattle.std.specs.List.{list_all, prefix_len}
use Rattle.gf_text.specs.Machine.{Lexeme, behind, texts, behind_all, Reads}
use Rattle.gf_text.specs.Tokens.{is_space, is_digit, is_letter, is_name_byte, word_more, lex_tokens, lexemes}
use Rattle.gf_text.specs.RingText.{is_name}
use Rattle.gf_text.proofs.TokensLaws.{lex-skip}
use Rattle.std.proofs.lemmas.Bool.{and_parts}

-- t is the whole token at the front of t and the rest
pub record IsToken (more : List ℕ → ℕ) (t rest : List ℕ) : Type 0 where
  pub first : ℕ
  pub others : List ℕ
  pub shape : t ≡ first ∷ others
  pub visible : is_space first ≡ false
  pub whole : more (first ∷ (others ++ rest)) ≡ length others

-- before the rest, these bytes spell tokens with these texts
pub record IsSpelled (more : List ℕ → ℕ) (bs rest : List ℕ) (ts : List (List ℕ)) : Type 0 where
  pub tokens : ℕ → List Lexeme
  pub lexed : (at : ℕ) → lex_tokens more 0 at (bs ++ rest) ≡ tokens at ++ lex_tokens more 0 (at + length bs) rest
  pub said : (at : ℕ) → texts (tokens at) ≡ ts

pub texts-++ : (xs ys : List Lexeme) → texts (xs ++ ys) ≡ texts xs ++ texts ys
texts-++ [] ys = refl
texts-++ (x ∷ xs) ys = ap (λ l. x.text ∷ l) (texts-++ xs ys)

behind_last : (d : ℕ) (xs : List Lexeme) (y : Lexeme) → behind_all d (xs ++ y ∷ []) ≡ behind y
behind_last d [] y = refl
behind_last d (x ∷ xs) y = behind_last (behind x) xs y

module _ (more : List ℕ → ℕ) where
  pub spelled-none : (rest : List ℕ) → IsSpelled more [] rest []
  spelled-none rest = record {
    tokens = λ at. [];
    lexed = λ at. (let here : at ≡ at + 0 = omega arith in ap (λ n. lex_tokens more 0 n rest) here);
    said = λ at. refl;
  }

  lex-first : (b at : ℕ) (bs : List ℕ) → is_space b ≡ false → lex_tokens more 0 at (b ∷ bs) ≡ record {
    text = b ∷ take (more (b ∷ bs)) bs;
    at =
        at;
  } ∷ lex_tokens more (more (b ∷ bs)) (at + 1) bs
  unfolding lex_tokens
  lex-first b at bs visible = rw visible refl

  pub lex-space : (b at : ℕ) (bs : List ℕ) → is_space b ≡ true → lex_tokens more 0 at (b ∷ bs) ≡ lex_tokens more 0 (at + 1) bs
  unfolding lex_tokens
  lex-space b at bs space = rw space refl

  pub lex-token : (at : ℕ) (t rest : List ℕ) → IsToken more t rest → lex_tokens more 0 at (t ++ rest) ≡ record {
    text = t;
    at =
        at;
  } ∷ lex_tokens more 0 (at + length t) rest
  lex-token at t rest h =
      let b = h.first in
      let bs = h.others in
      let text : take (more (b ∷ (bs ++ rest))) (bs ++ rest) ≡ bs = ap (λ n. take n (bs ++ rest)) h.whole ∙ take-append_seam bs rest in
      let place : (at + 1) + length bs ≡ at + length (b ∷ bs) = omega arith in
      let later : lex_tokens more (more (b ∷ (bs ++ rest))) (at + 1) (bs ++ rest) ≡ lex_tokens more 0 (at + length (b ∷ bs)) rest =
      ap (λ n. lex_tokens more n (at + 1) (bs ++ rest)) h.whole ∙ lex-skip more (length bs) (at + 1) (bs ++ rest)
      ∙ ap (λ l. lex_tokens more 0 ((at + 1) + length bs) l) (drop-append_seam bs rest) ∙ ap (λ n. lex_tokens more 0 n rest) place in
      let P : List ℕ → Type 0 = λ s. lex_tokens more 0 at (s ++ rest) ≡ record { text = s; at = at } ∷ lex_tokens more 0 (at + length s) rest in
      subst P (sym h.shape) (
      lex-first b at (bs ++ rest) h.visible
      ∙ ap (λ s. record { text = b ∷ s; at = at } ∷ lex_tokens more (more (b ∷ (bs ++ rest))) (at + 1) (bs ++ rest)) text
      ∙ ap (λ l. record { text = b ∷ bs; at = at } ∷ l) later
      )

  pub spelled-token : (t rest : List ℕ) → IsToken more t rest → IsSpelled more t rest (t ∷ [])
  spelled-token t rest h = record { tokens = λ at. record { text = t; at = at } ∷ []; lexed = λ at. lex-token at t rest h; said = λ at. refl }

  pub spelled-space : (b : ℕ) (rest : List ℕ) → is_space b ≡ true → IsSpelled more (b ∷ []) rest []
  spelled-space b rest space = record { tokens = λ at. []; lexed = λ at. lex-space b at rest space; said = λ at. refl }

  pub spelled-++ : (bs cs rest : List ℕ) (ts us : List (List ℕ)) → IsSpelled more bs (cs ++ rest) ts → IsSpelled more cs rest us →
      IsSpelled more (bs ++ cs) rest (ts ++ us)
  spelled-++ bs cs rest ts us h k = record {
    tokens = λ at. h.tokens at ++ k.tokens (at + length bs);
    lexed = λ at. (
        let place : (at + length bs) + length cs ≡ at + length (bs ++ cs) = omega (arith, length-append bs cs) in
        ap (lex_tokens more 0 at) (append_assoc bs cs rest) ∙ h.lexed at ∙ ap (λ l. h.tokens at ++ l) (k.lexed (at + length bs))
        ∙ sym (append_assoc (h.tokens at) (k.tokens (at + length bs)) (lex_tokens more 0 ((at + length bs) + length cs) rest))
        ∙ ap (λ n. (h.tokens at ++ k.tokens (at + length bs)) ++ lex_tokens more 0 n rest) place
        );
    said = λ at. texts-++ (h.tokens at) (k.tokens (at + length bs)) ∙ ap (λ l. l ++ texts (k.tokens (at + length bs))) (h.said at) ∙
        ap (λ l. ts ++ l) (k.said (at + length bs));
  }

  -- what a text says whose last token is t, wherever it stands
  pub spelled-read : {A : Type 0} (grammar : List (List ℕ) → A → Type 0) (a : A) (before bs t rest : List ℕ) (ts : List (List ℕ)) →
      IsSpelled more bs (t ++ rest) ts → IsToken more t rest → grammar (ts ++ t ∷ []) a
      → Reads grammar (lexemes more (before ++ ((bs ++ t) ++ rest)) (length before)) a (length before + length (bs ++ t))
  spelled-read grammar a before bs t rest ts h is g =
      let at = length before in
      let source = before ++ ((bs ++ t) ++ rest) in
      let last : Lexeme = record { text = t; at = at + length bs } in
      let back = lex_tokens more 0 ((at + length bs) + length t) rest in
      let ends : behind last ≡ at + length (bs ++ t) = omega (arith, length-append bs t) in
      record {
        front = h.tokens at ++ last ∷ [];
        back = back;
        whole = ap (lex_tokens more 0 at) (drop-append_seam before ((bs ++ t) ++ rest) ∙ append_assoc bs t rest) ∙ h.lexed at
            ∙ ap (λ l. h.tokens at ++ l) (lex-token (at + length bs) t rest is) ∙ sym (append_assoc (h.tokens at) (last ∷ []) back);
        text = subst (λ l. grammar l a) (sym (texts-++ (h.tokens at) (last ∷ []) ∙ ap (λ l. l ++ t ∷ []) (h.said at))) g;
        end = behind_last 0 (h.tokens at) last ∙ ends;
      }

-- ---- the tokens of rings

-- a mark
pub mark_token : (b : ℕ) (rest : List ℕ) → is_space b ≡ false → word_more (b ∷ rest) ≡ 0 → IsToken word_more (b ∷ []) rest
mark_token b rest visible whole = record { first = b; others = []; shape = refl; visible = visible; whole = whole }

-- the text begins with a letter, a digit or _
abbrev pub goes_on : List ℕ → Bool
goes_on [] = false
goes_on (b ∷ bs) = is_name_byte b

name_end : (cs rest : List ℕ) → list_all is_name_byte cs ≡ true → goes_on rest ≡ false → prefix_len is_name_byte (cs ++ rest) ≡ length cs
name_end [] [] all stops = refl
name_end [] (b ∷ rest) all stops = rw stops refl
name_end (c ∷ cs) rest all stops =
    let both = and_parts (is_name_byte c) (list_all is_name_byte cs) all in
    rw both.0 (omega (arith, name_end cs rest both.1 stops))

letter-least : (b : ℕ) → is_letter b ≡ true → 65 ≤ b
letter-least b h = grind (arith, nat_tests, h)

digit-most : (b : ℕ) → 65 ≤ b → is_digit b ≡ false
digit-most b h = grind (arith, nat_tests, h)

space-most : (b : ℕ) → 65 ≤ b → is_space b ≡ false
space-most b h = grind (arith, nat_tests, h)

-- a name, where what follows it is no part of it
pub word_token : (n rest : List ℕ) → is_name n ≡ true → goes_on rest ≡ false → IsToken word_more n rest
word_token [] rest named stops = cc
word_token (c ∷ cs) rest named stops =
    let both = and_parts (is_letter c) (list_all is_name_byte cs) named in
    let least = letter-least c both.0 in
    record {
      first = c;
      others = cs;
      shape = refl;
      visible = space-most c least;
      whole = rw (digit-most c least, both.0) (length-prefix_len is_name_byte (cs ++ rest) ∙ name_end cs rest both.1 stops);
    }
