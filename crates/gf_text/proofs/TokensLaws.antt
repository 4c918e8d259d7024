-- The tokens of a text, one after another.
-- To cite: lex-skip, token_at, no_token, token-fits, behind-lexeme; lexemes-behind; word_more-fits, ring_more-fits; value-passes. The rest are steps.
use Rattle.std.proofs.Common.{◌≡◌, ◌≢◌, ◌<◌, ◌≤◌, ℕ, zero, suc, ◌+◌, ◌-◌, ◌*◌, Bool, true, false, cond, List, [], ◌∷◌, ◌++◌, length, drop, take, take_while}
use Rattle.std.proofs.Common.{nat_eq, get_or, add-one, refl, sym, ap, ◌∙◌, inl, inr, arith, if◌then◌else◌}
use Rattle.std.proofs.Math.Seq.{drop-cons}
use Rattle.std.proofs.lemmas.List.{drop-drop, length-take, length-drop}
use Rattle.std.proofs.lemmas.List.Sums.{prefix_len-le-length}
use Rattle.std.proofs.lemmas.List.Folds.{length-prefix_len}
use Rattle.std.specs.List.{prefix_len, starts_with}
use Rattle.std.proofs.lemmas.Bool.Decides.{eqb_tells}
use lib.Pointwise.{pointwise_long}
use Rattle.gf_text.specs.Machine.{Lexeme, behind, behind_all}
use Rattle.gf_text.specs.Tokens.{is_space, is_digit, is_letter, is_name_byte, spaces, value_from, longest, word_more, ring_more, lex_tokens, lexemes, lexeme}

module _ (more : List ℕ → ℕ) where
  -- bytes of a token before are passed over
  pub lex-skip : (k at : ℕ) (bytes : List ℕ) → lex_tokens more k at bytes ≡ lex_tokens more 0 (at + k) (drop k bytes)
  unfolding lex_tokens
  lex-skip zero at bytes = ap (λ n. lex_tokens more 0 n bytes) (omega arith)
  lex-skip (suc k) at [] = refl
  lex-skip (suc k) at (b ∷ bs) = let places : (at + 1) + k ≡ at + suc k =
      omega arith in lex-skip k (at + 1) bs ∙ ap (λ n. lex_tokens more 0 n (drop k bs)) places

  -- the token behind k bytes, and the tokens behind it
  from_token : ℕ → List ℕ → ℕ → List Lexeme
  from_token at bytes k = record {
    text = get_or bytes k 0 ∷ take (more (drop k bytes)) (drop (suc k) bytes);
    at = at + k;
  } ∷ lex_tokens more (more (drop k bytes)) ((at + k) + 1) (drop (suc k) bytes)

  first_by : (b : ℕ) (bs : List ℕ) (at : ℕ) (v : Bool)
      → (prefix_len is_space bs < length bs → lex_tokens more 0 (at + 1) bs ≡ from_token (at + 1) bs (prefix_len is_space bs))
      → cond v (1 + prefix_len is_space bs) 0 < suc (length bs)
      → (if v then lex_tokens more 0 (at + 1) bs else record { text = b ∷ take (more (b ∷ bs)) bs; at = at } ∷ lex_tokens more (more (b ∷ bs)) (at + 1) bs) ≡
      from_token at (b ∷ bs) (cond v (1 + prefix_len is_space bs) 0)
  unfolding from_token
  first_by b bs at true later h =
      let k = prefix_len is_space bs in
      let next : 1 + k ≡ suc k = omega arith in
      let place : (at + 1) + k ≡ at + suc k = omega arith in
      later (omega arith) ∙ rw (next, place) refl
  first_by b bs at false later h = let place : at + 0 ≡ at = omega arith in rw place refl

  first_token : (at : ℕ) (bytes : List ℕ) → prefix_len is_space bytes < length bytes →
      lex_tokens more 0 at bytes ≡ from_token at bytes (prefix_len is_space bytes)
  unfolding lex_tokens
  first_token at [] h = absurd (omega arith)
  first_token at (b ∷ bs) h = first_by b bs at (is_space b) (first_token (at + 1) bs) h

  none_by : (b : ℕ) (bs : List ℕ) (at : ℕ) (v : Bool) → (length bs ≤ prefix_len is_space bs → lex_tokens more 0 (at + 1) bs ≡ []) →
      suc (length bs) ≤ cond v (1 + prefix_len is_space bs) 0
      → (if v then lex_tokens more 0 (at + 1) bs else record { text = b ∷ take (more (b ∷ bs)) bs; at = at } ∷ lex_tokens more (more (b ∷ bs)) (at + 1) bs) ≡ []
  none_by b bs at true later h = later (omega arith)
  none_by b bs at false later h = absurd (omega arith)

  spaces_only : (at : ℕ) (bytes : List ℕ) → length bytes ≤ prefix_len is_space bytes → lex_tokens more 0 at bytes ≡ []
  unfolding lex_tokens
  spaces_only at [] h = refl
  spaces_only at (b ∷ bs) h = none_by b bs at (is_space b) (spaces_only (at + 1) bs) h

  -- white space up to the end: no token
  pub no_token : (source : List ℕ) (at k : ℕ) → at ≤ length source → k ≡ length (spaces (drop at source)) → at + k ≡ length source → lexemes more source at ≡ []
  no_token source at k within h end =
      let rest = drop at source in
      spaces_only at rest (omega (arith, length-drop at source, length-prefix_len is_space rest))

  -- the first token at a place or behind it
  next_token : (source : List ℕ) (at start end : ℕ) → prefix_len is_space (drop at source) < length (drop at source)
      → start ≡ at + prefix_len is_space (drop at source) → end ≡ start + 1 + more (drop start source)
      → lexemes more source at ≡ lexeme source start end ∷ lexemes more source end
  unfolding from_token
  next_token source at start end h starts ends =
      let bytes = drop at source in
      let k = prefix_len is_space bytes in
      let first = get_or bytes k 0 in
      let rest = drop start source in
      let later = drop (suc start) source in
      let n = more rest in
      let place : at + k ≡ start = omega arith in
      let here : drop k bytes ≡ rest = drop-drop k at source ∙ ap (λ i. drop i source) place in
      let place_later : at + suc k ≡ suc start = omega arith in
      let there : drop (suc k) bytes ≡ later = drop-drop (suc k) at source ∙ ap (λ i. drop i source) place_later in
      let front : rest ≡ first ∷ later = sym here ∙ drop-cons bytes k 0 h ∙ ap (λ l. first ∷ l) there in
      let shape = λ (r l : List ℕ) (p : ℕ). record { text = first ∷ take (more r) l; at = p } ∷ lex_tokens more (more r) (p + 1) l in
      let len : end - start ≡ suc n = omega arith in
      let text : first ∷ take n later ≡ take (end - start) rest = rw (len, front) refl in
      let end_place : suc start + n ≡ end = omega arith in
      let end_place_again : (start + 1) + n ≡ end = omega arith in
      let tail : lex_tokens more n (start + 1) later ≡ lexemes more source end =
      lex-skip n (start + 1) later ∙ ap (λ l. lex_tokens more 0 ((start + 1) + n) l) (drop-drop n (suc start) source ∙ ap (λ i. drop i source) end_place) ∙
      ap (λ p. lex_tokens more 0 p (drop end source)) end_place_again in
      first_token at bytes h
      ∙ ap (λ r. shape r (drop (suc k) bytes) (at + k)) here
      ∙ ap (λ l. shape rest l (at + k)) there
      ∙ ap (λ p. shape rest later p) place
      ∙ ap (λ t. record { text = t; at = start } ∷ lex_tokens more n (start + 1) later) text
      ∙ ap (λ xs. lexeme source start end ∷ xs) tail

  -- the first token at a place or behind it: it begins behind k bytes of white space
  pub token_at : (source : List ℕ) (at k : ℕ) → at ≤ length source → k ≡ length (spaces (drop at source)) → at + k ≢ length source
      → lexemes more source at ≡ lexeme source (at + k) (at + k + 1 + more (drop (at + k) source)) ∷ lexemes more source
      (at + k + 1 + more (drop (at + k) source))
  token_at source at k within h some =
      let rest = drop at source in
      let spaces_len = length-prefix_len is_space rest in
      let fits = prefix_len-le-length is_space rest in
      next_token source at (at + k) (at + k + 1 + more (drop (at + k) source)) (omega (arith, length-drop at source)) (omega arith) refl

  -- a token is within the source
  pub token-fits : ((text : List ℕ) → 0 < length text → more text < length text) → (source : List ℕ) (at k : ℕ) → at ≤ length source →
      k ≡ length (spaces (drop at source)) → at + k ≢ length source
      → at + k + 1 + more (drop (at + k) source) ≤ length source
  token-fits fits source at k within h some =
      let rest = drop at source in
      let spaces_len = length-prefix_len is_space rest in
      let all = prefix_len-le-length is_space rest in
      let starts : at + k < length source = omega (arith, length-drop at source) in
      omega (arith, length-drop (at + k) source, fits (drop (at + k) source) (omega (arith, length-drop (at + k) source)))

-- the place behind a token between two places is the second
pub behind-lexeme : (source : List ℕ) (start end : ℕ) → start < end → end ≤ length source → behind (lexeme source start end) ≡ end
behind-lexeme source start end rises within = omega (arith, length-take (end - start) (drop start source), length-drop start source)

module _ (more : List ℕ → ℕ) where
  -- ---- the tokens behind a token

  tail_of : (x y : Lexeme) (xs ys : List Lexeme) → x ∷ xs ≡ y ∷ ys → (x ≡ y) × (xs ≡ ys)
  tail_of x y xs ys e = (cc, cc)

  module _ (fits : (text : List ℕ) → 0 < length text → more text < length text) where
    lexemes-next : (source : List ℕ) (at : ℕ) (x : Lexeme) (xs : List Lexeme) → at ≤ length source → lexemes more source at ≡ x ∷ xs →
        (xs ≡ lexemes more source (behind x)) × (behind x ≤ length source)
    lexemes-next source at x xs within tokens = elim (eqb_tells (at + k) (length source)) [
      | inl h ↦ (let none = no_token more source at k within refl h.1 in absurd (let no : ⊥ = cc in no))
      | inr h ↦ some h.1
    ]
      where
        k : ℕ
        k = length (spaces (drop at source))

        some : at + k ≢ length source → (xs ≡ lexemes more source (behind x)) × (behind x ≤ length source)
        some ne =
            let end = at + k + 1 + more (drop (at + k) source) in
            let both = tail_of (lexeme source (at + k) end) x (lexemes more source end) xs (sym (token_at more source at k within refl ne) ∙ tokens) in
            let last = token-fits more fits source at k within refl ne in
            let place : behind x ≡ end = ap behind (sym both.0) ∙ behind-lexeme source (at + k) end (omega arith) last in
            (sym both.1 ∙ ap (lexemes more source) (sym place), omega arith)

    -- behind tokens the source is cut into tokens as it is from the place behind them on
    pub lexemes-behind : (source : List ℕ) (at : ℕ) (front back : List Lexeme) → at ≤ length source → lexemes more source at ≡ front ++ back →
        back ≡ lexemes more source (behind_all at front)
    lexemes-behind source at [] back within tokens = sym tokens
    lexemes-behind source at (x ∷ front) back within tokens =
        let next = lexemes-next source at x (front ++ back) within tokens in
        lexemes-behind source (behind x) front back next.1 (sym next.0)

-- ---- the longest name

starts-le : (text n : List ℕ) → (v : Bool) → starts_with nat_eq text n ≡ v → (if v then length n else 0) ≤ length text
starts-le text n true is = omega (arith, pointwise_long nat_eq n (take (length n) text) is, length-take (length n) text)
starts-le text n false is = omega arith

longest-le : (ring : List (List ℕ)) (text : List ℕ) → longest ring text ≤ length text
longest-le [] text = omega arith
longest-le (n ∷ ns) text = omega (arith, starts-le text n (starts_with nat_eq text n) refl, longest-le ns text)

pub word_more-fits : (text : List ℕ) → 0 < length text → word_more text < length text
word_more-fits [] some = absurd (omega arith)
word_more-fits (b ∷ bs) some = by (is_digit b) (is_letter b)
  where
    by : (v w : Bool) → (if v then length (take_while is_digit bs) else if w then length (take_while is_name_byte bs) else 0) < suc (length bs)
    by true w = omega (arith, length-prefix_len is_digit bs, prefix_len-le-length is_digit bs)
    by false true = omega (arith, length-prefix_len is_name_byte bs, prefix_len-le-length is_name_byte bs)
    by false false = omega arith

-- what follows the first byte of a token is within the text
pub ring_more-fits : (ring : List (List ℕ)) (text : List ℕ) → 0 < length text → ring_more ring text < length text
ring_more-fits ring [] some = absurd (omega arith)
ring_more-fits ring (b ∷ bs) some = by (is_digit b) (is_letter b)
  where
    by : (v w : Bool) → (if v then length (take_while is_digit bs) else if w then longest ring (b ∷ bs) - 1 else 0) < suc (length bs)
    by true w = omega (arith, length-prefix_len is_digit bs, prefix_len-le-length is_digit bs)
    by false true = omega (arith, longest-le ring (b ∷ bs))
    by false false = omega arith

-- ---- numbers

-- more digits make a number no less
value-grows : (n : ℕ) (ds : List ℕ) → n ≤ value_from n ds
value-grows n [] = omega arith
value-grows n (d ∷ ds) = omega (arith, value-grows (10 * n + (d - 48)) ds)

-- a number that is past a limit before its last digit is past it
pub value-passes : (n : ℕ) (ds : List ℕ) (i most : ℕ) → i < length ds → most < 10 * n + (get_or ds i 0 - 48) → most < value_from n (drop i ds)
value-passes n ds i most h past =
    let d = get_or ds i 0 in
    let front : drop i ds ≡ d ∷ drop (i + 1) ds = rw add-one (drop-cons ds i 0 h) in
    rw front (omega (arith, value-grows (10 * n + (d - 48)) (drop (i + 1) ds)))
