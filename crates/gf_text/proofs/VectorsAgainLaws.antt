-- A printed vector is read again.
-- To cite: vectors_again. The rest are steps.
use Rattle.std.proofs.Common.{◌≡◌, ◌≤◌, ◌+◌, ℕ, suc, ℤ, pos, negsuc, false, List, [], ◌∷◌, ◌++◌, length, flat_map, decimal, refl, ap, inl, inr, All}
use Rattle.std.proofs.Common.{append_assoc, arith}
use Rattle.std.specs.List.{AllByRecursion}
use Rattle.gf_text.specs.declared.error.TextError.{TextError}
use Rattle.gf_text.specs.declared.error.TextError.TheVariants as errors
use Rattle.gf_text.specs.Marks.{parenthesis, parenthesis_end, comma, minus_mark}
use Rattle.gf_text.specs.Tokens.{lexemes, word_more, Position}
use Rattle.gf_text.specs.VectorText.{most_entry, IsSizeText, IsEntryText, AreMoreEntries, IsVectorText, IsEntryWithin, entry_text, entries_text, vector_text}
use Rattle.gf_text.specs.Vectors.{IsVectorRead, IsVectorCause, IsReadAsVector, VectorsAreReadAgain}
use Rattle.gf_text.proofs.SpelledLaws.{IsSpelled, goes_on, spelled-none, spelled-token, spelled-++, spelled-read, mark_token}
use Rattle.gf_text.proofs.PrintedTokensLaws.{decimal_number, number_word}
use Rattle.gf_text.proofs.VectorTextLaws.{one_vector}

abbrev Texts : Type 0
Texts = List (List ℕ)

-- the tokens of a printed entry
record Entry (z : ℤ) (rest : List ℕ) : Type 0 where
  tokens : Texts
  spelled : IsSpelled word_more (entry_text z) rest tokens
  said : IsEntryText tokens z

digits_spelled : (n : ℕ) (rest : List ℕ) → n ≤ most_entry → goes_on rest ≡ false → IsSpelled word_more (decimal n) rest (decimal n ∷ [])
digits_spelled n rest small stops = spelled-token word_more (decimal n) rest (number_word (decimal n) rest (decimal_number n (omega arith)).0 stops)

is_size : (n : ℕ) → n ≤ most_entry → IsSizeText (decimal n) n
is_size n small = let d = decimal_number n (omega arith) in (d.0, d.1, small)

entry_spelled : (z : ℤ) (rest : List ℕ) → IsEntryWithin z → goes_on rest ≡ false → Entry z rest
entry_spelled (pos n) rest small stops = record {
  tokens = decimal n ∷ [];
  spelled = digits_spelled n rest small stops;
  said = (decimal n, n, is_size n small, inl (refl, refl));
}
entry_spelled (negsuc n) rest small stops = record {
  tokens = minus_mark ∷ decimal (suc n) ∷ [];
  spelled = spelled-++ word_more minus_mark (decimal (suc n)) rest (minus_mark ∷ []) (decimal (suc n) ∷ [])
      (spelled-token word_more minus_mark (decimal (suc n) ++ rest) (mark_token 45 (decimal (suc n) ++ rest) refl refl))
      (digits_spelled (suc n) rest small stops);
  said = (decimal (suc n), suc n, is_size (suc n) small, inr (refl, refl));
}

-- behind an entry no number goes on
entry_stops : (zs : List ℤ) (text : List ℕ) → goes_on (flat_map (λ y. 44 ∷ entry_text y) zs ++ 41 ∷ text) ≡ false
entry_stops [] text = refl
entry_stops (z ∷ zs) text = refl

-- the tokens of more printed entries
record More (zs : List ℤ) (text : List ℕ) : Type 0 where
  tokens : Texts
  spelled : IsSpelled word_more (flat_map (λ y. 44 ∷ entry_text y) zs) (41 ∷ text) tokens
  said : AreMoreEntries tokens zs

more_spelled : (zs : List ℤ) (text : List ℕ) → AllByRecursion IsEntryWithin zs → More zs text
more_spelled [] text small = record { tokens = []; spelled = spelled-none word_more (41 ∷ text); said = refl }
more_spelled (z ∷ zs) text small =
    let rest = flat_map (λ y. 44 ∷ entry_text y) zs in
    let entry = entry_spelled z (rest ++ 41 ∷ text) small.0 (entry_stops zs text) in
    let more = more_spelled zs text small.1 in
    let both = spelled-++ word_more (entry_text z) rest (41 ∷ text) entry.tokens more.tokens entry.spelled more.spelled in
    let mark = spelled-token word_more comma ((entry_text z ++ rest) ++ 41 ∷ text) (mark_token 44 ((entry_text z ++ rest) ++ 41 ∷ text) refl refl) in
    record {
      tokens = comma ∷ (entry.tokens ++ more.tokens);
      spelled = spelled-++ word_more comma (entry_text z ++ rest) (41 ∷ text) (comma ∷ []) (entry.tokens ++ more.tokens) mark both;
      said = (entry.tokens, more.tokens, refl, entry.said, more.said);
    }

-- the tokens of a printed vector but for its last one
record Front (zs : List ℤ) (text : List ℕ) : Type 0 where
  tokens : Texts
  spelled : IsSpelled word_more (40 ∷ entries_text zs) (41 ∷ text) tokens
  said : IsVectorText (tokens ++ parenthesis_end ∷ []) zs

front_spelled : (zs : List ℤ) (text : List ℕ) → AllByRecursion IsEntryWithin zs → Front zs text
front_spelled [] text small = record {
  tokens = parenthesis ∷ [];
  spelled = spelled-token word_more parenthesis (41 ∷ text) (mark_token 40 (41 ∷ text) refl refl);
  said = refl;
}
front_spelled (z ∷ zs) text small =
    let rest = flat_map (λ y. 44 ∷ entry_text y) zs in
    let entry = entry_spelled z (rest ++ 41 ∷ text) small.0 (entry_stops zs text) in
    let more = more_spelled zs text small.1 in
    let both = spelled-++ word_more (entry_text z) rest (41 ∷ text) entry.tokens more.tokens entry.spelled more.spelled in
    let mark = spelled-token word_more parenthesis ((entry_text z ++ rest) ++ 41 ∷ text) (mark_token 40 ((entry_text z ++ rest) ++ 41 ∷ text) refl refl) in
    record {
      tokens = parenthesis ∷ (entry.tokens ++ more.tokens);
      spelled = spelled-++ word_more parenthesis (entry_text z ++ rest) (41 ∷ text) (parenthesis ∷ []) (entry.tokens ++ more.tokens) mark both;
      said = (entry.tokens, more.tokens, ap (λ l. parenthesis ∷ l) (append_assoc entry.tokens more.tokens (parenthesis_end ∷ [])), entry.said, more.said);
    }

-- a vector that is read is the only one, and isn't refused
read_as : (old : Position) (place : ℕ) (zs : List ℤ) → IsVectorRead old place zs → IsReadAsVector old place zs
read_as old place zs a = record { read = a; only = only; taken = taken }
  where
    only : (end : ℕ) (ys : List ℤ) → IsVectorRead old end ys → (end ≡ place) × (ys ≡ zs)
    only end ys b = let same = one_vector (lexemes word_more old.source old.at) ys zs end place b a in (same.1, same.0)

    taken : (e : TextError) → IsVectorCause old e → e ≡ errors.Memory
    taken (errors.Overflow o) h = absurd h
    taken (errors.Exponent o) h = absurd h
    taken (errors.Syntax s) h = absurd (h.none zs place a)
    taken (errors.TooWide at) h = absurd (h.none zs place a)
    taken (errors.UnknownName at) h = absurd h
    taken (errors.TooManyVariables count) h = absurd h
    taken (errors.ZeroPolynomial set index) h = absurd h
    taken errors.Memory h = refl

one_by_one : (zs : List ℤ) → All IsEntryWithin zs → AllByRecursion IsEntryWithin zs
one_by_one [] h = tt
one_by_one (z ∷ zs) h = (h 0 z (omega arith), one_by_one zs (λ k d below. h (suc k) d (omega arith)))

pub vectors_again : VectorsAreReadAgain
vectors_again zs before text small =
    let front = front_spelled zs text (one_by_one zs small) in
    read_as (record { source = before ++ (vector_text zs ++ text); at = length before }) (length before + length (vector_text zs)) zs
    (spelled-read word_more IsVectorText zs before (40 ∷ entries_text zs) parenthesis_end text front.tokens front.spelled (mark_token 41 text refl refl)
    front.said)
