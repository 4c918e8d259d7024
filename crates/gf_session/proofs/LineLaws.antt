-- A line byte by byte.
use Rattle.std.proofs.Common.{◌≡◌, ℕ, ◌+◌, ◌≤◌, ◌<◌, List, [], ◌∷◌, ◌++◌, length, take, refl, ap, arith, ◌∙◌, sym, get_or, set, nat_le, Bool, true, false}
use Rattle.std.proofs.Common.{length-append, nat_eq, inl, inr}
use Rattle.std.proofs.lemmas.List.{take_all, take_more_set, take_more, take-append-le, length-take-le, append-nil}
use Rattle.std.proofs.lemmas.Grind.{common_steps}
use Rattle.std.proofs.lemmas.Bool.Decides.{nat_tests}
use Rattle.std.specs.declared.option.Option.{Option}
use Rattle.std.specs.Io.KnownBytes.{Consumes, Keeps, IsAtEnd}
use Rattle.std.proofs.KnownBytes.{Consumes-kept}
use Rattle.gf_session.specs.declared.choice.Choice.{Choice}
use Rattle.gf_session.specs.Choices.{choice_of, narrowed}
use Rattle.gf_session.specs.Lines.{HasNoFeed, IsBegun, IsLineHeard}
use Rattle.gf_session.proofs.ChoiceLaws.{choice-kept}
use Rattle.gf_outside.specs.Moved.{Counts, Took}
use Rattle.gf_outside.proofs.MovedLaws.{Took-append}

-- ---- what is kept

-- a byte that is kept
pub kept-more : (bytes : List ℕ) (count b : ℕ) → count < 81 → length bytes ≡ 81 → take (count + 1) (set bytes count b) ≡ take 81 (take count bytes ++ b ∷ [])
kept-more bytes count b h e =
    let kept : length (take count bytes) ≡ count = length-take-le count bytes (omega arith) in
    let short : length (take count bytes ++ b ∷ []) ≤ 81 = omega (arith, length-append (take count bytes) (b ∷ []), kept) in
    take_more_set bytes count b (omega arith) ∙ sym (take_all 81 (take count bytes ++ b ∷ []) short)

-- a byte that isn't
pub kept-full : (bytes : List ℕ) (b : ℕ) → length bytes ≡ 81 → bytes ≡ take 81 (bytes ++ b ∷ [])
kept-full bytes b e = sym (take-append-le 81 bytes (b ∷ []) (omega arith) ∙ take_all 81 bytes (omega arith))

-- the kept part of a line with one byte more
pub kept-next : (line : List ℕ) (b : ℕ) → take 81 (take 81 line ++ b ∷ []) ≡ take 81 (line ++ b ∷ [])
kept-next line b = if_fits (nat_le (length line) 81) refl
  where
    if_fits : (fits : Bool) → nat_le (length line) 81 ≡ fits → take 81 (take 81 line ++ b ∷ []) ≡ take 81 (line ++ b ∷ [])
    if_fits true e =
        let fits : length line ≤ 81 = grind (arith, nat_tests, e) in
        ap (λ kept. take 81 (kept ++ b ∷ [])) (take_all 81 line fits)
    if_fits false e =
        let long : 81 ≤ length line = grind (arith, nat_tests, e) in
        sym (kept-full (take 81 line) b (length-take-le 81 line long)) ∙ sym (take-append-le 81 line (b ∷ []) long)

-- ---- what is taken

-- nothing more
pub Took-nothing : (a b c : Option (List ℕ)) (m n o k : ℕ) (xs into : List ℕ) → Took a b m n xs → k ≡ 0 → Consumes b c (take k into) → Counts n o k →
    Took a c m o xs
Took-nothing a b c m n o k xs into p none q counts =
    rw append-nil at (Took-append a b c m n o xs [] p (rw none at q) (rw none at counts))

-- one byte more
pub Took-byte : (a b c : Option (List ℕ)) (m n o k : ℕ) (xs into : List ℕ) → Took a b m n xs → k ≡ 1 → length into ≡ 1 → Consumes b c (take k into) →
    Counts n o k → Took a c m o (xs ++ get_or into 0 0 ∷ [])
Took-byte a b c m n o k xs into p one len q counts =
    let byte : take 1 into ≡ get_or into 0 0 ∷ [] = take_more into 0 0 (omega arith) in
    Took-append a b c m n o xs (get_or into 0 0 ∷ []) p (rw (one, byte) at q) (rw one at counts)

-- nothing where a read failed
pub Took-kept : (a b c : Option (List ℕ)) (m n o : ℕ) (xs : List ℕ) → Took a b m n xs → Keeps b c → Counts n o 0 → Took a c m o xs
Took-kept a b c m n o xs p q counts = record {
  bytes_left = Consumes-kept a b c xs p.bytes_left q;
  count = (omega (arith, p.count, counts), omega (arith, p.count, counts));
}

-- ---- line feeds

-- one byte more, which is none
pub HasNoFeed-more : (bytes : List ℕ) (b : ℕ) → HasNoFeed bytes → (b ≡ 10 → ⊥) → HasNoFeed (bytes ++ b ∷ [])
HasNoFeed-more bytes b all one = grind (arith, common_steps, all, one)

-- how much was taken
pub count-more : (bytes : List ℕ) (b before taken : ℕ) → taken ≡ before + length bytes → taken + 1 ≡ before + length (bytes ++ b ∷ [])
count-more bytes b before taken e = omega (arith, length-append bytes (b ∷ []), e)

-- a line that is heard at its line feed
pub IsHeard-ended : (left leaves : Option (List ℕ)) (given gives before taken : ℕ) (choice : Choice) (bytes : List ℕ) (b : ℕ) → HasNoFeed bytes →
    choice ≡ narrowed (choice_of (take 81 bytes)) → Took left leaves given gives (bytes ++ b ∷ []) → b ≡ 10 → taken ≡ before + length bytes →
    IsLineHeard left leaves given gives before (record { choice = choice; is_last = false; taken = taken + 1 })
IsHeard-ended left leaves given gives before taken choice bytes b pure asks took feed count = record {
  line = bytes;
  pure = pure;
  choice = asks ∙ ap narrowed (choice-kept bytes);
  took = rw feed at took;
  ends = λ no. absurd (cc no);
  count = count-more bytes 10 before taken count;
}

-- a line that is heard at the end
pub IsHeard-last : (left leaves : Option (List ℕ)) (given gives before taken : ℕ) (choice : Choice) (bytes : List ℕ) → HasNoFeed bytes →
    choice ≡ narrowed (choice_of (take 81 bytes)) → Took left leaves given gives bytes → IsAtEnd leaves → taken ≡ before + length bytes →
    IsLineHeard left leaves given gives before (record { choice = choice; is_last = true; taken = taken })
IsHeard-last left leaves given gives before taken choice bytes pure asks took end count = record {
  line = bytes;
  pure = pure;
  choice = asks ∙ ap narrowed (choice-kept bytes);
  took = took;
  ends = λ _. end;
  count = count;
}

-- a line with one byte more that is cut off, whatever the byte is
pub IsBegun-more : (bytes : List ℕ) (b : ℕ) → HasNoFeed bytes → IsBegun (bytes ++ b ∷ [])
IsBegun-more bytes b all = by_byte (nat_eq b 10) refl
  where
    by_byte : (same : Bool) → nat_eq b 10 ≡ same → IsBegun (bytes ++ b ∷ [])
    by_byte true e = let feed : b ≡ 10 = grind (arith, nat_tests, e) in (bytes, all, inr (ap (λ k. bytes ++ k ∷ []) feed))
    by_byte false e = let other : b ≡ 10 → ⊥ = grind (arith, nat_tests, e) in (bytes ++ b ∷ [], HasNoFeed-more bytes b all other, inl refl)
