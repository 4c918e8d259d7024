-- What is taken in several reads is taken in one, and what a read from memory gives.
-- To cite: Took-append. The rest are steps.
use Rattle.std.proofs.Common.{◌≡◌, ◌<◌, ℕ, ◌+◌, ◌-◌, ◌≤◌, min, List, [], ◌++◌, length, take, drop, arith, ap, sym, ◌∙◌, length-append, length-drop}
use Rattle.std.proofs.lemmas.List.{take_at, drop-drop, take-append-drop, length-take-le, drop_all, take_all}
use Rattle.std.specs.declared.option.Option.{Option}
use Rattle.std.specs.Io.KnownBytes.{Consumes}
use Rattle.std.proofs.KnownBytes.{Consumes-trans}
use Rattle.gf_outside.specs.Moved.{Counts, Took, TookExactly}

-- ---- reads one after the other

-- first xs are taken, then ys
pub Took-append : (a b c : Option (List ℕ)) (m n o : ℕ) (xs ys : List ℕ) → Took a b m n xs → Consumes b c ys → Counts n o (length ys)
    → Took a c m o (xs ++ ys)
Took-append a b c m n o xs ys p q counts = record {
  bytes_left = Consumes-trans a b c xs ys p.bytes_left q;
  count = (omega (arith, length-append xs ys, p.count, counts), omega (arith, length-append xs ys, p.count, counts));
}

-- first xs are taken, then the k bytes that a read put to the front of its buffer
pub Took-read : (a b c : Option (List ℕ)) (m n o k : ℕ) (xs into : List ℕ) → Took a b m n xs → Consumes b c (take k into) → Counts n o k → k ≤ length into
    → TookExactly a c m o (length xs + k)
Took-read a b c m n o k xs into p q counts fits =
    let len : length (take k into) ≡ k = length-take-le k into fits in record {
      bytes = xs ++ take k into;
      took = Took-append a b c m n o xs (take k into) p q (rw len counts);
      exactly = length-append xs (take k into) ∙ ap (λ n. length xs + n) len;
    }

-- ---- a read from memory

-- what is copied to the front of a buffer, and what is left behind it
pub copied_front : (bytes into copied : List ℕ) (at count : ℕ) → copied ≡ take count (drop at bytes) → at + count ≤ length bytes
    → drop at bytes ≡ take count (copied ++ drop count into) ++ drop (at + count) bytes
copied_front bytes into copied at count e fits =
    let len : length copied ≡ count = ap length e ∙ length-take-le count (drop at bytes) (omega (arith, length-drop at bytes)) in
    rw (take_at copied (drop count into) count len, e, ← drop-drop count at bytes) (sym (take-append-drop count (drop at bytes)))

-- nothing is copied only where nothing is left or there is no room
pub nothing_left : (bytes : List ℕ) (at count room most : ℕ) → 1 ≤ most → 0 < room → at ≤ length bytes → count ≡ min (min room most) (length bytes - at) →
    count ≡ 0
    → drop (at + count) bytes ≡ []
nothing_left bytes at count room most m r within e none = drop_all (at + count) bytes (omega arith)

-- what was copied to the front of a buffer from behind a place of bytes, and what is left of them
pub taken_front : (bytes into : List ℕ) (at count : ℕ) → take count into ≡ take count (take (length bytes - at) (drop at bytes)) →
    drop at bytes ≡ take count into ++ drop (at + count) bytes
taken_front bytes into at count e =
    let all : take (length bytes - at) (drop at bytes) ≡ drop at bytes = take_all (length bytes - at) (drop at bytes) (omega (arith, length-drop at bytes)) in
    rw (e, all, ← drop-drop count at bytes) (sym (take-append-drop count (drop at bytes)))
