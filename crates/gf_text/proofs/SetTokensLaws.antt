-- The tokens of a set: no token is two of a name of the ring, a number, a mark; and what the tests of the machine say.
-- To cite: named_word, no_name, word_no_number, word_no_mark, number_no_word, number_no_mark, is_mark, number_within, le_test, le_from, not_le, le_false,
-- not_zero, zero_number, positive. The rest are steps.
use Rattle.std.proofs.Common.{◌≡◌, ◌<◌, ◌≤◌, ℕ, ◌+◌, Bool, true, false, cond, ◌&&◌, ◌==◌, nat_le, List, [], ◌∷◌, ◌++◌, Option, Some, None, refl, sym, ap, ◌∙◌}
use Rattle.std.proofs.Common.{inl, inr, bytes_eq, arith}
use Rattle.std.proofs.lemmas.Bool.Decides.{leb_tells, eqb_tells}
use Rattle.std.proofs.lemmas.Slice.Eq.{bytes_eq-Decides}
use Rattle.std.specs.List.{position_from, list_all}
use Rattle.gf_text.specs.Tokens.{is_letter, is_digit, is_name_byte, is_number, decimal_value}
use Rattle.gf_text.specs.RingText.{is_name, AreNew, IsRing}
use Rattle.gf_text.specs.SetText.{variable, is_word, IsNumberText}
use Rattle.gf_text.proofs.PrintedTokensLaws.{letter_no_digit}

-- ---- bytes

-- ---- tests of tokens

-- a mark that was tested for
pub is_mark : (t mark : List ℕ) → bytes_eq t mark ≡ true → t ≡ mark
is_mark t mark h = (bytes_eq-Decides t mark).0 h

and_left : (a b : Bool) → (a && b) ≡ true → a ≡ true
and_left true b e = refl
and_left false b e = cc

-- a test that can't hold
not_true : (v : Bool) → (v ≡ true → ⊥) → v ≡ false
not_true true h = absurd (h refl)
not_true false h = refl

-- ---- words: tokens that begin with a letter

-- a token that begins with a letter is no number
pub word_no_number : (t : List ℕ) → is_word t ≡ true → is_number t ≡ false
word_no_number [] h = refl
word_no_number (b ∷ bs) h = rw (letter_no_digit b h) refl

-- and no mark
pub word_no_mark : (t : List ℕ) (b : ℕ) → is_word t ≡ true → is_letter b ≡ false → bytes_eq t (b ∷ []) ≡ false
word_no_mark t b h mark = not_true (bytes_eq t (b ∷ [])) (λ same. let letter : is_letter b ≡ true = ap is_word (sym (is_mark t (b ∷ []) same)) ∙ h in cc)

-- a number is no word
pub number_no_word : (t : List ℕ) → is_number t ≡ true → is_word t ≡ false
number_no_word t h = not_true (is_word t) (λ w. let no = word_no_number t w in cc)

-- and no mark
pub number_no_mark : (t : List ℕ) (b : ℕ) → is_number t ≡ true → is_digit b ≡ false → bytes_eq t (b ∷ []) ≡ false
number_no_mark t b h mark = not_true (bytes_eq t (b ∷ [])) (λ same. let all : (is_digit b && true) ≡ true = ap is_number (sym (is_mark t (b ∷ []) same)) ∙ h in
    let digit = and_left (is_digit b) true all in cc)

-- ---- names

name_word : (n : List ℕ) → is_name n ≡ true → is_word n ≡ true
name_word [] h = cc
name_word (b ∷ bs) h = and_left (is_letter b) (list_all is_name_byte bs) h

word_from : (before ns : List (List ℕ)) (t : List ℕ) (i v : ℕ) → AreNew before ns → position_from (λ n. bytes_eq n t) i ns ≡ Some v → is_word t ≡ true
word_from before [] t i v new h = cc
word_from before (n ∷ ns) t i v new h = by (word_from (before ++ n ∷ []) ns t (i + 1) v new.2) (bytes_eq n t) refl h
  where
    by : (position_from (λ m. bytes_eq m t) (i + 1) ns ≡ Some v → is_word t ≡ true) → (b : Bool) → bytes_eq n t ≡ b →
        cond b (Some i) (position_from (λ m. bytes_eq m t) (i + 1) ns) ≡ Some v → is_word t ≡ true
    by others true is e = ap is_word (sym (is_mark n t is)) ∙ name_word n new.0
    by others false is e = others e

-- a name of the ring begins with a letter
pub named_word : (ring : List (List ℕ)) → IsRing ring → (t : List ℕ) (v : ℕ) → variable ring t ≡ Some v → is_word t ≡ true
named_word ring is t v h = word_from [] ring t 0 v is.different h

-- another token is no name
pub no_name : (ring : List (List ℕ)) → IsRing ring → (t : List ℕ) → is_word t ≡ false → variable ring t ≡ None
no_name ring is t h = by (variable ring t) refl
  where
    by : (o : Option ℕ) → variable ring t ≡ o → o ≡ None
    by (Some v) e = let word = named_word ring is t v e in cc
    by None e = refl

-- ---- numbers

pub le_test : (a b : ℕ) → a ≤ b → nat_le a b ≡ true
le_test a b h = elim (leb_tells a b) [ inl k ↦ k.0 | inr k ↦ absurd (omega arith) ]

-- a number within its limit
pub number_within : (t : List ℕ) (n limit : ℕ) → IsNumberText t n limit → nat_le (decimal_value t) limit ≡ true
number_within t n limit h = let is = h.1 in let within = h.2 in le_test (decimal_value t) limit (omega arith)

-- a number that isn't zero
pub not_zero : (n : ℕ) → 0 < n → (n == 0) ≡ false
not_zero n h = elim (eqb_tells n 0) [ inl k ↦ absurd (let zero = k.1 in omega arith) | inr k ↦ k.0 ]

pub le_from : (a b : ℕ) → nat_le a b ≡ true → a ≤ b
le_from a b h = elim (leb_tells a b) [ inl k ↦ k.1 | inr k ↦ let no = k.0 in cc ]

pub not_le : (a b : ℕ) → nat_le a b ≡ false → b < a
not_le a b h = elim (leb_tells a b) [ inl k ↦ let yes = k.0 in cc | inr k ↦ k.1 ]

pub le_false : (a b : ℕ) → b < a → nat_le a b ≡ false
le_false a b h = elim (leb_tells a b) [ inl k ↦ absurd (omega arith) | inr k ↦ k.0 ]

-- a number that is zero
pub zero_number : (t : List ℕ) → (is_number t && decimal_value t == 0) ≡ true → (is_number t ≡ true) × (decimal_value t ≡ 0)
zero_number t h = let left = and_left (is_number t) (decimal_value t == 0) h in (
  left,
  elim (eqb_tells (decimal_value t) 0) [
    | inl k ↦ k.1
    | inr k ↦ let no : (is_number t && decimal_value t == 0) ≡ false = rw (left, k.0) refl in cc
  ],
)

-- a denominator that isn't zero
pub positive : (t : List ℕ) → is_number t ≡ true → (is_number t && decimal_value t == 0) ≡ false → 0 < decimal_value t
positive t digits h = elim (eqb_tells (decimal_value t) 0) [
  | inl k ↦ let both : (is_number t && decimal_value t == 0) ≡ true = rw (digits, k.0) refl in cc
  | inr k ↦ let nonzero = k.1 in grind arith
]
