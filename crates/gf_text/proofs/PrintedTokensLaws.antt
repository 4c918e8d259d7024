-- The tokens of printed numbers, names and powers, where no letter, digit or _ follows.
-- To cite: IsPiece, piece-none, piece-token, piece-++; number_word, decimal_number, number_piece, names_of_ring. The rest are steps.
use Rattle.std.proofs.Common.{◌≡◌, ◌≤◌, ◌<◌, ◌^◌, ◌*◌, ◌/◌, ◌%◌, ◌+◌, ◌-◌, ℕ, zero, suc, Bool, true, false, ◌||◌, ◌==◌, nat_eq, max, List, [], ◌∷◌, ◌++◌}
use Rattle.std.proofs.Common.{length, get_or, decimal, Some, refl, sym, ap, ◌∙◌, subst, arith, inl, inr, bytes_eq, if◌then◌else◌}
use Rattle.std.proofs.lemmas.Bool.Decides.{nat_tests, eqb_tells}
use Rattle.std.proofs.lemmas.Fmt.{decimal_by_steps_wide}
use Rattle.std.proofs.lemmas.List.Folds.{length-prefix_len, list_any-append}
use Rattle.std.specs.List.{list_all, prefix_len, starts_with, position_from}
use Rattle.std.proofs.lemmas.Slice.Eq.{bytes_eq-Decides}
use Rattle.gf_text.specs.Tokens.{is_space, is_digit, is_letter, is_name_byte, is_number, decimal_value, value_from, word_more, ring_more, longest}
use Rattle.gf_text.specs.RingText.{is_name, has, AreNew, IsRing}
use Rattle.gf_text.specs.SetText.{variable}
use Rattle.gf_text.proofs.SpelledLaws.{IsToken, IsSpelled, goes_on, spelled-none, spelled-token, spelled-++}
use Rattle.std.proofs.lemmas.Bool.{and_parts, or_parts}

-- ---- decimal digits

digit_of : (n : ℕ) → n < 10 → is_digit (48 + n) ≡ true
digit_of n h = grind (arith, nat_tests)

digits_push : (ds : List ℕ) (d : ℕ) → list_all is_digit ds ≡ true → is_digit d ≡ true → list_all is_digit (ds ++ d ∷ []) ≡ true
digits_push [] d all one = rw one refl
digits_push (x ∷ ds) d all one = let both = and_parts (is_digit x) (list_all is_digit ds) all in rw both.0 (digits_push ds d both.1 one)

number_push : (ds : List ℕ) (d : ℕ) → is_number ds ≡ true → is_digit d ≡ true → is_number (ds ++ d ∷ []) ≡ true
number_push [] d all one = cc
number_push (x ∷ ds) d all one = digits_push (x ∷ ds) d all one

value-push : (n : ℕ) (ds : List ℕ) (d : ℕ) → value_from n (ds ++ d ∷ []) ≡ 10 * value_from n ds + (d - 48)
value-push n [] d = refl
value-push n (x ∷ ds) d = value-push (10 * n + (x - 48)) ds d

-- a number as it is printed
abbrev IsNumeral : ℕ → List ℕ → Type 0
IsNumeral n ds = (is_number ds ≡ true) × (decimal_value ds ≡ n)

one_digit : (n : ℕ) → n < 10 → IsNumeral n ((48 + n) ∷ [])
one_digit n h = (rw (digit_of n h) refl, omega arith)

more_digits : (n : ℕ) (ds : List ℕ) → 10 ≤ n → IsNumeral (n / 10) ds → IsNumeral n (ds ++ (48 + n % 10) ∷ [])
more_digits n ds h k = (number_push ds (48 + n % 10) k.0 (digit_of (n % 10) (omega arith)), value-push 0 ds (48 + n % 10) ∙ omega (arith, k.1))

pub decimal_number : (n : ℕ) → n < 2 ^ 127 → (is_number (decimal n) ≡ true) × (decimal_value (decimal n) ≡ n)
decimal_number n h = decimal_by_steps_wide IsNumeral one_digit more_digits n (omega arith)

-- ---- tokens

different_digit : (b : ℕ) → is_name_byte b ≡ false → is_digit b ≡ false
different_digit b h = by (is_letter b) (is_digit b) h
  where
    by : (l d : Bool) → (l || (d || b == 95)) ≡ false → d ≡ false
    by true d e = cc
    by false true e = cc
    by false false e = refl

digits_end : (ds rest : List ℕ) → list_all is_digit ds ≡ true → goes_on rest ≡ false → prefix_len is_digit (ds ++ rest) ≡ length ds
digits_end [] [] all stops = refl
digits_end [] (b ∷ rest) all stops = rw (different_digit b stops) refl
digits_end (d ∷ ds) rest all stops =
    let both = and_parts (is_digit d) (list_all is_digit ds) all in
    rw both.0 (omega (arith, digits_end ds rest both.1 stops))

pub digit_visible : (b : ℕ) → is_digit b ≡ true → is_space b ≡ false
digit_visible b h = grind (arith, nat_tests, h)

letter_visible : (b : ℕ) → is_letter b ≡ true → is_space b ≡ false
letter_visible b h = grind (arith, nat_tests, h)

pub letter_no_digit : (b : ℕ) → is_letter b ≡ true → is_digit b ≡ false
letter_no_digit b h = grind (arith, nat_tests, h)

-- a number, where names are of any length
pub number_word : (ds rest : List ℕ) → is_number ds ≡ true → goes_on rest ≡ false → IsToken word_more ds rest
number_word [] rest digits stops = cc
number_word (d ∷ ds) rest digits stops =
    let both = and_parts (is_digit d) (list_all is_digit ds) digits in
    record {
      first = d;
      others = ds;
      shape = refl;
      visible = digit_visible d both.0;
      whole = rw both.0 (length-prefix_len is_digit (ds ++ rest) ∙ digits_end ds rest both.1 stops);
    }

module _ (ring : List (List ℕ)) where
  pub number_token : (ds rest : List ℕ) → is_number ds ≡ true → goes_on rest ≡ false → IsToken (ring_more ring) ds rest
  number_token [] rest digits stops = cc
  number_token (d ∷ ds) rest digits stops =
      let both = and_parts (is_digit d) (list_all is_digit ds) digits in
      record {
        first = d;
        others = ds;
        shape = refl;
        visible = digit_visible d both.0;
        whole = rw both.0 (length-prefix_len is_digit (ds ++ rest) ∙ digits_end ds rest both.1 stops);
      }

-- ---- names

-- each byte of a name is one of a name
letter_name_byte : (b : ℕ) → is_letter b ≡ true → is_name_byte b ≡ true
letter_name_byte b h = rw h refl

name_bytes : (n : List ℕ) → is_name n ≡ true → list_all is_name_byte n ≡ true
name_bytes [] named = cc
name_bytes (b ∷ bs) named = let both = and_parts (is_letter b) (list_all is_name_byte bs) named in rw (letter_name_byte b both.0, both.1) refl

same_byte : (a b : ℕ) → nat_eq a b ≡ true → a ≡ b
same_byte a b h = elim (eqb_tells a b) [ inl k ↦ k.1 | inr k ↦ let no = k.0 in cc ]

pub byte_itself : (b : ℕ) → nat_eq b b ≡ true
byte_itself b = elim (eqb_tells b b) [ inl k ↦ k.0 | inr k ↦ absurd (k.1 refl) ]

-- a name that stands where another one stands is no longer, where no name goes on behind this one
no_longer : (n m rest : List ℕ) → list_all is_name_byte m ≡ true → goes_on rest ≡ false → starts_with nat_eq (n ++ rest) m ≡ true → length m ≤ length n
no_longer n [] rest bytes stops starts = omega arith
no_longer [] (c ∷ cs) [] bytes stops starts = cc
no_longer [] (c ∷ cs) (b ∷ rest) bytes stops starts =
    let first = and_parts (nat_eq c b) (starts_with nat_eq rest cs) starts in
    let same = same_byte c b first.0 in
    let is = (and_parts (is_name_byte c) (list_all is_name_byte cs) bytes).0 in
    let isnt : is_name_byte c ≡ false = ap is_name_byte same ∙ stops in
    cc
no_longer (a ∷ n) (c ∷ cs) rest bytes stops starts =
    let first = and_parts (nat_eq c a) (starts_with nat_eq (n ++ rest) cs) starts in
    let later = no_longer n cs rest (and_parts (is_name_byte c) (list_all is_name_byte cs) bytes).1 stops first.1 in
    omega arith

starts_itself : (n rest : List ℕ) → starts_with nat_eq (n ++ rest) n ≡ true
starts_itself [] rest = refl
starts_itself (b ∷ n) rest = rw (byte_itself b) (starts_itself n rest)

longest_most : (before ns : List (List ℕ)) (n rest : List ℕ) → AreNew before ns → goes_on rest ≡ false → longest ns (n ++ rest) ≤ length n
longest_most before [] n rest new stops = omega arith
longest_most before (m ∷ ns) n rest new stops =
    by (starts_with nat_eq (n ++ rest) m) (λ h. no_longer n m rest (name_bytes m new.0) stops h) (longest_most (before ++ m ∷ []) ns n rest new.2 stops)
  where
    by : (v : Bool) → (v ≡ true → length m ≤ length n) → longest ns (n ++ rest) ≤ length n → max (if v then length m else 0) (longest ns (n ++ rest)) ≤ length n
    by true one later = let k = one refl in omega arith
    by false one later = omega arith

longest_least : (ns : List (List ℕ)) (v : ℕ) (rest : List ℕ) → v < length ns → length (get_or ns v []) ≤ longest ns (get_or ns v [] ++ rest)
longest_least [] v rest h = absurd (omega arith)
longest_least (n ∷ ns) zero rest h = rw (starts_itself n rest) (omega arith)
longest_least (n ∷ ns) (suc v) rest h = let later = longest_least ns v rest (omega arith) in omega arith

named_at : (before ns : List (List ℕ)) (v : ℕ) → AreNew before ns → v < length ns → is_name (get_or ns v []) ≡ true
named_at before [] v new h = absurd (omega arith)
named_at before (n ∷ ns) zero new h = new.0
named_at before (n ∷ ns) (suc v) new h = named_at (before ++ n ∷ []) ns v new.2 (omega arith)

-- each name of a ring is the whole token where it stands
name_token : (ring : List (List ℕ)) (n rest : List ℕ) → is_name n ≡ true → longest ring (n ++ rest) ≡ length n → IsToken (ring_more ring) n rest
name_token ring [] rest named most = cc
name_token ring (c ∷ cs) rest named most =
    let letter = (and_parts (is_letter c) (list_all is_name_byte cs) named).0 in
    record {
      first = c;
      others = cs;
      shape = refl;
      visible = letter_visible c letter;
      whole = rw (letter_no_digit c letter, letter) (omega (arith, most));
    }

-- ---- each name of a ring is the name of its own variable

same_name : (n : List ℕ) → bytes_eq n n ≡ true
same_name n = (bytes_eq-Decides n n).1 refl

-- a name that isn't one of these isn't one of the first, nor the last
not_before : (before : List (List ℕ)) (n y : List ℕ) → has (before ++ n ∷ []) y ≡ false → (has before y ≡ false) × (bytes_eq n y ≡ false)
not_before before n y h =
    let both = or_parts (has before y) (bytes_eq n y || false) (sym (list_any-append (λ x. bytes_eq x y) before (n ∷ [])) ∙ h) in
    (both.0, (or_parts (bytes_eq n y) false both.1).0)

-- a name that stands before isn't one of the new ones
different : (n : List ℕ) (before ns : List (List ℕ)) (v : ℕ) → ((y : List ℕ) → has before y ≡ false → bytes_eq n y ≡ false) → AreNew before ns → v < length ns →
    bytes_eq n (get_or ns v []) ≡ false
different n before [] v stands new h = absurd (omega arith)
different n before (m ∷ ms) zero stands new h = stands m new.1
different n before (m ∷ ms) (suc v) stands new h = different n (before ++ m ∷ []) ms v (λ y k. stands y (not_before before m y k).0) new.2 (omega arith)

-- the place of the name at v, where those from i on are numbered
position_of : (before ns : List (List ℕ)) (i v : ℕ) → AreNew before ns → v < length ns → position_from (λ n. bytes_eq n (get_or ns v [])) i ns ≡ Some (i + v)
position_of before [] i v new h = absurd (omega arith)
position_of before (n ∷ ns) i zero new h = let place : i ≡ i + 0 = omega arith in rw (same_name n) (ap (λ k. Some k) place)
position_of before (n ∷ ns) i (suc v) new h =
    let place : (i + 1) + v ≡ i + suc v = omega arith in
    let other = different n (before ++ n ∷ []) ns v (λ y k. (not_before before n y k).1) new.2 (omega arith) in
    rw other (position_of (before ++ n ∷ []) ns (i + 1) v new.2 (omega arith) ∙ ap (λ k. Some k) place)

-- the name of variable i, as a token
pub record IsNameOf (ring : List (List ℕ)) (i : ℕ) (n : List ℕ) : Type 0 where
  pub variable_is : variable ring n ≡ Some i
  pub token : (rest : List ℕ) → goes_on rest ≡ false → IsToken (ring_more ring) n rest

-- these are the names of the variables from i on
abbrev pub AreNamesFrom : List (List ℕ) → ℕ → List (List ℕ) → Type 0
AreNamesFrom ring i [] = Unit {0}
AreNamesFrom ring i (n ∷ ns) = IsNameOf ring i n × AreNamesFrom ring (i + 1) ns

names_from : (ring : List (List ℕ)) (i : ℕ) (ns : List (List ℕ)) → ((v : ℕ) → v < length ns → IsNameOf ring (i + v) (get_or ns v [])) → AreNamesFrom ring i ns
names_from ring i [] each = tt
names_from ring i (n ∷ ns) each =
    let here : i + 0 ≡ i = omega arith in
    (subst (λ k. IsNameOf ring k n) here (each 0 (omega arith)), names_from ring (i + 1) ns (λ v h. later v (each (suc v) (omega arith))))
  where
    later : (v : ℕ) → IsNameOf ring (i + suc v) (get_or ns v []) → IsNameOf ring ((i + 1) + v) (get_or ns v [])
    later v k = let place : i + suc v ≡ (i + 1) + v = omega arith in subst (λ j. IsNameOf ring j (get_or ns v [])) place k

name_of : (ring : List (List ℕ)) → IsRing ring → (v : ℕ) → v < length ring → IsNameOf ring v (get_or ring v [])
name_of ring is v h = record {
  variable_is = position_of [] ring 0 v is.different h ∙ ap (λ k. Some k) (omega arith);
  token = λ rest stops. (
      let least = longest_least ring v rest h in
      let most = longest_most [] ring (get_or ring v []) rest is.different stops in
      name_token ring (get_or ring v []) rest (named_at [] ring v is.different h) (omega arith)
      );
}

pub names_of_ring : (ring : List (List ℕ)) → IsRing ring → AreNamesFrom ring 0 ring
names_of_ring ring is =
    names_from ring 0 ring (λ v h. (let here : v ≡ 0 + v = omega arith in subst (λ k. IsNameOf ring k (get_or ring v [])) here (name_of ring is v h)))

-- ---- pieces of a text

-- before a rest that no name goes on with, these bytes spell these tokens
pub record IsPiece (ring : List (List ℕ)) (bs : List ℕ) (ts : List (List ℕ)) : Type 0 where
  pub spelled : (rest : List ℕ) → goes_on rest ≡ false → IsSpelled (ring_more ring) bs rest ts

-- pieces one after another
abbrev pub ArePieces : List (List ℕ) → List (List ℕ) → List (List (List ℕ)) → Type 0
ArePieces ring [] [] = Unit {0}
ArePieces ring [] (ts ∷ tss) = ⊥
ArePieces ring (p ∷ ps) [] = ⊥
ArePieces ring (p ∷ ps) (ts ∷ tss) = IsPiece ring p ts × ArePieces ring ps tss

module _ (ring : List (List ℕ)) where
  pub piece-none : IsPiece ring [] []
  piece-none = record { spelled = λ rest stops. spelled-none (ring_more ring) rest }

  pub piece-token : (t : List ℕ) → ((rest : List ℕ) → goes_on rest ≡ false → IsToken (ring_more ring) t rest) → IsPiece ring t (t ∷ [])
  piece-token t token = record { spelled = λ rest stops. spelled-token (ring_more ring) t rest (token rest stops) }

  pub piece-++ : (xs ys : List ℕ) (ts us : List (List ℕ)) → IsPiece ring xs ts → ((rest : List ℕ) → goes_on rest ≡ false → goes_on (ys ++ rest) ≡ false) →
      IsPiece ring ys us → IsPiece ring (xs ++ ys) (ts ++ us)
  piece-++ xs ys ts us one between other = record {
    spelled = λ rest stops. spelled-++ (ring_more ring) xs ys rest ts us (one.spelled (ys ++ rest) (between rest stops)) (other.spelled rest stops);
  }

  -- a mark, and what follows it
  pub mark_spelled : (b : ℕ) (bs rest : List ℕ) (ts : List (List ℕ)) → is_space b ≡ false → ring_more ring (b ∷ (bs ++ rest)) ≡ 0 →
      IsSpelled (ring_more ring) bs rest ts → IsSpelled (ring_more ring) (b ∷ bs) rest ((b ∷ []) ∷ ts)
  mark_spelled b bs rest ts visible whole later =
      let token : IsToken (ring_more ring) (b ∷ []) (bs ++ rest) = record { first = b; others = []; shape = refl; visible = visible; whole = whole } in
      spelled-++ (ring_more ring) (b ∷ []) bs rest ((b ∷ []) ∷ []) ts (spelled-token (ring_more ring) (b ∷ []) (bs ++ rest) token) later

  pub number_piece : (n : ℕ) → n < 2 ^ 127 → IsPiece ring (decimal n) (decimal n ∷ [])
  number_piece n h = piece-token (decimal n) (λ rest stops. number_token ring (decimal n) rest (decimal_number n h).0 stops)
