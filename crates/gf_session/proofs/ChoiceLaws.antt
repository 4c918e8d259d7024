-- Blanks at the ends of a line, numbers digit by digit, and lines that are kept in part.
use Rattle.std.proofs.Common.{◌≡◌, ℕ, ◌+◌, ◌*◌, ◌-◌, ◌≤◌, ◌<◌, nat_le, Bool, true, false, List, [], ◌∷◌, ◌++◌, length, take, refl, ap, arith, ◌∙◌, sym, get_or}
use Rattle.std.proofs.Common.{min}
use Rattle.std.proofs.lemmas.List.{take_all, take_more, length-take-le}
use Rattle.std.proofs.lemmas.Bool.Decides.{nat_tests}
use Rattle.gf_session.specs.Choices.{is_blank, put_before, trim_end, value_from, choice_of}

-- ---- blanks

-- a blank at the end falls away
pub trim_end-blank : (xs : List ℕ) (b : ℕ) → is_blank b ≡ true → trim_end (xs ++ b ∷ []) ≡ trim_end xs
trim_end-blank [] b h = rw h refl
trim_end-blank (x ∷ xs) b h = ap (put_before x) (trim_end-blank xs b h)

-- what ends with another byte stays
pub trim_end-other : (xs : List ℕ) (b : ℕ) → is_blank b ≡ false → trim_end (xs ++ b ∷ []) ≡ xs ++ b ∷ []
trim_end-other [] b h = rw h refl
trim_end-other (x ∷ []) b h = ap (put_before x) (trim_end-other [] b h)
trim_end-other (x ∷ y ∷ ys) b h = ap (put_before x) (trim_end-other (y ∷ ys) b h)

-- ---- numbers

-- one digit more
pub value-push : (n : ℕ) (ds : List ℕ) (d : ℕ) → value_from n (ds ++ d ∷ []) ≡ 10 * value_from n ds + (d - 48)
value-push n [] d = refl
value-push n (x ∷ ds) d = value-push (10 * n + (x - 48)) ds d

-- the last byte of a text
split_last : (xs : List ℕ) → 1 ≤ length xs → take (length xs - 1) xs ++ get_or xs (length xs - 1) 0 ∷ [] ≡ xs
split_last xs some =
    let all : take (length xs - 1 + 1) xs ≡ xs = take_all (length xs - 1 + 1) xs (omega arith) in
    sym (take_more xs (length xs - 1) 0 (omega arith)) ∙ all

-- a blank that stands last falls away
pub last-blank : (xs : List ℕ) → 1 ≤ length xs → is_blank (get_or xs (length xs - 1) 0) ≡ true → trim_end (take (length xs - 1) xs) ≡ trim_end xs
last-blank xs some h = sym (trim_end-blank (take (length xs - 1) xs) (get_or xs (length xs - 1) 0) h) ∙ ap trim_end (split_last xs some)

-- a text stays that ends with another byte
pub last-other : (xs : List ℕ) → 1 ≤ length xs → is_blank (get_or xs (length xs - 1) 0) ≡ false → xs ≡ trim_end xs
last-other xs some h =
    let e = split_last xs some in
    sym e ∙ sym (trim_end-other (take (length xs - 1) xs) (get_or xs (length xs - 1) 0) h) ∙ ap trim_end e

-- ---- digits

-- one digit more, up to a limit
pub value-next : (ds : List ℕ) (i n most : ℕ) → i < length ds → n ≡ min (value_from 0 (take i ds)) most →
    min (min (n * 10) most + (get_or ds i 0 - 48)) most ≡ min (value_from 0 (take (i + 1) ds)) most
value-next ds i n most h e =
    let more = take_more ds i 0 h in
    let push = value-push 0 (take i ds) (get_or ds i 0) in
    rw (more, push) (omega arith)

-- ---- long lines

-- a line of which 81 bytes are kept asks for what all of it asks for
pub choice-kept : (line : List ℕ) → choice_of (take 81 line) ≡ choice_of line
choice-kept line = if_fits line (nat_le (length line) 80) refl
  where
    if_fits : (line : List ℕ) (fits : Bool) → nat_le (length line) 80 ≡ fits → choice_of (take 81 line) ≡ choice_of line
    if_fits line true e = ap choice_of (take_all 81 line (let fits : length line ≤ 80 = grind (arith, nat_tests, e) in omega arith))
    if_fits line false e =
        let long : 81 ≤ length line = grind (arith, nat_tests, e) in
        let kept : nat_le (length (take 81 line)) 80 ≡ false = rw (length-take-le 81 line long) refl in
        rw (kept, e) refl
