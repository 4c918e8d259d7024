-- The parts of printed terms and vectors, one after another.
-- To cite: over_other, raised_other, size_parts, fraction_parts, power_parts, left_next, left_end, unit_term, sized_term, terms_parts, entry_same,
-- entries_parts, parts_split, numbers_split. The rest are steps.
use Rattle.std.proofs.Common.{◌≡◌, ◌≢◌, ℕ, zero, suc, ◌+◌, ◌-◌, ◌<◌, ◌≤◌, arith, add-one, slice_get, Some, take, take_all, flat_map, ℤ, pos, negsuc, Bool, true}
use Rattle.std.proofs.Common.{false, not, ◌||◌, ◌==◌, List, [], ◌∷◌, ◌++◌, length, get_or, drop, decimal, codes, refl, sym, ap, ◌∙◌, append-nil, append_assoc}
use Rattle.std.proofs.Common.{if◌then◌else◌}
use Rattle.std.proofs.lemmas.Bool.{ne_eqb, eqb-true, and_parts}
use Rattle.std.proofs.lemmas.Option.{get_or_from_slice_get}
use Rattle.std.proofs.lemmas.List.{drop_all, get_or_default}
use Rattle.std.proofs.Math.Seq.{drop-cons}
use Rattle.std.specs.Fmt.{signed_decimal}
use Rattle.std.proofs.lemmas.Fmt.{decimal_digit}
use Rattle.std.specs.Int.RustNames.{unsigned_abs}
use Rattle.gf_frac.specs.Fraction.{Fraction}
use Rattle.gf_poly.specs.declared.Term.{Term}
use Rattle.gf_poly.specs.Polynomial.{Terms}
use Rattle.gf_text.specs.PrintedText.{over_text, times_text, raised_text, is_below_zero, leading_sign, size_text, fraction_text, power_text, powers, next_text}
use Rattle.gf_text.specs.PrintedText.{joined, pieces, left_text, is_unit, unsigned_text, first_text, later_text, terms_text}
use Rattle.gf_text.specs.VectorText.{entry_text, entries_text}

-- a denominator or an exponent other than 1
pub over_other : (d : ℕ) → d ≢ 1 → codes "/" ++ decimal d ≡ over_text d
over_other d other = rw (ne_eqb d 1 other) refl

pub raised_other : (e n : ℕ) → n ≡ e → e ≢ 1 → codes "^" ++ decimal n ≡ raised_text e
raised_other e n is other = rw (ne_eqb e 1 other) (ap (λ k. codes "^" ++ decimal k) is)

-- a sign and a size
sign_size : (z : ℤ) → (if is_below_zero z then 45 ∷ [] else []) ++ decimal (unsigned_abs z) ≡ signed_decimal z
sign_size (pos n) = refl
sign_size (negsuc n) = refl

size_over : (c : Fraction) → decimal (unsigned_abs c.num) ++ over_text c.den ≡ size_text c
size_over c = by (c.den == 1)
  where
    by : (b : Bool) → decimal (unsigned_abs c.num) ++ (if b then [] else 47 ∷ decimal c.den)
        ≡ (if b then decimal (unsigned_abs c.num) else decimal (unsigned_abs c.num) ++ (47 ∷ decimal c.den))
    by true = append-nil (decimal (unsigned_abs c.num))
    by false = refl

-- a size as it is written: a numerator's, and a denominator
pub size_parts : (c : Fraction) (u d : ℕ) → u ≡ unsigned_abs c.num → d ≡ c.den → decimal u ++ over_text d ≡ size_text c
size_parts c u d num den = ap (λ n. decimal n ++ over_text d) num ∙ ap (λ n. decimal (unsigned_abs c.num) ++ over_text n) den ∙ size_over c

-- a numerator and a denominator
pub fraction_parts : (c : Fraction) (n : ℤ) (d : ℕ) → n ≡ c.num → d ≡ c.den → signed_decimal n ++ over_text d ≡ fraction_text c
fraction_parts c n d num den =
    ap (λ z. signed_decimal z ++ over_text d) num
    ∙ ap (λ k. signed_decimal c.num ++ over_text k) den
    ∙ ap (λ t. t ++ over_text c.den) (sym (sign_size c.num))
    ∙ append_assoc (leading_sign c) (decimal (unsigned_abs c.num)) (over_text c.den)
    ∙ ap (λ t. leading_sign c ++ t) (size_over c)

-- a times sign, a name and an exponent
raised_name : (name : List ℕ) (e : ℕ) → name ++ raised_text e ≡ power_text name e
raised_name name e = by (e == 1)
  where
    by : (b : Bool) → name ++ (if b then [] else 94 ∷ decimal e) ≡ (if b then name else name ++ (94 ∷ decimal e))
    by true = append-nil name
    by false = refl

times_power : (some : Bool) (text : List ℕ) → times_text some ++ text ≡ (if some then 42 ∷ text else text)
times_power true text = refl
times_power false text = refl

pub power_parts : (some : Bool) (name : List ℕ) (e : ℕ) → e ≢ 0 → times_text some ++ (name ++ raised_text e) ≡ next_text some name e
power_parts some name e other =
    ap (λ t. times_text some ++ t) (raised_name name e) ∙ times_power some (power_text name e)
    ∙ ap (λ b. if b then [] else (if some then 42 ∷ power_text name e else power_text name e)) (sym (ne_eqb e 0 other))

-- ---- monomials

left_by : (b zero : Bool) (text : List ℕ) (later : List (List ℕ)) → left_text b (if zero then later else text ∷ later)
    ≡ (if zero then [] else (if b then 42 ∷ text else text)) ++ left_text (b || not zero) later
left_by true true text later = refl
left_by true false text later = refl
left_by false true text later = refl
left_by false false text later = refl

left_on : (names : List (List ℕ)) (es : List ℕ) (b : Bool) (i : ℕ) (d : List ℕ) → i < length names → i < length es
    → left_text b (powers (drop i names) (drop i es)) ≡ next_text b (get_or names i d) (get_or es i 0) ++
    left_text (b || not (get_or es i 0 == 0)) (powers (drop (i + 1) names) (drop (i + 1) es))
left_on names es b i d h k =
    let name = get_or names i d in
    let e = get_or es i 0 in
    let ns : drop i names ≡ name ∷ drop (i + 1) names = rw add-one (drop-cons names i d h) in
    let xs : drop i es ≡ e ∷ drop (i + 1) es = rw add-one (drop-cons es i 0 k) in
    ap (λ l. left_text b (powers l (drop i es))) ns ∙ ap (λ l. left_text b (powers (name ∷ drop (i + 1) names) l)) xs
    ∙ left_by b (e == 0) (power_text name e) (powers (drop (i + 1) names) (drop (i + 1) es))

-- what is written at one place, and what is left then
pub left_next : (names : List (List ℕ)) (es done whole : List ℕ) (b after : Bool) (i : ℕ) (name : List ℕ) → i < length es → length es ≡ length names →
    slice_get names i ≡ Some name
    → after ≡ (b || not (get_or es i 0 == 0)) → done ++ left_text b (powers (drop i names) (drop i es)) ≡ whole
    → (done ++ next_text b name (get_or es i 0)) ++ left_text after (powers (drop (i + 1) names) (drop (i + 1) es)) ≡ whole
left_next names es done whole b after i name h same is some so_far =
    let later = powers (drop (i + 1) names) (drop (i + 1) es) in
    let here = next_text b name (get_or es i 0) in
    ap (λ v. (done ++ here) ++ left_text v later) some
    ∙ append_assoc done here (left_text (b || not (get_or es i 0 == 0)) later)
    ∙ ap (λ n. done ++ (next_text b n (get_or es i 0) ++ left_text (b || not (get_or es i 0 == 0)) later)) (sym (get_or_from_slice_get names i name name is))
    ∙ ap (λ l. done ++ l) (sym (left_on names es b i name (omega arith) h))
    ∙ so_far

-- nothing is left of the powers
pub left_end : (names : List (List ℕ)) (es done whole : List ℕ) (b : Bool) (i : ℕ) → length names ≤ i →
    done ++ left_text b (powers (drop i names) (drop i es)) ≡ whole
    → done ++ left_text b [] ≡ whole
left_end names es done whole b i h so_far = ap (λ ns. done ++ left_text b (powers ns (drop i es))) (sym (drop_all i names h)) ∙ so_far

-- ---- terms

unit_size : (c : Fraction) → is_unit c ≡ true → codes "1" ≡ size_text c
unit_size c e =
    let p = and_parts (unsigned_abs c.num == 1) (c.den == 1) e in
    let one : unsigned_abs c.num ≡ 1 = eqb-true (unsigned_abs c.num) 1 p.0 in
    let by : Bool → List ℕ = λ b. if b then decimal (unsigned_abs c.num) else decimal (unsigned_abs c.num) ++ (47 ∷ decimal c.den) in
    sym (decimal_digit 1 (omega arith)) ∙ ap decimal (sym one) ∙ ap by (sym p.1)

-- a term whose coefficient is 1 or -1
pub unit_term : (names : List (List ℕ)) (c : Fraction) (es : List ℕ) → is_unit c ≡ true → left_text false (powers names es) ≡ unsigned_text names c es
unit_term names c es e =
    ap (λ s. joined (42 ∷ []) (pieces true s (powers names es))) (unit_size c e)
    ∙ ap (λ b. joined (42 ∷ []) (pieces b (size_text c) (powers names es))) (sym e)

size_left : (size : List ℕ) (ps : List (List ℕ)) → size ++ left_text true ps ≡ joined (42 ∷ []) (pieces false size ps)
size_left size [] = refl
size_left size (p ∷ ps) = refl

-- a term of another coefficient
pub sized_term : (names : List (List ℕ)) (c : Fraction) (es : List ℕ) → is_unit c ≡ false →
    size_text c ++ left_text true (powers names es) ≡ unsigned_text names c es
sized_term names c es e =
    size_left (size_text c) (powers names es) ∙ ap (λ b. joined (42 ∷ []) (pieces b (size_text c) (powers names es))) (sym e)

-- a polynomial's first term, and the others
pub terms_parts : (names : List (List ℕ)) (f : Terms) (t : Term) → t ≡ get_or f 0 t → 1 ≤ length f
    → ((if is_below_zero t.coef.num then 45 ∷ [] else []) ++ unsigned_text names t.coef t.mono) ++ flat_map (λ (u : Term). later_text names u.coef u.mono)
    (take (length f - 1) (drop 1 f)) ≡ terms_text names f
terms_parts names [] t is h = absurd (omega arith)
terms_parts names (u ∷ f) t is h =
    ap (λ (v : Term). ((if is_below_zero v.coef.num then 45 ∷ [] else []) ++ unsigned_text names v.coef v.mono) ++
    flat_map (λ (w : Term). later_text names w.coef w.mono) (take (length (u ∷ f) - 1) f)) is
    ∙ ap (λ (ts : Terms). first_text names u.coef u.mono ++ flat_map (λ (w : Term). later_text names w.coef w.mono) ts)
    (take_all (length (u ∷ f) - 1) f (omega arith))

-- ---- parts, one after another

pub parts_split : {X : Type 0} (f : X → List ℕ) (xs : List X) (i : ℕ) (x : X) → i < length xs → x ≡ get_or xs i x
    → (flat_map f (take i xs) ++ f x) ++ flat_map f (drop (suc i) xs) ≡ flat_map f xs
parts_split f [] i x h is = absurd (omega arith)
parts_split f (y ∷ ys) zero x h is = ap (λ z. f z ++ flat_map f ys) is
parts_split f (y ∷ ys) (suc i) x h is =
    append_both (f y) (flat_map f (take i ys)) (f x) (flat_map f (drop (suc i) ys)) ∙ ap (λ l. f y ++ l) (parts_split f ys i x (omega arith) is)
  where
    append_both : (a b c d : List ℕ) → ((a ++ b) ++ c) ++ d ≡ a ++ ((b ++ c) ++ d)
    append_both a b c d = simp append_assoc

-- the same of numbers, which are read at any default
pub numbers_split : (f : ℤ → List ℕ) (xs : List ℤ) (i : ℕ) (d : ℤ) → i < length xs →
    (flat_map f (take i xs) ++ f (get_or xs i d)) ++ flat_map f (drop (suc i) xs) ≡ flat_map f xs
numbers_split f xs i d h = parts_split f xs i (get_or xs i d) h (get_or_default xs i d (get_or xs i d) h)

-- an entry as it is written
pub entry_same : (z : ℤ) → signed_decimal z ≡ entry_text z
entry_same (pos n) = refl
entry_same (negsuc n) = refl

-- the first entry of a vector, and the others
pub entries_parts : (xs : List ℤ) (d : ℤ) → 1 ≤ length xs → entry_text (get_or xs 0 d) ++ flat_map (λ y. 44 ∷ entry_text y) (take (length xs - 1) (drop 1 xs)) ≡
    entries_text xs
entries_parts [] d h = absurd (omega arith)
entries_parts (x ∷ xs) d h = ap (λ ys. entry_text x ++ flat_map (λ y. 44 ∷ entry_text y) ys) (take_all (length (x ∷ xs) - 1) xs (omega arith))
