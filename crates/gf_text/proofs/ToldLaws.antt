-- What a sink gained of texts, one after another.
-- To cite: told_then, told_failed, told_as, told_part, told_whole, told_front. The rest are steps.
use Rattle.std.proofs.Common.{◌≡◌, ℕ, ◌+◌, ◌≤◌, List, [], ◌++◌, length, take, take_all, arith, refl, sym, ◌∙◌, subst, ap, true, length-append, Result, Ok, Err}
use Rattle.std.proofs.Common.{is_ok}
use Rattle.std.proofs.lemmas.List.{take-append-le, take_at}
use Rattle.std.proofs.Math.Seq.{take-append-add}
use Rattle.std.specs.declared.option.Option.{Option}
use Rattle.std.specs.declared.option.Option.TheVariants.{Some}
use Rattle.std.specs.Io.KnownBytes.{Appends}
use Rattle.std.proofs.KnownBytes.{Appends-nil, Appends-trans}
use Rattle.gf_outside.specs.Moved.{AppendsPrefix}
use Rattle.gf_text.specs.Told.{Wrote, WroteInPart, Told}

-- ---- prefixes

-- a prefix of the first text is a prefix of both
AppendsPrefix-more : (a b : Option (List ℕ)) (xs ys : List ℕ) → AppendsPrefix a b xs → AppendsPrefix a b (xs ++ ys)
AppendsPrefix-more a b xs ys p =
    let within : p.0 ≤ length xs = p.1 in
    (p.0, omega (arith, length-append xs ys), subst (Appends a b) (sym (take-append-le p.0 xs ys within)) p.2)

-- the whole of the first text and a prefix of the second is a prefix of both
AppendsPrefix-after : (a b c : Option (List ℕ)) (xs ys : List ℕ) → Appends a b xs → AppendsPrefix b c ys → AppendsPrefix a c (xs ++ ys)
AppendsPrefix-after a b c xs ys p q = (
  length xs + q.0,
  omega (arith, q.1, length-append xs ys),
  subst (Appends a c) (sym (take-append-add xs ys q.0)) (Appends-trans a b c xs (take q.0 ys) p q.2),
)

-- ---- texts

pub wrote_nothing : (a : Option (List ℕ)) (m : ℕ) → Wrote a a m m []
wrote_nothing a m = record { gained = Appends-nil a; calm = refl }

pub wrote_both : (a b c : Option (List ℕ)) (m n o : ℕ) (xs ys : List ℕ) → Wrote a b m n xs → Wrote b c n o ys → Wrote a c m o (xs ++ ys)
wrote_both a b c m n o xs ys p q = record {
  gained = Appends-trans a b c xs ys p.gained q.gained;
  calm = q.calm ∙ p.calm;
}

pub wrote_then_part : (a b c : Option (List ℕ)) (m n o : ℕ) (xs ys : List ℕ) → Wrote a b m n xs → WroteInPart b c n o ys → WroteInPart a c m o (xs ++ ys)
wrote_then_part a b c m n o xs ys p q = record {
  gained = AppendsPrefix-after a b c xs ys p.gained q.gained;
  rose = omega (arith, p.calm, q.rose);
  later = omega (arith, p.calm, q.later);
  once = omega (arith, p.calm, q.once);
}

pub part_more : (a b : Option (List ℕ)) (m n : ℕ) (xs ys : List ℕ) → WroteInPart a b m n xs → WroteInPart a b m n (xs ++ ys)
part_more a b m n xs ys p = record {
  gained = AppendsPrefix-more a b xs ys p.gained;
  rose = p.rose;
  later = p.later;
  once = p.once;
}

-- a text, and then another one by a call
pub told_then : {T E : Type 0} (r : Result T E) (a b c : Option (List ℕ)) (m n o : ℕ) (xs ys text : List ℕ) → xs ++ ys ≡ text → Wrote a b m n xs →
    Told b c n o ys r → Told a c m o text r
told_then {T} {E} (Ok x) a b c m n o xs ys text is p q = subst (Wrote a c m o) is (wrote_both a b c m n o xs ys p q)
told_then {T} {E} (Err e) a b c m n o xs ys text is p q = subst (WroteInPart a c m o) is (wrote_then_part a b c m n o xs ys p q)

-- a call that fails in the first of two texts
pub told_failed : {T E : Type 0} (r : Result T E) (e : E) (a b : Option (List ℕ)) (m n : ℕ) (xs ys text : List ℕ) → r ≡ Err e → xs ++ ys ≡ text →
    WroteInPart a b m n xs → Told a b m n text r
told_failed r e a b m n xs ys text failed is p = subst (Told a b m n text) (sym failed) (subst (WroteInPart a b m n) is (part_more a b m n xs ys p))

-- a text by another name
pub told_as : {T E : Type 0} (r : Result T E) (a b : Option (List ℕ)) (m n : ℕ) (xs ys : List ℕ) → xs ≡ ys → Told a b m n xs r → Told a b m n ys r
told_as r a b m n xs ys is p = subst (λ t. Told a b m n t r) is p

-- whatever the answer, a prefix was gained, and the count of faults didn't fall
pub told_part : {T E : Type 0} (r : Result T E) (a b : Option (List ℕ)) (m n : ℕ) (xs : List ℕ) → Told a b m n xs r → AppendsPrefix a b xs
told_part {T} {E} (Ok x) a b m n xs p = (length xs, omega arith, subst (Appends a b) (sym (take_all (length xs) xs (omega arith))) p.gained)
told_part {T} {E} (Err e) a b m n xs p = p.gained

-- ---- lists of bytes

-- a list of bytes holds the whole text behind what it held, where the call succeeds
pub told_whole : {T E : Type 0} (r : Result T E) (xs ys : List ℕ) (m n : ℕ) (text : List ℕ) → is_ok r ≡ true → Told (Some xs) (Some ys) m n text r →
    ys ≡ xs ++ text
told_whole {T} {E} (Ok x) xs ys m n text ok p = p.gained
told_whole {T} {E} (Err e) xs ys m n text ok p = cc

-- and what it held stands in front, whatever the answer
pub told_front : {T E : Type 0} (r : Result T E) (xs ys : List ℕ) (m n : ℕ) (text : List ℕ) → Told (Some xs) (Some ys) m n text r → take (length xs) ys ≡ xs
told_front {T} {E} r xs ys m n text p =
    let part = told_part r (Some xs) (Some ys) m n text p in
    ap (take (length xs)) part.2 ∙ take_at xs (take part.0 text) (length xs) refl
