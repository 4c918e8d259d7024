-- What is said of polynomials is combined to these polynomials, with their marks.
-- To cite: listed, all_listed, sums_listed, listed_fit, listed_written. The rest are steps.
use Rattle.std.proofs.Common.{◌≡◌, ◌≤◌, ◌<◌, ◌^◌, ◌+◌, ◌-◌, ℕ, zero, suc, ℤ, pos, negsuc, Bool, true, false, cond, ◌==◌, nat_lt, slice_index, slice_set}
use Rattle.std.proofs.Common.{replicate, List, [], ◌∷◌, ◌++◌, length, bytes_eq, Ok, refl, sym, ap, subst, ◌∙◌, inl, inr, arith, append_assoc, length-append}
use Rattle.std.proofs.Common.{if◌then◌else◌}
use Rattle.std.specs.Ordering.{is_eq}
use Rattle.std.specs.declared.cmp.Ordering.{Ordering}
use Rattle.std.specs.declared.cmp.Ordering.TheVariants.{Greater, Less, Equal}
use Rattle.std.specs.Int.RustNames.{unsigned_abs}
use Rattle.std.proofs.lemmas.Bool.Decides.{eqb_tells, nat_tests}
use Rattle.std.proofs.lemmas.Slice.Eq.{bytes_eq-Decides}
use Rattle.gf_frac.specs.Fraction.{Fraction, over, over-parts, ◌+ℚ◌, zero_ℚ}
use Rattle.gf_frac.proofs.FractionLaws.{over-neg, +ℚ_assoc, +ℚ-zero, zero-+ℚ}
use Rattle.gf_exponents_theory.specs.Exponents.{Exponents, same}
use Rattle.gf_exponents_theory.specs.Orders.{deglex}
use Rattle.gf_exponents_theory.proofs.ExponentsLaws.{same-refl}
use Rattle.gf_poly.specs.declared.Term.{Term}
use Rattle.gf_poly.specs.Polynomial.{Terms, IsDescending, HasVariables, SamePolynomial, coefficient}
use Rattle.gf_poly.specs.Collecting.{like, LikeSumsFit}
use Rattle.gf_poly.specs.Marking.{MarkedPolynomial}
use Rattle.gf_poly.proofs.CollectLaws.{short_fits, like-short}
use Rattle.gf_poly.proofs.CoefficientLaws.{apart, term_nonzero}
use Rattle.gf_poly.proofs.DescendingLaws.{equal_same}
use Rattle.gf_text.specs.declared.written.Written.{Written}
use Rattle.gf_text.specs.declared.written.Written.TheVariants as written
use Rattle.gf_text.specs.PrintedText.{is_below_zero}
use Rattle.gf_text.specs.Combining.{raised_by, then_factors, times_factors, signed_fraction, exponents_of, coefficient_of, with_coefficient, term_written}
use Rattle.gf_text.specs.Combining.{terms_written, sums_of, before_all, IsSumMarked, NoneRemains}
use Rattle.gf_text.specs.Sets.{AreWritten, AllSumsFit}
use Rattle.gf_text.specs.WrittenText.{IsKeptMarked, IsWrittenKept, AreWrittenKept}
use Rattle.gf_text.proofs.PrintedTermsLaws.{AreSmall, factors_from, term_said}
use Rattle.gf_text.proofs.PrintedPolynomialsLaws.{IsFine, AreFine, all_fine, fine_at, head_term, head_is, others_said, said, all_said}
use Rattle.gf_poly.proofs.MergeLaws.{swap_first}

-- ---- terms

index_behind : (done : List ℕ) (a : ℕ) (rest : List ℕ) → slice_index (done ++ a ∷ rest) (length done) ≡ a
index_behind [] a rest = refl
index_behind (d ∷ done) a rest = index_behind done a rest

set_behind : (done : List ℕ) (a b : ℕ) (rest : List ℕ) → slice_set (done ++ a ∷ rest) (length done) b ≡ done ++ b ∷ rest
set_behind [] a b rest = refl
set_behind (d ∷ done) a b rest = ap (λ l. d ∷ l) (set_behind done a b rest)

raised_once : (done : List ℕ) (e : ℕ) (rest : List ℕ) → e < 2 ^ 31 → raised_by (done ++ 0 ∷ rest) (record { variable = length done; exponent = e }) ≡
    Ok (done ++ e ∷ rest)
raised_once done e rest small =
    let here = index_behind done 0 rest in
    let within : nat_lt (slice_index (done ++ 0 ∷ rest) (length done) + e) (2 ^ 31) ≡ true = grind (arith, nat_tests) in
    let sum : slice_index (done ++ 0 ∷ rest) (length done) + e ≡ e = omega (arith, here) in
    rw within (ap (λ k. Ok k) (ap (slice_set (done ++ 0 ∷ rest) (length done)) sum ∙ set_behind done 0 e rest))

-- the powers of a monomial, one after another, give it
factors_by : (done es : List ℕ) (e : ℕ) (v : Bool) → (v ≡ true → e ≡ 0) → e < 2 ^ 31 →
    times_factors (done ++ e ∷ replicate (length es) 0) (factors_from (length done + 1) es) ≡ Ok (done ++ e ∷ es)
    → times_factors (done ++ 0 ∷ replicate (length es) 0) (if v then factors_from (length done + 1) es else record { variable = length done; exponent = e } ∷
    factors_from (length done + 1) es) ≡ Ok (done ++ e ∷ es)
factors_by done es e true none small later = ap (λ (k : ℕ). times_factors (done ++ k ∷ replicate (length es) 0) (factors_from (length done + 1) es))
    (sym (none refl)) ∙ later
factors_by done es e false none small later = ap (λ r. then_factors r (λ y. times_factors y (factors_from (length done + 1) es)))
    (raised_once done e (replicate (length es) 0) small) ∙ later

zero_by : (e : ℕ) → (e == 0) ≡ true → e ≡ 0
zero_by e h = elim (eqb_tells e 0) [ inl k ↦ k.1 | inr k ↦ let no = k.0 in cc ]

factors_again : (done es : List ℕ) → AreSmall es → times_factors (done ++ replicate (length es) 0) (factors_from (length done) es) ≡ Ok (done ++ es)
factors_again done [] small = refl
factors_again done (e ∷ es) small =
    let next : length done + 1 ≡ length (done ++ e ∷ []) = omega (arith, length-append done (e ∷ [])) in
    factors_by done es e (e == 0) (zero_by e) small.0
    (ap (λ k. times_factors (done ++ e ∷ replicate (length es) 0) (factors_from k es)) next
    ∙ ap (λ x. times_factors x (factors_from (length (done ++ e ∷ [])) es)) (sym (append_assoc done (e ∷ []) (replicate (length es) 0)))
    ∙ factors_again (done ++ e ∷ []) es small.1
    ∙ ap (λ l. Ok l) (append_assoc done (e ∷ []) es))

exponents_again : (n : ℕ) (c : Fraction) (es : List ℕ) → length es ≡ n → AreSmall es → exponents_of n (term_said c es) ≡ Ok es
exponents_again n c es same small = ap (λ k. times_factors (replicate k 0) (factors_from 0 es)) (sym same) ∙ factors_again [] es small

coefficient_again : (c : Fraction) → signed_fraction (is_below_zero c.num) (over (pos (unsigned_abs c.num)) (c.den - 1)) ≡ c
coefficient_again c = by c.num refl
  where
    by : (z : ℤ) → c.num ≡ z → signed_fraction (is_below_zero z) (over (pos (unsigned_abs z)) (c.den - 1)) ≡ c
    by (pos a) is = ap (λ z. over z (c.den - 1)) (sym is) ∙ over-parts c
    by (negsuc a) is = over-neg (pos (suc a)) (c.den - 1) ∙ ap (λ z. over z (c.den - 1)) (sym is) ∙ over-parts c

term_again : (n : ℕ) (t : Term) → IsFine n t → term_written n (term_said t.coef t.mono) ≡ Ok t
term_again n t fine =
    ap (with_coefficient (coefficient_of (term_said t.coef t.mono))) (exponents_again n t.coef t.mono fine.variables fine.exponents)
    ∙ ap (λ (c : Fraction). Ok (record { coef = c; mono = t.mono })) (coefficient_again t.coef)

-- ---- the terms that are listed

abbrev pub others : Exponents → Terms → Terms
others head [] = []
others head (t ∷ f) = if bytes_eq t.mono head then others head f else t ∷ others head f

abbrev pub listed : ℕ → Written → Terms
listed n written.Zero = record { coef = zero_ℚ; mono = replicate n 0 } ∷ []
listed n (written.Nonzero m) = head_term m ∷ others m.head m.poly

abbrev pub all_listed : ℕ → List Written → List Terms
all_listed n [] = []
all_listed n (w ∷ ws) = listed n w ∷ all_listed n ws

others_listed : (n : ℕ) (head : Exponents) (f : Terms) → AreFine n f → terms_written n (others_said head f) ≡ Ok (others head f)
others_listed n head [] fine = refl
others_listed n head (t ∷ f) fine = by (bytes_eq t.mono head) (others_listed n head f fine.1)
  where
    by : (v : Bool) → terms_written n (others_said head f) ≡ Ok (others head f) →
        terms_written n (if v then others_said head f else term_said t.coef t.mono ∷ others_said head f) ≡ Ok (if v then others head f else t ∷ others head f)
    by true later = later
    by false later = ap (λ r. before_all r (terms_written n (others_said head f))) (term_again n t fine.0) ∙ ap (before_all (Ok t)) later

terms_listed : (n : ℕ) (w : Written) → IsWrittenKept n w → terms_written n (said w) ≡ Ok (listed n w)
terms_listed n written.Zero kept = refl
terms_listed n (written.Nonzero m) kept =
    let all = all_fine n m.poly kept.variables kept.range in
    let head = head_term m in
    let fine = fine_at n m.poly head all (head_is n m kept) in
    ap (λ r. before_all r (terms_written n (others_said m.head m.poly))) (term_again n head fine) ∙ ap (before_all (Ok head))
    (others_listed n m.head m.poly all)

pub sums_listed : (n : ℕ) (ws : List Written) → AreWrittenKept n ws → sums_of n (all_said ws) ≡ Ok (all_listed n ws)
sums_listed n [] kept = refl
sums_listed n (w ∷ ws) kept = ap (λ r. before_all r (sums_of n (all_said ws))) (terms_listed n w kept.0) ∙ ap (before_all (Ok (listed n w)))
    (sums_listed n ws kept.1)

-- ---- sums of like terms

with_one : (o : Bool) (t : Term) (f g : Terms) → length f ≤ length g → length f ≤ length (cond o (t ∷ g) g)
with_one true t f g h = omega arith
with_one false t f g h = h

both_with_one : (o : Bool) (t : Term) (f g : Terms) → length f ≤ length g → length (cond o (t ∷ f) f) ≤ length (cond o (t ∷ g) g)
both_with_one true t f g h = omega arith
both_with_one false t f g h = h

like-fewer : (x head : Exponents) (f : Terms) → length (like x (others head f)) ≤ length (like x f)
like-fewer x head [] = omega arith
like-fewer x head (t ∷ f) = by (bytes_eq t.mono head) (like-fewer x head f)
  where
    by : (v : Bool) → length (like x (others head f)) ≤ length (like x f) →
        length (like x (if v then others head f else t ∷ others head f)) ≤ length (cond (is_eq (deglex x t.mono)) (t ∷ like x f) (like x f))
    by true later = with_one (is_eq (deglex x t.mono)) t (like x (others head f)) (like x f) later
    by false later = both_with_one (is_eq (deglex x t.mono)) t (like x (others head f)) (like x f) later

-- the others aren't at the marked monomial
apart_mono : (x y : Exponents) → bytes_eq y x ≡ false → deglex x y ≡ Equal → ⊥
apart_mono x y h e = let same : bytes_eq y x ≡ true = (bytes_eq-Decides y x).1 (sym (equal_same x y e)) in cc

like-none : (head : Exponents) (f : Terms) → length (like head (others head f)) ≡ 0
like-none head [] = refl
like-none head (t ∷ f) = by (bytes_eq t.mono head) refl (like-none head f)
  where
    at : (o : Ordering) → deglex head t.mono ≡ o → (deglex head t.mono ≡ Equal → ⊥) → length (like head (others head f)) ≡ 0 →
        length (cond (is_eq o) (t ∷ like head (others head f)) (like head (others head f))) ≡ 0
    at Less is differs later = later
    at Greater is differs later = later
    at Equal is differs later = absurd (differs is)

    by : (v : Bool) → bytes_eq t.mono head ≡ v → length (like head (others head f)) ≡ 0 →
        length (like head (if v then others head f else t ∷ others head f)) ≡ 0
    by true is later = later
    by false is later = at (deglex head t.mono) refl (apart_mono head t.mono is) later

-- no two of the listed terms are alike
listed-short : (x : Exponents) (t : Term) (f : Terms) → IsDescending f → length (like x (t ∷ others t.mono f)) ≤ 1
listed-short x t f descending = by (deglex x t.mono) refl
  where
    few : length (like x (others t.mono f)) ≤ 1
    few = let a = like-fewer x t.mono f in let b = like-short x f descending in omega arith

    by : (o : Ordering) → deglex x t.mono ≡ o → length (cond (is_eq o) (t ∷ like x (others t.mono f)) (like x (others t.mono f))) ≤ 1
    by Less is = few
    by Greater is = few
    by Equal is = let none : length (like x (others t.mono f)) ≡ 0 =
        ap (λ y. length (like y (others t.mono f))) (equal_same x t.mono is) ∙ like-none t.mono f in omega arith

one_fits : (t : Term) → LikeSumsFit (t ∷ [])
one_fits t = record { at = λ x. short_fits (like x (t ∷ [])) (by (is_eq (deglex x t.mono))) }
  where
    by : (v : Bool) → length (cond v (t ∷ []) []) ≤ 1
    by true = omega arith
    by false = omega arith

listed_fits : (n : ℕ) (w : Written) → IsWrittenKept n w → LikeSumsFit (listed n w)
listed_fits n written.Zero kept = one_fits (record { coef = zero_ℚ; mono = replicate n 0 })
listed_fits n (written.Nonzero m) kept = record {
  at = λ x. short_fits (like x (head_term m ∷ others m.head m.poly)) (listed-short x (head_term m) m.poly kept.marked.descending);
}

pub listed_fit : (n : ℕ) (ws : List Written) → AreWrittenKept n ws → AllSumsFit (all_listed n ws)
listed_fit n [] kept = tt
listed_fit n (w ∷ ws) kept = (listed_fits n w kept.0, listed_fit n ws kept.1)

-- ---- the polynomial that is the sum of the listed terms

part : Bool → Fraction → Fraction
part b c = if b then c else zero_ℚ

-- the coefficient of a term at the marked monomial, and of others there
with_term : (b : Bool) (a c k : Fraction) → part b a +ℚ (part b c +ℚ k) ≡ part b (a +ℚ c) +ℚ k
unfolding part
with_term true a c k = sym (+ℚ_assoc a c k)
with_term false a c k = zero-+ℚ (zero_ℚ +ℚ k)

-- the coefficient at the marked monomial, and of the others
taken_apart : (n : ℕ) (head : Exponents) (f : Terms) (e : Exponents) → length head ≡ n → HasVariables n f →
    coefficient f e ≡ part (same e head) (coefficient f head) +ℚ coefficient (others head f) e
unfolding part
taken_apart n head [] e same_length variables = by (same e head)
  where
    by : (b : Bool) → zero_ℚ ≡ (if b then zero_ℚ else zero_ℚ) +ℚ zero_ℚ
    by true = sym (+ℚ-zero zero_ℚ)
    by false = sym (+ℚ-zero zero_ℚ)
taken_apart n head (t ∷ f) e same_length variables = by (bytes_eq t.mono head) refl (taken_apart n head f e same_length variables.1)
  where
    c : Fraction
    c = coefficient f head

    at_head : t.mono ≡ head → coefficient f e ≡ part (same e head) (coefficient f head) +ℚ coefficient (others head f) e →
        coefficient (t ∷ f) e ≡ part (same e head) (coefficient (t ∷ f) head) +ℚ coefficient (others head f) e
    at_head is later =
        let here : coefficient (t ∷ f) head ≡ t.coef +ℚ coefficient f head =
        ap (λ x. part (same head x) t.coef +ℚ coefficient f head) is ∙ ap (λ b. part b t.coef +ℚ coefficient f head) (same-refl head) in
        ap (λ x. part (same e x) t.coef +ℚ coefficient f e) is
        ∙ ap (λ k. part (same e head) t.coef +ℚ k) later
        ∙ with_term (same e head) t.coef (coefficient f head) (coefficient (others head f) e)
        ∙ ap (λ k. part (same e head) k +ℚ coefficient (others head f) e) (sym here)

    elsewhere : (t.mono ≡ head → ⊥) → coefficient f e ≡ part (same e head) (coefficient f head) +ℚ coefficient (others head f) e →
        coefficient (t ∷ f) e ≡ part (same e head) (coefficient (t ∷ f) head) +ℚ coefficient (t ∷ others head f) e
    elsewhere differs later =
        let other : same head t.mono ≡ false = apart head t.mono (same_length ∙ sym variables.0) (λ is. differs (sym is)) in
        let here : coefficient (t ∷ f) head ≡ coefficient f head = ap (λ b. part b t.coef +ℚ coefficient f head) other ∙ zero-+ℚ (coefficient f head) in
        ap (λ k. part (same e t.mono) t.coef +ℚ k) later
        ∙ swap_first (part (same e t.mono) t.coef) (part (same e head) (coefficient f head)) (coefficient (others head f) e)
        ∙ ap (λ k. part (same e head) k +ℚ coefficient (t ∷ others head f) e) (sym here)

    by : (v : Bool) → bytes_eq t.mono head ≡ v → coefficient f e ≡ part (same e head) (coefficient f head) +ℚ coefficient (others head f) e
        → coefficient (t ∷ f) e ≡ part (same e head) (coefficient (t ∷ f) head) +ℚ coefficient (if v then others head f else t ∷ others head f) e
    by true is later = at_head ((bytes_eq-Decides t.mono head).0 is) later
    by false is later = elsewhere (λ k. (let yes : bytes_eq t.mono head ≡ true = (bytes_eq-Decides t.mono head).1 k in cc)) later

listed_sum : (n : ℕ) (m : MarkedPolynomial) → IsKeptMarked n m → length m.head ≡ n → SamePolynomial m.poly (listed n (written.Nonzero m))
unfolding part
listed_sum n m kept same_length = λ e. taken_apart n m.head m.poly e same_length kept.variables

listed_marked : (n : ℕ) (m : MarkedPolynomial) → IsKeptMarked n m → IsSumMarked (listed n (written.Nonzero m)) m
listed_marked n m kept =
    let head = head_term m in
    let stands = head_is n m kept in
    let length_is = (fine_at n m.poly head (all_fine n m.poly kept.variables kept.range) stands).variables in
    let sum = listed_sum n m kept length_is in
    record {
      sum = sum;
      descending = kept.marked.descending;
      variables = record { at = λ k h. (let same : n ≡ k = sym length_is ∙ h.0 in subst (λ j. HasVariables j m.poly) same kept.variables) };
      marked = record {
        at = 0;
        term = head;
        stands = refl;
        monomial = refl;
        remains = λ zero. term_nonzero m.poly head kept.marked.descending stands (sum m.head ∙ zero);
        before = λ k below. absurd (omega arith);
      };
    }

zero_listed : (n : ℕ) → NoneRemains (listed n written.Zero)
zero_listed n zero = by (same (replicate n 0) (replicate n 0))
  where
    by : (b : Bool) → (if b then zero_ℚ else zero_ℚ) +ℚ zero_ℚ ≡ zero_ℚ
    by true = +ℚ-zero zero_ℚ
    by false = +ℚ-zero zero_ℚ
zero_listed n (suc k) = tt

pub listed_written : (n : ℕ) (ws : List Written) → AreWrittenKept n ws → AreWritten (all_listed n ws) ws
listed_written n [] kept = tt
listed_written n (written.Zero ∷ ws) kept = (zero_listed n, listed_written n ws kept.1)
listed_written n (written.Nonzero m ∷ ws) kept = (listed_marked n m kept.0, listed_written n ws kept.1)
