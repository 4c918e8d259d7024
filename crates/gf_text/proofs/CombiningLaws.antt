-- Terms and sums of terms, one after another.
-- To cite: terms_on, terms_end, terms_fit; sums_push_ok, sums_push_refused, sums_push_after; sums_append_ok, sums_append_refused, sums_append_after;
-- found_place; not_yet, none_left, first_found. The rest are steps.
use Rattle.std.proofs.Common.{◌≡◌, ◌≢◌, ◌<◌, ◌≤◌, ℕ, zero, suc, ◌+◌, ◌^◌, Bool, true, false, nat_lt, slice_index, slice_set, replicate, IfSome, inl, inr, arith}
use Rattle.std.proofs.Common.{if◌then◌else◌, List, [], ◌∷◌, ◌++◌, length, drop, get_or, Result, Ok, Err, Option, Some, None, MatchOption, slice_get, refl, sym}
use Rattle.std.proofs.Common.{ap, subst, ◌∙◌, add-one, append_assoc, append-nil}
use Rattle.std.proofs.Math.Seq.{drop-cons}
use Rattle.std.proofs.lemmas.List.{drop_all}
use Rattle.std.proofs.lemmas.Option.{slice_get-get_or, slice_get_past}
use Rattle.std.proofs.lemmas.Bool.{cases_lt}
use Rattle.std.proofs.lemmas.List.{length-replicate}
use Rattle.std.proofs.Math.ListN.{length-set}
use Rattle.std.specs.Result.{result_ok}
use Rattle.std.specs.Ordering.{ordering_index}
use Rattle.std.specs.List.Sorted.{IsNonDecreasingBy, IsSearchInRange, IsBinarySearchResult}
use Rattle.gf_frac.specs.Fraction.{◌+ℚ◌, zero_ℚ}
use Rattle.gf_frac.proofs.FractionLaws.{zero-+ℚ}
use Rattle.std.specs.declared.cmp.Ordering.{Ordering}
use Rattle.std.specs.declared.cmp.Ordering.TheVariants.{Less, Equal, Greater}
use Rattle.gf_exponents_theory.specs.Exponents.{Exponents, same}
use Rattle.gf_exponents_theory.specs.Orders.{deglex}
use Rattle.gf_poly.specs.declared.Term.{Term}
use Rattle.gf_poly.specs.declared.monomial.ExponentOverflow.{ExponentOverflow}
use Rattle.gf_poly.specs.Polynomial.{Terms, IsAbove, IsDescending, HasVariables, SamePolynomial, coefficient}
use Rattle.gf_poly.proofs.CoefficientLaws.{apart, coefficient-contains}
use Rattle.gf_poly.proofs.DescendingLaws.{equal_same, greater_trans}
use Rattle.gf_text.specs.declared.tree.Factor.{Factor}
use Rattle.gf_text.specs.declared.tree.WrittenTerm.{WrittenTerm}
use Rattle.gf_text.specs.Combining.{raised_by, then_factors, times_factors, exponents_of, coefficient_of, term_written, terms_written, sums_of}
use Rattle.gf_text.specs.Combining.{SumsHaveVariables, before_all, with_coefficient, IsPlaceOf, IsFirstRemainingAt, FindsFirst, IsSumOf}
use Rattle.gf_poly.proofs.CollectLaws.{alike_itself}

-- ---- powers, one after another

-- ---- terms, one after another

-- elements before others, where these aren't refused
abbrev pub onto : {A : Type 0} → List A → Result (List A) ExponentOverflow → Result (List A) ExponentOverflow
onto xs (Ok ys) = Ok (xs ++ ys)
onto xs (Err o) = Err o

onto_next : {A : Type 0} (xs : List A) (x : A) (r : Result (List A) ExponentOverflow) → onto xs (before_all (Ok x) r) ≡ onto (xs ++ x ∷ []) r
onto_next xs x (Ok ys) = ap (λ l. Ok l) (sym (append_assoc xs (x ∷ []) ys))
onto_next xs x (Err o) = refl

pub onto_nothing : {A : Type 0} (r : Result (List A) ExponentOverflow) → onto [] r ≡ r
onto_nothing (Ok ys) = refl
onto_nothing (Err o) = refl

terms_at : (n : ℕ) (us : List WrittenTerm) (i : ℕ) (d : WrittenTerm) → i < length us →
    terms_written n (drop i us) ≡ before_all (term_written n (get_or us i d)) (terms_written n (drop (i + 1) us))
terms_at n us i d h = let front : drop i us ≡ get_or us i d ∷ drop (i + 1) us = rw add-one (drop-cons us i d h) in ap (terms_written n) front

pub terms_on : (n : ℕ) (out : Terms) (t : Term) (us : List WrittenTerm) (i : ℕ) (d : WrittenTerm) → i < length us → term_written n (get_or us i d) ≡ Ok t
    → onto out (terms_written n (drop i us)) ≡ onto (out ++ t ∷ []) (terms_written n (drop (i + 1) us))
terms_on n out t us i d h e =
    ap (onto out) (terms_at n us i d h ∙ ap (λ r. before_all r (terms_written n (drop (i + 1) us))) e) ∙ onto_next out t (terms_written n (drop (i + 1) us))

pub terms_end : (n : ℕ) (out : Terms) (us : List WrittenTerm) (i : ℕ) → length us ≤ i → onto out (terms_written n (drop i us)) ≡ Ok out
terms_end n out us i h = ap (λ l. onto out (terms_written n l)) (drop_all i us h) ∙ ap (λ l. Ok l) (append-nil out)

-- the first i terms, none of which is refused
pub record Taken (n : ℕ) (us : List WrittenTerm) (i : ℕ) : Type 0 where
  pub terms : Terms
  pub all : onto terms (terms_written n (drop i us)) ≡ terms_written n us

pub said_term : (n : ℕ) (u : WrittenTerm) (x : Exponents) → exponents_of n u ≡ Ok x → term_written n u ≡ Ok (record { coef = coefficient_of u; mono = x })
said_term n u x e = ap (with_coefficient (coefficient_of u)) e

abbrev pub taken_none : (n : ℕ) (us : List WrittenTerm) → Taken n us 0
taken_none n us = record { terms = []; all = onto_nothing (terms_written n us) }

abbrev pub taken_on : (n : ℕ) (us : List WrittenTerm) (i : ℕ) (d : WrittenTerm) (x : Exponents) → i < length us → exponents_of n (get_or us i d) ≡ Ok x →
    Taken n us i → Taken n us (i + 1)
taken_on n us i d x h e t =
    let next : Term = record { coef = coefficient_of (get_or us i d); mono = x } in
    record { terms = t.terms ++ next ∷ []; all = sym (terms_on n t.terms next us i d h (said_term n (get_or us i d) x e)) ∙ t.all }

-- ---- places in a sum

-- monomials descend
above_at : (x : Exponents) (f : Terms) (j : ℕ) (d : Term) → IsAbove x f → j < length f → deglex x (get_or f j d).mono ≡ Greater
above_at x [] j d h k = absurd (omega arith)
above_at x (t ∷ f) zero d h k = h.0
above_at x (t ∷ f) (suc j) d h k = above_at x f j d h.1 (omega arith)

descends : (f : Terms) (i j : ℕ) (d : Term) → IsDescending f → i < j → j < length f → deglex (get_or f i d).mono (get_or f j d).mono ≡ Greater
descends [] i j d h k l = absurd (omega arith)
descends (t ∷ f) i zero d h k l = absurd (omega arith)
descends (t ∷ f) zero (suc j) d h k l = above_at t.mono f j d h.1 (omega arith)
descends (t ∷ f) (suc i) (suc j) d h k l = descends f i j d h.2 (omega arith) (omega arith)

-- what lies below a monomial that isn't below e
rises_by : (e x y : Exponents) (o : Ordering) → deglex e x ≡ o → deglex x y ≡ Greater → ordering_index o ≤ ordering_index (deglex e y)
rises_by e x y Less is g = omega arith
rises_by e x y Equal is g =
    let below : deglex e y ≡ Greater = subst (λ z. deglex z y ≡ Greater) (sym (equal_same e x is)) g in
    rw below (omega arith)
rises_by e x y Greater is g = let below : deglex e y ≡ Greater = greater_trans e x y is g in rw below (omega arith)

rises : (f : Terms) (e : Exponents) → IsDescending f → IsNonDecreasingBy (λ (t : Term). ordering_index (deglex e t.mono)) f
rises f e descending i j d up within = elim (cases_lt i j) [
  | inl lt ↦ rises_by e (get_or f i d).mono (get_or f j d).mono (deglex e (get_or f i d).mono) refl (descends f i j d descending lt within)
  | inr ge ↦
      let eq : i ≡ j = omega arith in
      subst (λ k. ordering_index (deglex e (get_or f i d).mono) ≤ ordering_index (deglex e (get_or f k d).mono)) eq (omega arith)
]

-- no monomial is e
no_coefficient : (f : Terms) (e : Exponents) → HasVariables (length e) f → ((k : ℕ) (d : Term) → k < length f → deglex e (get_or f k d).mono ≢ Equal) →
    coefficient f e ≡ zero_ℚ
no_coefficient [] e h other = refl
no_coefficient (t ∷ f) e h other =
    let differs : e ≡ t.mono → ⊥ = λ is. other 0 t (omega arith) (subst (λ z. deglex e z ≡ Equal) is (alike_itself e)) in
    ap (λ b. (if b then t.coef else zero_ℚ) +ℚ coefficient f e) (apart e t.mono (sym h.0) differs)
    ∙ zero-+ℚ (coefficient f e)
    ∙ no_coefficient f e h.1 (λ k d within. other (suc k) d (omega arith))

nonzero_in : (f : Terms) (i : ℕ) (d : Term) → IsDescending f → i < length f → (get_or f i d).coef ≢ zero_ℚ
nonzero_in [] i d h k = absurd (omega arith)
nonzero_in (t ∷ f) zero d h k = h.0
nonzero_in (t ∷ f) (suc i) d h k = nonzero_in f i d h.2 (omega arith)

pub same_at : (f : Terms) (i : ℕ) (s t : Term) → i < length f → get_or f i s ≡ get_or f i t
same_at [] i s t h = absurd (omega arith)
same_at (u ∷ f) zero s t h = refl
same_at (u ∷ f) (suc i) s t h = same_at f i s t (omega arith)

-- the number of variables of a term
pub variables_at_place : (n : ℕ) (f : Terms) (i : ℕ) (d : Term) → HasVariables n f → i < length f → length (get_or f i d).mono ≡ n
variables_at_place n [] i d h k = absurd (omega arith)
variables_at_place n (t ∷ f) zero d h k = h.0
variables_at_place n (t ∷ f) (suc i) d h k = variables_at_place n f i d h.1 (omega arith)

-- the term at a place where the monomial is e
is_place : (f : Terms) (e : Exponents) (i : ℕ) (d : Term) → i < length f → IsDescending f → HasVariables (length e) f → deglex e (get_or f i d).mono ≡ Equal →
    IsPlaceOf f e i
is_place f e i d within descending variables is =
    let t = get_or f i d in
    let at : e ≡ t.mono = equal_same e t.mono is in
    let here : coefficient f t.mono ≡ t.coef = coefficient-contains (length e) f t variables descending (i, within, same_at f i t d within)
    (variables_at_place (length e) f i d variables within) in
    record {
      term = t;
      stands = slice_get-get_or f i d within;
      monomial = sym at;
      nonzero = λ none. nonzero_in f i d descending within (sym here ∙ ap (coefficient f) (sym at) ∙ none);
    }

never : (o : Ordering) → ((o ≡ Less) × (o ≡ Equal)) → ⊥
never o h = let a = h.0 in let b = h.1 in cc

never_over : (o : Ordering) → ((o ≡ Greater) × (o ≡ Equal)) → ⊥
never_over o h = let a = h.0 in let b = h.1 in cc

-- what a search finds
pub found_place : (f : Terms) (e : Exponents) (r : Result ℕ ℕ) → IsDescending f → HasVariables (length e) f → IsSearchInRange r (length f) →
    IsBinarySearchResult (λ (t : Term). deglex e t.mono) f r
    → MatchOption (result_ok r) (coefficient f e ≡ zero_ℚ) (IsPlaceOf f e)
found_place [] e (Ok i) descending variables within found = absurd (omega arith)
found_place (t ∷ f) e (Ok i) descending variables within found = is_place (t ∷ f) e i t within descending variables (found t)
found_place f e (Err i) descending variables within found =
    let parts = found (rises f e descending) in
    no_coefficient f e variables (λ k u below same. elim (cases_lt k i) [
      | inl lt ↦ never (deglex e (get_or f k u).mono) (parts.0 k u (omega arith) lt, same)
      | inr ge ↦ never_over (deglex e (get_or f k u).mono) (parts.1 k u ge below, same)
    ])

-- ---- the first term that remains

-- each of these terms vanishes in g
abbrev pub Vanish : Terms → Terms → Type 0
Vanish g [] = Unit {0}
Vanish g (t ∷ f) = (coefficient g t.mono ≡ zero_ℚ) × Vanish g f

vanish_push : (g f : Terms) (t : Term) → Vanish g f → coefficient g t.mono ≡ zero_ℚ → Vanish g (f ++ t ∷ [])
vanish_push g [] t h e = (e, tt)
vanish_push g (s ∷ f) t h e = (h.0, vanish_push g f t h.1 e)

vanish_at : (g f others : Terms) (k : ℕ) → Vanish g f → k < length f → IfSome (slice_get (f ++ others) k) (λ t. coefficient g t.mono ≡ zero_ℚ)
vanish_at g [] others k h below = absurd (omega arith)
vanish_at g (t ∷ f) others zero h below = h.0
vanish_at g (t ∷ f) others (suc k) h below = vanish_at g f others k h.1 (omega arith)

stands_behind : (f others : Terms) (t : Term) → slice_get (f ++ t ∷ others) (length f) ≡ Some t
stands_behind [] others t = refl
stands_behind (s ∷ f) others t = stands_behind f others t

-- the same coefficients in f
same_zero : (f g : Terms) (k : ℕ) → SamePolynomial g f → IfSome (slice_get f k) (λ t. coefficient g t.mono ≡ zero_ℚ) →
    IfSome (slice_get f k) (λ t. coefficient f t.mono ≡ zero_ℚ)
same_zero f g k same h = by (slice_get f k) h
  where
    by : (o : Option Term) → IfSome o (λ t. coefficient g t.mono ≡ zero_ℚ) → IfSome o (λ t. coefficient f t.mono ≡ zero_ℚ)
    by (Some t) e = sym (same t.mono) ∙ e
    by None e = tt

-- the first i terms, each of which vanishes in g
pub record Passed (n : ℕ) (us : List WrittenTerm) (g : Terms) (i : ℕ) : Type 0 where
  pub taken : Taken n us i
  pub vanish : Vanish g taken.terms

pub passed_none : (n : ℕ) (us : List WrittenTerm) (g : Terms) → Passed n us g 0
passed_none n us g = record { taken = taken_none n us; vanish = tt }

pub passed_on : (n : ℕ) (us : List WrittenTerm) (g : Terms) (i : ℕ) (d : WrittenTerm) (x : Exponents) → i < length us → exponents_of n (get_or us i d) ≡ Ok x →
    coefficient g x ≡ zero_ℚ → Passed n us g i → Passed n us g (i + 1)
passed_on n us g i d x h e none p = record {
  taken = taken_on n us i d x h e p.taken;
  vanish = vanish_push g p.taken.terms (record { coef = coefficient_of (get_or us i d); mono = x }) p.vanish none;
}

found_by : (g f F : Terms) (t : Term) (place : ℕ) (r : Result Terms ExponentOverflow) → onto f (before_all (Ok t) r) ≡ Ok F → SamePolynomial g F → Vanish g f →
    IsPlaceOf g t.mono place → IsFirstRemainingAt F g place
found_by g f F t place (Err o) e same vanish found = cc
found_by g f F t place (Ok others) e same vanish found =
    let whole : f ++ t ∷ others ≡ F = cc in
    record {
      term = found.term;
      stands = found.stands;
      first = record {
        at = length f;
        term = t;
        stands = subst (λ l. slice_get l (length f) ≡ Some t) whole (stands_behind f others t);
        monomial = sym found.monomial;
        remains = λ zero. found.nonzero (same t.mono ∙ ap (coefficient F) (sym found.monomial) ∙ zero);
        before = λ k below. same_zero F g k same (subst (λ l. IfSome (slice_get l k) (λ s. coefficient g s.mono ≡ zero_ℚ)) whole
            (vanish_at g f (t ∷ others) k vanish below));
      };
    }

pub passed_found : (n : ℕ) (us : List WrittenTerm) (g : Terms) (i : ℕ) (d : WrittenTerm) (x : Exponents) (place : ℕ) → i < length us →
    exponents_of n (get_or us i d) ≡ Ok x → IsSumOf n us g → IsPlaceOf g x place → Passed n us g i → FindsFirst n us g (Some place)
passed_found n us g i d x place h e sum found p = λ F all.
    let next : Term = record { coef = coefficient_of (get_or us i d); mono = x } in
    let rest = terms_written n (drop (i + 1) us) in
    let start : terms_written n (drop i us) ≡ before_all (Ok next) rest = terms_at n us i d h ∙ ap (λ r. before_all r rest) (said_term n (get_or us i d) x e) in
    let whole : onto p.taken.terms (before_all (Ok next) rest) ≡ Ok F = ap (onto p.taken.terms) (sym start) ∙ p.taken.all ∙ all in
    found_by g p.taken.terms F next place rest whole (sum F all) p.vanish found

pub passed_end : (n : ℕ) (us : List WrittenTerm) (g : Terms) (i : ℕ) → length us ≤ i → IsSumOf n us g → Passed n us g i → FindsFirst n us g None
passed_end n us g i h sum p = λ F all.
    let f = p.taken.terms in
    let got : terms_written n us ≡ Ok f = sym p.taken.all ∙ terms_end n f us i h in
    let whole : f ≡ F = cc in
    λ k. same_zero F g k (sum F all) (subst (λ l. IfSome (slice_get l k) (λ s. coefficient g s.mono ≡ zero_ℚ)) whole (none_left g f k p.vanish))
  where
    none_left : (g f : Terms) (k : ℕ) → Vanish g f → IfSome (slice_get f k) (λ t. coefficient g t.mono ≡ zero_ℚ)
    none_left g [] k h = subst (λ (o : Option Term). IfSome o (λ t. coefficient g t.mono ≡ zero_ℚ)) (sym (slice_get_past {X = Term} [] k (omega arith))) tt
    none_left g (t ∷ f) zero h = h.0
    none_left g (t ∷ f) (suc k) h = none_left g f k h.1

-- ---- places

pub within_by : (f : Terms) (i : ℕ) (t : Term) → slice_get f i ≡ Some t → i < length f
within_by [] i t e = cc
within_by (s ∷ f) zero t e = omega arith
within_by (s ∷ f) (suc i) t e = let h = within_by f i t e in omega arith

-- terms that are written have a ring's variables
raised_length : (x y : Exponents) (f : Factor) → raised_by x f ≡ Ok y → length y ≡ length x
raised_length x y f e = by (nat_lt (slice_index x f.variable + f.exponent) (2 ^ 31)) (record { left = slice_index x f.variable; right = f.exponent }) e
  where
    by : (b : Bool) (o : ExponentOverflow) → (if b then Ok (slice_set x f.variable (slice_index x f.variable + f.exponent)) else Err o) ≡ Ok y →
        length y ≡ length x
    by true o h = let is : slice_set x f.variable (slice_index x f.variable + f.exponent) ≡ y =
        cc in ap length (sym is) ∙ length-set x f.variable (slice_index x f.variable + f.exponent)
    by false o h = cc

times_length : (fs : List Factor) (x y : Exponents) → times_factors x fs ≡ Ok y → length y ≡ length x
times_length [] x y e = let is : x ≡ y = cc in ap length (sym is)
times_length (f ∷ fs) x y e = by (λ z h. times_length fs z y h) (raised_by x f) refl e
  where
    by : ((z : Exponents) → times_factors z fs ≡ Ok y → length y ≡ length z) → (r : Result Exponents ExponentOverflow) → raised_by x f ≡ r →
        then_factors r (λ z. times_factors z fs) ≡ Ok y → length y ≡ length x
    by later (Ok z) is h = later z h ∙ raised_length x z f is
    by later (Err o) is h = cc

pub exponents_length : (n : ℕ) (u : WrittenTerm) (x : Exponents) → exponents_of n u ≡ Ok x → length x ≡ n
exponents_length n u x e = times_length u.factors (replicate n 0) x e ∙ length-replicate n 0

term_length : (n : ℕ) (u : WrittenTerm) (t : Term) → term_written n u ≡ Ok t → length t.mono ≡ n
term_length n u t e = by (exponents_of n u) refl e
  where
    by : (r : Result Exponents ExponentOverflow) → exponents_of n u ≡ r → with_coefficient (coefficient_of u) r ≡ Ok t → length t.mono ≡ n
    by (Ok x) is h =
        let same : record { coef = coefficient_of u; mono = x } ≡ t = cc in
        ap (λ (s : Term). length s.mono) (sym same) ∙ exponents_length n u x is
    by (Err o) is h = cc

pub terms_variables : (n : ℕ) (us : List WrittenTerm) (ts : Terms) → terms_written n us ≡ Ok ts → HasVariables n ts
terms_variables n [] ts e = let none : [] ≡ ts = cc in subst (HasVariables n) none tt
terms_variables n (u ∷ us) ts e = by (term_written n u) (terms_written n us) refl refl (terms_variables n us) e
  where
    by : (r : Result Term ExponentOverflow) (rs : Result Terms ExponentOverflow) → term_written n u ≡ r → terms_written n us ≡ rs →
        ((xs : Terms) → terms_written n us ≡ Ok xs → HasVariables n xs) → before_all r rs ≡ Ok ts → HasVariables n ts
    by (Ok t) (Ok xs) is are later h = let same : t ∷ xs ≡ ts = cc in subst (HasVariables n) same (term_length n u t is, later xs are)
    by (Ok t) (Err o) is are later h = cc
    by (Err o) rs is are later h = cc

-- ---- polynomials, one after another

abbrev behind_all : Result (List Terms) ExponentOverflow → Result Terms ExponentOverflow → Result (List Terms) ExponentOverflow
behind_all (Ok fs) (Ok f) = Ok (fs ++ f ∷ [])
behind_all (Ok fs) (Err o) = Err o
behind_all (Err o) r = Err o

-- the last of polynomials
sums_push : (n : ℕ) (qs : List (List WrittenTerm)) (us : List WrittenTerm) → sums_of n (qs ++ us ∷ []) ≡ behind_all (sums_of n qs) (terms_written n us)
sums_push n [] us = by (terms_written n us)
  where
    by : (r : Result Terms ExponentOverflow) → before_all r (Ok []) ≡ behind_all (Ok []) r
    by (Ok f) = refl
    by (Err o) = refl
sums_push n (q ∷ qs) us = ap (before_all (terms_written n q)) (sums_push n qs us) ∙ by (terms_written n q) (sums_of n qs) (terms_written n us)
  where
    by : (a : Result Terms ExponentOverflow) (rs : Result (List Terms) ExponentOverflow) (r : Result Terms ExponentOverflow) →
        before_all a (behind_all rs r) ≡ behind_all (before_all a rs) r
    by (Ok t) (Ok fs) (Ok f) = refl
    by (Ok t) (Ok fs) (Err o) = refl
    by (Ok t) (Err x) r = refl
    by (Err x) rs r = refl

pub sums_push_ok : (n : ℕ) (qs : List (List WrittenTerm)) (us : List WrittenTerm) (fs : List Terms) (f : Terms) → sums_of n qs ≡ Ok fs →
    terms_written n us ≡ Ok f → sums_of n (qs ++ us ∷ []) ≡ Ok (fs ++ f ∷ [])
sums_push_ok n qs us fs f h k = sums_push n qs us ∙ ap (λ r. behind_all r (terms_written n us)) h ∙ ap (behind_all (Ok fs)) k

pub sums_push_refused : (n : ℕ) (qs : List (List WrittenTerm)) (us : List WrittenTerm) (fs : List Terms) (o : ExponentOverflow) → sums_of n qs ≡ Ok fs →
    terms_written n us ≡ Err o → sums_of n (qs ++ us ∷ []) ≡ Err o
sums_push_refused n qs us fs o h k = sums_push n qs us ∙ ap (λ r. behind_all r (terms_written n us)) h ∙ ap (behind_all (Ok fs)) k

pub sums_push_after : (n : ℕ) (qs : List (List WrittenTerm)) (us : List WrittenTerm) (o : ExponentOverflow) → sums_of n qs ≡ Err o →
    sums_of n (qs ++ us ∷ []) ≡ Err o
sums_push_after n qs us o h = sums_push n qs us ∙ ap (λ r. behind_all r (terms_written n us)) h

-- the sums of some polynomials and of others
abbrev both_all : Result (List Terms) ExponentOverflow → Result (List Terms) ExponentOverflow → Result (List Terms) ExponentOverflow
both_all (Ok fs) (Ok gs) = Ok (fs ++ gs)
both_all (Ok fs) (Err o) = Err o
both_all (Err o) r = Err o

sums_append : (n : ℕ) (qs ps : List (List WrittenTerm)) → sums_of n (qs ++ ps) ≡ both_all (sums_of n qs) (sums_of n ps)
sums_append n [] ps = by (sums_of n ps)
  where
    by : (r : Result (List Terms) ExponentOverflow) → r ≡ both_all (Ok []) r
    by (Ok fs) = refl
    by (Err o) = refl
sums_append n (q ∷ qs) ps = ap (before_all (terms_written n q)) (sums_append n qs ps) ∙ by (terms_written n q) (sums_of n qs) (sums_of n ps)
  where
    by : (a : Result Terms ExponentOverflow) (rs ts : Result (List Terms) ExponentOverflow) → before_all a (both_all rs ts) ≡ both_all (before_all a rs) ts
    by (Ok t) (Ok fs) (Ok gs) = refl
    by (Ok t) (Ok fs) (Err o) = refl
    by (Ok t) (Err x) ts = refl
    by (Err x) rs ts = refl

pub sums_append_ok : (n : ℕ) (qs ps : List (List WrittenTerm)) (fs gs : List Terms) → sums_of n qs ≡ Ok fs → sums_of n ps ≡ Ok gs →
    sums_of n (qs ++ ps) ≡ Ok (fs ++ gs)
sums_append_ok n qs ps fs gs h k = sums_append n qs ps ∙ ap (λ r. both_all r (sums_of n ps)) h ∙ ap (both_all (Ok fs)) k

pub sums_append_refused : (n : ℕ) (qs ps : List (List WrittenTerm)) (fs : List Terms) (o : ExponentOverflow) → sums_of n qs ≡ Ok fs → sums_of n ps ≡ Err o →
    sums_of n (qs ++ ps) ≡ Err o
sums_append_refused n qs ps fs o h k = sums_append n qs ps ∙ ap (λ r. both_all r (sums_of n ps)) h ∙ ap (both_all (Ok fs)) k

pub sums_append_after : (n : ℕ) (qs ps : List (List WrittenTerm)) (o : ExponentOverflow) → sums_of n qs ≡ Err o → sums_of n (qs ++ ps) ≡ Err o
sums_append_after n qs ps o h = sums_append n qs ps ∙ ap (λ r. both_all r (sums_of n ps)) h

pub sums_variables : (n : ℕ) (qs : List (List WrittenTerm)) (fs : List Terms) → sums_of n qs ≡ Ok fs → SumsHaveVariables n fs
sums_variables n [] fs e = let none : [] ≡ fs = cc in subst (SumsHaveVariables n) none tt
sums_variables n (q ∷ qs) fs e = by (terms_written n q) (sums_of n qs) refl refl (sums_variables n qs) e
  where
    by : (r : Result Terms ExponentOverflow) (rs : Result (List Terms) ExponentOverflow) → terms_written n q ≡ r → sums_of n qs ≡ rs →
        ((xs : List Terms) → sums_of n qs ≡ Ok xs → SumsHaveVariables n xs) → before_all r rs ≡ Ok fs → SumsHaveVariables n fs
    by (Ok t) (Ok xs) is are later h = let same : t ∷ xs ≡ fs = cc in subst (SumsHaveVariables n) same (terms_variables n q t is, later xs are)
    by (Ok t) (Err o) is are later h = cc
    by (Err o) rs is are later h = cc
