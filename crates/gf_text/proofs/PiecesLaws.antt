-- A polynomial is summed piece by piece: what is known of the sum of some terms and of more terms behind them.
-- To cite: sum_begun, sum_behind, joined_none, joined_some, sum_is, marked_first, remains, adds_none, adds_some. The rest are steps.
use Rattle.std.proofs.Common.{◌≡◌, ◌⊎◌, ℕ, ◌*◌, ◌/◌, ◌<◌, ◌≤◌, ◌^◌, ℤ, pos, ◌+ℤ◌, ◌*ℤ◌, Bool, true, false, cond, if◌then◌else◌, inl, inr, arith}
use Rattle.std.proofs.Common.{List, [], ◌∷◌, ◌++◌, length, get_or, Result, Ok, Err, Option, Some, None, IfSome, slice_get, refl, sym, ap, subst}
use Rattle.std.proofs.Common.{◌∙◌}
use Rattle.std.proofs.lemmas.Int.{ints}
use Rattle.std.proofs.Math.Nat.{one-dvd}
use Rattle.std.specs.Global.{Global}
use Rattle.std.specs.Ordering.{is_eq}
use Rattle.std.specs.Prelude.{Vec}
use Rattle.std.specs.declared.cmp.Ordering.{Ordering}
use Rattle.std.specs.declared.cmp.Ordering.TheVariants.{Less, Equal, Greater}
use Rattle.gf_int_theory.specs.Gcd.{gcd, gcd-same}
use Rattle.gf_int_theory.specs.Range.{InRange}
use Rattle.gf_frac.specs.Fraction.{Fraction, over, ◌+ℚ◌, zero_ℚ}
use Rattle.gf_frac.specs.Fits.{FitsSum, FitsAdd}
use Rattle.gf_frac.proofs.FractionLaws.{num-zero, +ℚ_assoc, +ℚ-zero, zero-+ℚ}
use Rattle.gf_exponents_theory.specs.Exponents.{Exponents, same}
use Rattle.gf_exponents_theory.specs.Orders.{deglex}
use Rattle.gf_exponents_theory.proofs.ExponentsLaws.{same-refl}
use Rattle.gf_poly.specs.declared.Term.{Term}
use Rattle.gf_poly.specs.declared.monomial.ExponentOverflow.{ExponentOverflow}
use Rattle.gf_poly.specs.Polynomial.{Terms, SamePolynomial, IsDescending, HasVariables, KeepsVariables, coefficient}
use Rattle.gf_poly.specs.Collecting.{like, sum_of_coefficients, SumsFit, SumsFitFrom, LikeSumsFit}
use Rattle.gf_poly.specs.Marking.{head_of, MarkedPolynomial}
use Rattle.gf_poly.proofs.CoefficientLaws.{apart}
use Rattle.gf_poly.proofs.CollectLaws.{alike_itself, like-short}
use Rattle.gf_poly.proofs.DescendingLaws.{equal_same}
use Rattle.gf_poly.proofs.PolynomialLaws.{coefficient-++}
use Rattle.gf_text.specs.declared.combine.Sums.{Sums}
use Rattle.gf_text.specs.declared.combine.Sums.TheVariants as came
use Rattle.gf_text.specs.declared.pieces.Front.{Front}
use Rattle.gf_text.specs.declared.tree.WrittenTerm.{WrittenTerm}
use Rattle.gf_text.specs.declared.written.Written.{Written}
use Rattle.gf_text.specs.declared.written.Written.TheVariants as written
use Rattle.gf_text.specs.Combining.{before_all, term_written, terms_written, IsPlaceOf, IsSumMarked}
use Rattle.gf_text.specs.Pieces.{IsSumFrom, IsFrontSum, IsFront, AddsBehind, fronted, waiting}
use Rattle.gf_text.specs.Sets.{IsSummed, IsWhatRemains, HasSums, Adds}
use Rattle.gf_text.specs.WrittenText.{AreInRange}
use Rattle.gf_text.proofs.CombiningLaws.{terms_variables}
use Rattle.gf_text.proofs.SetsLaws.{marked_sum, adds_fit}

-- ---- a coefficient is added to zero

den-zero : zero_ℚ.den ≡ 1
unfolding over gcd
den-zero = refl

gcd-one_left : (d : ℕ) → gcd 1 d ≡ 1
gcd-one_left d = sym (gcd-same 1 d 1 (one-dvd 1, one-dvd d, λ k h l. h))

none_times : (k : ℕ) → pos 0 *ℤ pos k ≡ pos 0
none_times k = omega (arith, ints)

one_times : (c : ℤ) → c *ℤ pos 1 ≡ c
one_times c = omega (arith, ints)

none_plus : (c : ℤ) → pos 0 +ℤ c ≡ c
none_plus c = omega (arith, ints)

fits_sum : (c : ℤ) (d : ℕ) → InRange c → d < 2 ^ 127 → FitsSum (pos 0) 1 c d
fits_sum c d h k =
    let left : pos 0 *ℤ pos (d / gcd 1 d) ≡ pos 0 = none_times (d / gcd 1 d) in
    let right : c *ℤ pos (1 / gcd 1 d) ≡ c = ap (λ g. c *ℤ pos (1 / g)) (gcd-one_left d) ∙ one_times c in
    record {
      left = subst InRange (sym left) (record { within = omega arith });
      right = subst InRange (sym right) h;
      sum = subst InRange (sym (ap (λ z. z +ℤ c *ℤ pos (1 / gcd 1 d)) left ∙ ap (λ z. pos 0 +ℤ z) right ∙ none_plus c)) h;
      denominator = subst (λ g. 1 * (d / g) < 2 ^ 127) (sym (gcd-one_left d)) (omega (arith, k));
    }

fits_zero : (c : Fraction) → InRange c.num → c.den < 2 ^ 127 → FitsAdd zero_ℚ c
fits_zero c h k =
    subst (λ z. FitsSum z zero_ℚ.den c.num c.den) (sym num-zero) (subst (λ z. FitsSum (pos 0) z c.num c.den) (sym den-zero) (fits_sum c.num c.den h k))

-- each coefficient can be added to zero
abbrev FitZero : Terms → Type 0
FitZero [] = Unit {0}
FitZero (t ∷ f) = FitsAdd zero_ℚ t.coef × FitZero f

fit_zero : (f : Terms) → AreInRange f → FitZero f
fit_zero [] h = tt
fit_zero (t ∷ f) h = (fits_zero t.coef h.0.numerator h.0.denominator, fit_zero f h.1)

-- ---- like terms

like_fit_zero : (x : Exponents) (f : Terms) → FitZero f → FitZero (like x f)
like_fit_zero x [] h = tt
like_fit_zero x (t ∷ f) h = by (is_eq (deglex x t.mono)) (like_fit_zero x f h.1)
  where
    by : (b : Bool) → FitZero (like x f) → FitZero (cond b (t ∷ like x f) (like x f))
    by true k = (h.0, k)
    by false k = k

like-++ : (x : Exponents) (f g : Terms) → like x (f ++ g) ≡ like x f ++ like x g
like-++ x [] g = refl
like-++ x (t ∷ f) g = by (is_eq (deglex x t.mono)) (like-++ x f g)
  where
    by : (b : Bool) → like x (f ++ g) ≡ like x f ++ like x g → cond b (t ∷ like x (f ++ g)) (like x (f ++ g)) ≡ cond b (t ∷ like x f) (like x f) ++ like x g
    by true h = ap (λ l. t ∷ l) h
    by false h = h

-- a monomial that occurs in terms in n variables has n variables
like_length : (n : ℕ) (x : Exponents) (f : Terms) → HasVariables n f → (like x f ≡ []) ⊎ (length x ≡ n)
like_length n x [] h = inl refl
like_length n x (t ∷ f) h = by (deglex x t.mono) refl (like_length n x f h.1)
  where
    by : (o : Ordering) → deglex x t.mono ≡ o → (like x f ≡ []) ⊎ (length x ≡ n) → (cond (is_eq o) (t ∷ like x f) (like x f) ≡ []) ⊎ (length x ≡ n)
    by Equal e k = inr (ap length (equal_same x t.mono e) ∙ h.0)
    by Greater e k = k
    by Less e k = k

-- the coefficient at a monomial is the sum of those of like terms
total_like : (n : ℕ) (f : Terms) (x : Exponents) → HasVariables n f → length x ≡ n → coefficient f x ≡ sum_of_coefficients (like x f)
total_like n [] x h l = refl
total_like n (t ∷ f) x h l = by (deglex x t.mono) refl (total_like n f x h.1 l)
  where
    other : (deglex x t.mono ≡ Equal → ⊥) → coefficient f x ≡ sum_of_coefficients (like x f) →
        (if same x t.mono then t.coef else zero_ℚ) +ℚ coefficient f x ≡ sum_of_coefficients (like x f)
    other differs later =
        ap (λ b. (if b then t.coef else zero_ℚ) +ℚ coefficient f x)
        (apart x t.mono (l ∙ sym h.0) (λ e. differs (subst (λ z. deglex x z ≡ Equal) e (alike_itself x))))
        ∙ zero-+ℚ (coefficient f x) ∙ later

    by : (o : Ordering) → deglex x t.mono ≡ o → coefficient f x ≡ sum_of_coefficients (like x f) →
        (if same x t.mono then t.coef else zero_ℚ) +ℚ coefficient f x ≡ sum_of_coefficients (cond (is_eq o) (t ∷ like x f) (like x f))
    by Equal e later =
        ap (λ b. (if b then t.coef else zero_ℚ) +ℚ coefficient f x) (subst (λ z. same x z ≡ true) (equal_same x t.mono e) (same-refl x))
        ∙ ap (λ z. t.coef +ℚ z) later
    by Greater e later = other (λ q. let r : Greater ≡ Equal = sym e ∙ q in cc) later
    by Less e later = other (λ q. let r : Less ≡ Equal = sym e ∙ q in cc) later

-- ---- sums from the left

-- sums from c on, and then from their total on
fits_behind : (c : Fraction) (a b : Terms) → SumsFitFrom c a → SumsFitFrom (c +ℚ sum_of_coefficients a) b → SumsFitFrom c (a ++ b)
fits_behind c [] b h k = subst (λ z. SumsFitFrom z b) (+ℚ-zero c) k
fits_behind c (t ∷ a) b h k =
    (h.0, fits_behind (c +ℚ t.coef) a b h.1 (subst (λ z. SumsFitFrom z b) (sym (+ℚ_assoc c t.coef (sum_of_coefficients a))) k))

from_zero : (b : Terms) → FitZero b → SumsFit b → SumsFitFrom zero_ℚ b
from_zero [] z h = tt
from_zero (u ∷ b) z h = (z.0, subst (λ c. SumsFitFrom c b) (sym (zero-+ℚ u.coef)) h)

at_zero : (b : Terms) → SumsFitFrom zero_ℚ b → SumsFit b
at_zero [] h = tt
at_zero (u ∷ b) h = subst (λ c. SumsFitFrom c b) (zero-+ℚ u.coef) h.1

-- from the one term on that is kept, or from none
from_kept : (k b : Terms) → length k ≤ 1 → FitZero b → SumsFit (k ++ b) → SumsFitFrom (sum_of_coefficients k) b
from_kept [] b l z h = from_zero b z h
from_kept (t ∷ []) b l z h = subst (λ c. SumsFitFrom c b) (sym (+ℚ-zero t.coef)) h
from_kept (t ∷ s ∷ k) b l z h = absurd (omega arith)

-- like terms a, of whose sum k is kept, and more of them
fits_joined : (a k b : Terms) → SumsFit a → length k ≤ 1 → sum_of_coefficients k ≡ sum_of_coefficients a → FitZero b → SumsFit (k ++ b) → SumsFit (a ++ b)
fits_joined [] k b f l e z h = at_zero b (subst (λ c. SumsFitFrom c b) e (from_kept k b l z h))
fits_joined (t ∷ a) k b f l e z h = fits_behind t.coef a b f (subst (λ c. SumsFitFrom c b) e (from_kept k b l z h))

-- ---- variables

variables-++ : (n : ℕ) (f g : Terms) → HasVariables n f → HasVariables n g → HasVariables n (f ++ g)
variables-++ n [] g h k = k
variables-++ n (t ∷ f) g h k = (h.0, variables-++ n f g h.1 k)

variables_front : (n : ℕ) (f g : Terms) → HasVariables n (f ++ g) → HasVariables n f
variables_front n [] g h = tt
variables_front n (t ∷ f) g h = (h.0, variables_front n f g h.1)

variables_back : (n : ℕ) (f g : Terms) → HasVariables n (f ++ g) → HasVariables n g
variables_back n [] g h = h
variables_back n (t ∷ f) g h = variables_back n f g h.1

-- ---- the sum of the first terms

-- f has the sum g, and sums with h stay in range
like_sums_joined : (n : ℕ) (f g h : Terms) → HasVariables n f → HasVariables n g → HasVariables n h → LikeSumsFit f → SamePolynomial g f → IsDescending g →
    AreInRange h → LikeSumsFit (g ++ h) → LikeSumsFit (f ++ h)
like_sums_joined n f g h vf vg vh fit alike descending range fits = record {
  at = λ x. elim (like_length n x (f ++ h) (variables-++ n f h vf vh)) [
    | inl none ↦ subst SumsFit (sym none) tt
    | inr l ↦ subst SumsFit (sym (like-++ x f h)) (
        fits_joined (like x f) (like x g) (like x h) (fit.at x) (like-short x g descending)
        (sym (total_like n g x vg l) ∙ alike x ∙ total_like n f x vf l)
        (like_fit_zero x h (fit_zero h range)) (subst SumsFit (like-++ x g h) (fits.at x)))
  ];
}

-- f begins with t
pub sum_begun : (n : ℕ) (f : Terms) (t : Term) (g : Front) → 0 < length f → t ≡ get_or f 0 t → g.first ≡ t.mono → SamePolynomial g.poly f →
    IsDescending g.poly → KeepsVariables f g.poly → LikeSumsFit f → HasVariables n f → IsSumFrom n f g
sum_begun n [] t g some is first alike descending keeps fits variables = absurd (omega arith)
sum_begun n (s ∷ f) t g some is first alike descending keeps fits variables = record {
  head = s;
  others = f;
  whole = refl;
  monomial = ap (λ (u : Term). u.mono) (sym is) ∙ sym first;
  fits = fits;
  same = alike;
  descending = descending;
  keeps = keeps;
  variables = variables;
}

-- more terms h are added
pub sum_behind : (n : ℕ) (f h all : Terms) (old new : Front) → AreInRange h → all ≡ old.poly ++ h → new.first ≡ old.first → SamePolynomial new.poly all →
    IsDescending new.poly → KeepsVariables all new.poly → LikeSumsFit all → HasVariables n h → IsSumFrom n f old → IsSumFrom n (f ++ h) new
sum_behind n f h all old new range is first alike descending keeps fits vh s = record {
  head = s.head;
  others = s.others ++ h;
  whole = ap (λ l. l ++ h) s.whole;
  monomial = s.monomial ∙ sym first;
  fits = like_sums_joined n f old.poly h s.variables (s.keeps.at n s.variables) vh s.fits s.same s.descending range (subst LikeSumsFit is fits);
  same = λ e. alike e ∙ ap (λ l. coefficient l e) is ∙ coefficient-++ old.poly h e ∙ ap (λ z. z +ℚ coefficient h e) (s.same e) ∙ sym (coefficient-++ f h e);
  descending = descending;
  keeps = record {
    at = λ m v. keeps.at m (subst (HasVariables m) (sym is) (variables-++ m old.poly h (s.keeps.at m (variables_front m f h v)) (variables_back m f h v)));
  };
  variables = variables-++ n f h s.variables vh;
}

-- ---- the same of terms as they are written

terms_append : (n : ℕ) (us vs : List WrittenTerm) (f h : Terms) → terms_written n us ≡ Ok f → terms_written n vs ≡ Ok h →
    terms_written n (us ++ vs) ≡ Ok (f ++ h)
terms_append n [] vs f h e k = let none : [] ≡ f = cc in k ∙ ap (λ l. Ok (l ++ h)) none
terms_append n (u ∷ us) vs f h e k = by (term_written n u) (terms_written n us) refl refl (λ xs are. terms_append n us vs xs h are k) e
  where
    by : (r : Result Term ExponentOverflow) (rs : Result Terms ExponentOverflow) → term_written n u ≡ r → terms_written n us ≡ rs →
        ((xs : Terms) → terms_written n us ≡ Ok xs → terms_written n (us ++ vs) ≡ Ok (xs ++ h)) → before_all r rs ≡ Ok f →
        before_all (term_written n u) (terms_written n (us ++ vs)) ≡ Ok (f ++ h)
    by (Ok t) (Ok xs) is are later all =
        let whole : t ∷ xs ≡ f = cc in
        ap (λ r. before_all r (terms_written n (us ++ vs))) is ∙ ap (before_all (Ok t)) (later xs are) ∙ ap (λ l. Ok (l ++ h)) whole
    by (Ok t) (Err o) is are later all = cc
    by (Err o) rs is are later all = cc

front_begun : (n : ℕ) (us vs : List WrittenTerm) (h : Terms) (g : Front) → us ≡ [] → terms_written n vs ≡ Ok h →
    ((m : ℕ) → HasVariables m h → IsSumFrom m h g) → IsFrontSum n (us ++ vs) g
front_begun n us vs h g none exponents sum = subst (λ l. IsFrontSum n (l ++ vs) g) (sym none) (record {
  terms = h;
  exponents = exponents;
  sum = sum n (terms_variables n vs h exponents);
})

front_behind : (n : ℕ) (us vs : List WrittenTerm) (h : Terms) (old new : Front) → terms_written n vs ≡ Ok h →
    ((m : ℕ) (f : Terms) → HasVariables m h → IsSumFrom m f old → IsSumFrom m (f ++ h) new) → IsFrontSum n us old → IsFrontSum n (us ++ vs) new
front_behind n us vs h old new exponents sum s = record {
  terms = s.terms ++ h;
  exponents = terms_append n us vs s.terms h s.exponents exponents;
  sum = sum n s.terms (terms_variables n vs h exponents) s.sum;
}

-- what comes of the first terms with these behind them, where none are summed yet
pub joined_none : (n : ℕ) (front : Option Front) (vs : List WrittenTerm) (h : Terms) (o : Option Front) → front ≡ None → terms_written n vs ≡ Ok h →
    IfSome o (λ g. (m : ℕ) → HasVariables m h → IsSumFrom m h g) → IfSome o (λ g. (us : List WrittenTerm) → IsFront n us front → IsFrontSum n (us ++ vs) g)
joined_none n front vs h (Some g) is exponents sum = λ us first. front_begun n us vs h g (subst (IsFront n us) is first) exponents sum
joined_none n front vs h None is exponents sum = tt

-- the same where some are
pub joined_some : (n : ℕ) (front : Option Front) (old : Front) (vs : List WrittenTerm) (h : Terms) (o : Option Front) → front ≡ Some old →
    terms_written n vs ≡ Ok h → IfSome o (λ g. (m : ℕ) (f : Terms) → HasVariables m h → IsSumFrom m f old → IsSumFrom m (f ++ h) g) →
    IfSome o (λ g. (us : List WrittenTerm) → IsFront n us front → IsFrontSum n (us ++ vs) g)
joined_some n front old vs h (Some g) is exponents sum = λ us first. front_behind n us vs h old g exponents sum (subst (IsFront n us) is first)
joined_some n front old vs h None is exponents sum = tt

-- ---- the mark

first_length : (n : ℕ) (f : Terms) (g : Front) → IsSumFrom n f g → length g.first ≡ n
first_length n f g s =
    let variables : HasVariables n (s.head ∷ s.others) = subst (HasVariables n) s.whole s.variables in ap length (sym s.monomial) ∙ variables.0

-- the sum has as many variables as the first monomial
pub sum_is : (n : ℕ) (f : Terms) (g : Front) → IsSumFrom n f g → HasVariables (length g.first) g.poly
sum_is n f g s = subst (λ k. HasVariables k g.poly) (sym (first_length n f g s)) (s.keeps.at n s.variables)

pub marked_first : (n : ℕ) (f : Terms) (g : Front) (place : ℕ) → IsPlaceOf g.poly g.first place → IsSumFrom n f g →
    IsSumMarked f (record { poly = g.poly; head = head_of g.poly place })
marked_first n f g place p s = marked_sum f g.poly place s.same s.descending s.keeps (record {
  term = p.term;
  stands = p.stands;
  first = record {
    at = 0;
    term = s.head;
    stands = subst (λ l. slice_get l 0 ≡ Some s.head) (sym s.whole) refl;
    monomial = s.monomial ∙ sym p.monomial;
    remains = λ none. p.nonzero (s.same g.first ∙ ap (coefficient f) (sym p.monomial) ∙ none);
    before = λ k below. absurd (omega (arith, below));
  };
})

pub remains : (n : ℕ) (vs : List WrittenTerm) (front whole : Front) (o : Option MarkedPolynomial) →
    ((us : List WrittenTerm) → IsFrontSum n us front → IsFrontSum n (us ++ vs) whole) →
    IfSome o (λ m. (k : ℕ) (f : Terms) → IsSumFrom k f whole → IsSumMarked f m) →
    IfSome o (λ m. (us : List WrittenTerm) → IsFrontSum n us front → IsSummed n (us ++ vs) (written.Nonzero m))
remains n vs front whole (Some m) joins marked = λ us first.
    let w = joins us first in
    record { terms = w.terms; exponents = w.exponents; fits = w.sum.fits; written = marked n w.terms w.sum }
remains n vs front whole None joins marked = tt

-- ---- the polynomial is read

pub adds_none : (n : ℕ) (ps : List (List WrittenTerm)) (q slice : List WrittenTerm) (old new : Sums) (front after : Option Front) → ps ≡ q ∷ [] →
    slice ≡ q → front ≡ None → after ≡ None → Adds n (slice ∷ []) old new → AddsBehind n ps front old after new
adds_none n ps q slice old new front after set is none empty adds = λ qs us come first.
    let nothing : us ≡ [] = subst (IsFront n us) none first in
    subst (λ l. HasSums n (qs ++ fronted us l) new × IsFront n (waiting us l) after) (sym set)
    (subst (λ l. HasSums n (qs ++ l ∷ []) new) (is ∙ sym (ap (λ l. l ++ q) nothing)) (adds qs come), subst (IsFront n []) (sym empty) refl)

pub adds_some : (n : ℕ) (ps : List (List WrittenTerm)) (q slice : List WrittenTerm) (old : Sums) (v : Vec Written Global) (new : List Written)
    (front after : Option Front) (first : Front) (w : Written) → ps ≡ q ∷ [] → slice ≡ q → old ≡ came.Fit v → front ≡ Some first → after ≡ None →
    ((us : List WrittenTerm) → IsFrontSum n us first → IsSummed n (us ++ slice) w) → new ≡ v.items ++ w ∷ [] → (qs : List (List WrittenTerm))
    (us : List WrittenTerm) → HasSums n qs old → IsFront n us front → IsWhatRemains n (qs ++ fronted us ps) new × IsFront n (waiting us ps) after
adds_some n ps q slice old v new front after first w set is fit some empty summed push qs us come known =
    let here : IsFrontSum n us first = subst (IsFront n us) some known in
    let before : IsWhatRemains n qs v.items = subst (HasSums n qs) fit come in
    let next = adds_fit n (us ++ slice) v.items new w (summed us here) push qs before in
    subst (λ l. IsWhatRemains n (qs ++ fronted us l) new × IsFront n (waiting us l) after) (sym set)
    (subst (λ l. IsWhatRemains n (qs ++ (us ++ l) ∷ []) new) is next, subst (IsFront n []) (sym empty) refl)
