-- Sums of like terms, in a list in order.
-- To cite: short_fits, like-short, descending_fits, Collecting-start, run_at, next_at, ended, sum_at_end, fits_at_end, sum_overflow_at, cause_along,
-- fits_along.
use Rattle.std.specs.Prelude.{◌≡◌, ℕ, ◌+◌, ◌<◌, ◌≤◌, ◌==◌, Bool, true, false, cond, if◌then◌else◌, [], ◌∷◌, ◌++◌, length}
use Rattle.std.specs.Ordering.{is_lt, is_eq, ordering_reverse}
use Rattle.std.specs.declared.cmp.Ordering.{Ordering}
use Rattle.std.specs.declared.cmp.Ordering.TheVariants.{Greater, Less, Equal}
use Rattle.std.proofs.Common.{arith, refl, sym, ap, subst, ◌∙◌, inl, inr, drop, get_or, append_assoc, append-nil, length-append}
use Rattle.std.proofs.lemmas.Bool.Decides.{nat_tests}
use Rattle.std.proofs.lemmas.List.{drop_all}
use Rattle.gf_frac.specs.Fraction.{Fraction, ◌+ℚ◌, zero_ℚ}
use Rattle.gf_frac.specs.Fits.{FitsAdd}
use Rattle.gf_frac.specs.declared.refusal.Overflow.{Overflow}
use Rattle.gf_frac.specs.declared.refusal.Op.TheVariants.{Add}
use Rattle.gf_frac.proofs.FractionLaws.{+ℚ_assoc, +ℚ-zero, zero-+ℚ}
use Rattle.gf_exponents_theory.specs.Exponents.{Exponents, same}
use Rattle.gf_exponents_theory.specs.Orders.{deglex}
use Rattle.gf_poly.specs.declared.Term.{Term}
use Rattle.gf_poly.specs.declared.error.PolyError.{PolyError}
use Rattle.gf_poly.specs.declared.error.PolyError.TheVariants as errors
use Rattle.gf_poly.specs.Polynomial.{Terms, coefficient, SamePolynomial, IsAbove, IsDescending, HasVariables, KeepsVariables}
use Rattle.gf_poly.specs.Sums.{PushesNonzero}
use Rattle.gf_poly.specs.Collecting.{like, sum_of_coefficients, SumsFit, SumsFitFrom, LikeSumsFit, IsLikeSumOverflow, IsLikeSumCause, IsNotBelow, IsOrdered}
use Rattle.gf_poly.specs.Collecting.{HasLikeTerms}
use Rattle.gf_poly.proofs.PolynomialLaws.{coefficient-++}
use Rattle.gf_poly.proofs.DescendingLaws.{deglex-total, greater_trans, less_greater, never_greater, equal_same, AllAbove, IsDescending-push, HasVariables-push}
use Rattle.gf_poly.proofs.CoefficientLaws.{head_at}

-- ---- like terms
like-yes : (x : Exponents) (t : Term) (f : Terms) → deglex x t.mono ≡ Equal → like x (t ∷ f) ≡ t ∷ like x f
like-yes x t f h = ap (λ o. cond (is_eq o) (t ∷ like x f) (like x f)) h

like-no : (x : Exponents) (t : Term) (f : Terms) → deglex x t.mono ≡ Greater → like x (t ∷ f) ≡ like x f
like-no x t f h = ap (λ o. cond (is_eq o) (t ∷ like x f) (like x f)) h

like-none : (x : Exponents) (f : Terms) → IsAbove x f → like x f ≡ []
like-none x [] a = refl
like-none x (t ∷ f) a = like-no x t f a.0 ∙ like-none x f a.1

-- ---- like terms of a descending list, of which there is one at most
-- sums of at most one coefficient stay in range
pub short_fits : (f : Terms) → length f ≤ 1 → SumsFit f
short_fits [] h = tt
short_fits (t ∷ []) h = tt
short_fits (t ∷ s ∷ f) h = absurd (omega arith)

pub like-short : (x : Exponents) (f : Terms) → IsDescending f → length (like x f) ≤ 1
like-short x [] descending = omega arith
like-short x (t ∷ f) descending = by (deglex x t.mono) refl (like-short x f descending.2)
  where
    by : (o : Ordering) → deglex x t.mono ≡ o → length (like x f) ≤ 1 → length (cond (is_eq o) (t ∷ like x f) (like x f)) ≤ 1
    by Less is later = later
    by Greater is later = later
    by Equal is later = let none = like-none x f (subst (λ y. IsAbove y f) (sym (equal_same x t.mono is)) descending.1) in omega (arith, ap length none)

pub descending_fits : (f : Terms) → IsDescending f → LikeSumsFit f
descending_fits f descending = record { at = λ x. short_fits (like x f) (like-short x f descending) }

-- ---- order
pub alike_itself : (x : Exponents) → deglex x x ≡ Equal
alike_itself x = at (deglex x x) refl
  where
    at : (o : Ordering) → deglex x x ≡ o → deglex x x ≡ Equal
    at Equal h = h
    at Greater h = absurd (never_greater x h)
    at Less h = absurd (never_greater x (less_greater x x h))

-- above a monomial that isn't below another
greater_not_below : (x y z : Exponents) → deglex x y ≡ Greater → is_lt (deglex y z) ≡ false → deglex x z ≡ Greater
greater_not_below x y z h k = at (deglex y z) refl
  where
    at : (o : Ordering) → deglex y z ≡ o → deglex x z ≡ Greater
    at Greater o = greater_trans x y z h o
    at Equal o = subst (λ w. deglex x w ≡ Greater) (equal_same y z o) h
    at Less o = absurd (let q : true ≡ false = sym (ap is_lt o) ∙ k in cc)

above_ordered : (x y : Exponents) (f : Terms) → deglex x y ≡ Greater → IsNotBelow y f → IsAbove x f
above_ordered x y [] h b = tt
above_ordered x y (t ∷ f) h b = (greater_not_below x y t.mono h b.0, above_ordered x y f h b.1)

-- ---- sums from the left
total-push : (f : Terms) (t : Term) → sum_of_coefficients (f ++ t ∷ []) ≡ sum_of_coefficients f +ℚ t.coef
total-push [] t = +ℚ-zero t.coef ∙ sym (zero-+ℚ t.coef)
total-push (s ∷ f) t = ap (λ z. s.coef +ℚ z) (total-push f t) ∙ sym (+ℚ_assoc s.coef (sum_of_coefficients f) t.coef)

SumsFitFrom-push : (c : Fraction) (f : Terms) (t : Term) → SumsFitFrom c f → FitsAdd (c +ℚ sum_of_coefficients f) t.coef → SumsFitFrom c (f ++ t ∷ [])
SumsFitFrom-push c [] t h w = (subst (λ z. FitsAdd z t.coef) (+ℚ-zero c) w, tt)
SumsFitFrom-push c (s ∷ f) t h w =
    (h.0, SumsFitFrom-push (c +ℚ s.coef) f t h.1 (subst (λ z. FitsAdd z t.coef) (sym (+ℚ_assoc c s.coef (sum_of_coefficients f))) w))

SumsFit-push : (f : Terms) (t : Term) → 0 < length f → SumsFit f → FitsAdd (sum_of_coefficients f) t.coef → SumsFit (f ++ t ∷ [])
SumsFit-push [] t l h w = absurd (omega arith)
SumsFit-push (s ∷ f) t l h w = SumsFitFrom-push s.coef f t h w

-- ---- what is kept
-- out has the sums of the monomials above x; the terms at x so far are run, with sum c; fs is left
pub record Collecting (f out : Terms) (x : Exponents) (c : Fraction) (fs : Terms) : Type 0 where
  pub sum : (e : Exponents) → coefficient out e +ℚ ((if same e x then c else zero_ℚ) +ℚ coefficient fs e) ≡ coefficient f e
  pub descending : IsDescending out
  pub above : AllAbove out (record { coef = c; mono = x } ∷ [])
  pub order : IsNotBelow x fs
  pub ordered : IsOrdered fs
  pub run : Terms
  pub some : 0 < length run
  pub like_here : like x f ≡ run ++ like x fs
  pub total_here : sum_of_coefficients run ≡ c
  pub fit_here : SumsFit run
  pub fit_above : (y : Exponents) → deglex y x ≡ Greater → SumsFit (like y f)
  pub like_below : (y : Exponents) → deglex x y ≡ Greater → like y f ≡ like y fs
  pub variables : (n : ℕ) → HasVariables n f → HasVariables n out × (length x ≡ n) × HasVariables n fs

pub Collecting-start : (f : Terms) (t : Term) (x : Exponents) → IsOrdered (t ∷ f) → x ≡ t.mono → Collecting (t ∷ f) [] x t.coef f
Collecting-start f t x o e = subst (λ y. Collecting (t ∷ f) [] y t.coef f) (sym e) (record {
  sum = λ y. zero-+ℚ _;
  descending = tt;
  above = tt;
  order = o.0;
  ordered = o.1;
  run = t ∷ [];
  some = omega arith;
  like_here = like-yes t.mono t f (alike_itself t.mono);
  total_here = +ℚ-zero t.coef;
  fit_here = tt;
  fit_above = λ y g. subst SumsFit (sym (like-none y (t ∷ f) (g, above_ordered y t.mono f g o.0))) tt;
  like_below = λ y g. below y g;
  variables = λ n h. (tt, h.0, h.1);
})
  where
    below : (y : Exponents) → deglex t.mono y ≡ Greater → like y (t ∷ f) ≡ like y f
    below y g = ap (λ o. cond (is_eq o) (t ∷ like y f) (like y f)) (deglex-total.antisymm y t.mono ∙ ap ordering_reverse g)

-- another term at x
pub chosen_sum : (b : Bool) (x y : Fraction) → (if b then x +ℚ y else zero_ℚ) ≡ (if b then x else zero_ℚ) +ℚ (if b then y else zero_ℚ)
chosen_sum true x y = refl
chosen_sum false x y = sym (+ℚ-zero zero_ℚ)

like-skip : (x y : Exponents) (t : Term) (f : Terms) → deglex x y ≡ Greater → x ≡ t.mono → like y (t ∷ f) ≡ like y f
like-skip x y t f g e = ap (λ o. cond (is_eq o) (t ∷ like y f) (like y f)) (ap (deglex y) (sym e) ∙ deglex-total.antisymm y x ∙ ap ordering_reverse g)

AllAbove-same : (out : Terms) (s t : Term) → s.mono ≡ t.mono → AllAbove out (s ∷ []) → AllAbove out (t ∷ [])
AllAbove-same [] s t e h = tt
AllAbove-same (w ∷ out) s t e h = ((ap (deglex w.mono) (sym e) ∙ h.0.0, tt), AllAbove-same out s t e h.1)

pub Collecting-run : (f out : Terms) (x : Exponents) (c d : Fraction) (t : Term) (fs : Terms) → deglex x t.mono ≡ Equal → FitsAdd c t.coef → d ≡ c +ℚ t.coef →
    Collecting f out x c (t ∷ fs) → Collecting f out x d fs
Collecting-run f out x c d t fs o w value m =
    let e : x ≡ t.mono = equal_same x t.mono o in
    record {
      sum = λ y. ap (λ z. coefficient out y +ℚ (z +ℚ coefficient fs y)) (ap (λ z. if same y x then z else zero_ℚ) value ∙ chosen_sum (same y x) c t.coef ∙
          ap (λ z. (if same y x then c else zero_ℚ) +ℚ (if same y z then t.coef else zero_ℚ)) e)
          ∙ ap (λ z. coefficient out y +ℚ z) (+ℚ_assoc _ _ _) ∙ m.sum y;
      descending = m.descending;
      above = AllAbove-same out (record { coef = c; mono = x }) (record { coef = d; mono = x }) refl m.above;
      order = m.order.1;
      ordered = m.ordered.1;
      run = m.run ++ t ∷ [];
      some = omega (arith, length-append m.run (t ∷ []), m.some);
      like_here = m.like_here ∙ ap (λ (z : Terms). m.run ++ z) (like-yes x t fs o) ∙ sym (append_assoc m.run (t ∷ []) (like x fs));
      total_here = total-push m.run t ∙ ap (λ z. z +ℚ t.coef) m.total_here ∙ sym value;
      fit_here = SumsFit-push m.run t m.some m.fit_here (subst (λ z. FitsAdd z t.coef) (sym m.total_here) w);
      fit_above = m.fit_above;
      like_below = λ y g. m.like_below y g ∙ like-skip x y t fs g e;
      variables = λ n h. let v = m.variables n h in (v.0, v.1, v.2.1);
    }

-- ---- the sum at x is pushed
pushed_coefficient : (out new : Terms) (c : Fraction) (x : Exponents) (e : Exponents) → PushesNonzero out new (record { coef = c; mono = x }) →
    coefficient new e ≡ coefficient out e +ℚ (if same e x then c else zero_ℚ)
pushed_coefficient out new c x e (inl p) =
    ap (λ z. coefficient z e) p.1 ∙ sym (ap (λ z. coefficient out e +ℚ z) (ap (λ z. if same e x then z else zero_ℚ) p.0 ∙ none (same e x)) ∙ +ℚ-zero _)
  where
    none : (b : Bool) → (if b then zero_ℚ else zero_ℚ) ≡ zero_ℚ
    none true = refl
    none false = refl
pushed_coefficient out new c x e (inr p) = ap (λ z. coefficient z e) p.1 ∙ coefficient-++ out (record { coef = c; mono = x } ∷ []) e ∙
    ap (λ z. coefficient out e +ℚ z) (+ℚ-zero _)

pushed_descending : (out new : Terms) (c : Fraction) (x : Exponents) → PushesNonzero out new (record { coef = c; mono = x }) → IsDescending out →
    AllAbove out (record { coef = c; mono = x } ∷ []) → IsDescending new
pushed_descending out new c x (inl p) d a = subst IsDescending (sym p.1) d
pushed_descending out new c x (inr p) d a = let t : Term = record { coef = c; mono = x } in
    subst IsDescending (sym p.1) (IsDescending-push out t t [] d a refl p.0)

above_lower : (out : Terms) (c d : Fraction) (x y : Exponents) → deglex x y ≡ Greater → AllAbove out (record { coef = c; mono = x } ∷ []) →
    AllAbove out (record { coef = d; mono = y } ∷ [])
above_lower [] c d x y g a = tt
above_lower (w ∷ out) c d x y g a = ((greater_trans w.mono x y a.0.0 g, tt), above_lower out c d x y g a.1)

above_push : (out : Terms) (s t : Term) → AllAbove out (t ∷ []) → deglex s.mono t.mono ≡ Greater → AllAbove (out ++ s ∷ []) (t ∷ [])
above_push [] s t a g = ((g, tt), tt)
above_push (w ∷ out) s t a g = (a.0, above_push out s t a.1 g)

pushed_above : (out new : Terms) (c d : Fraction) (x y : Exponents) → PushesNonzero out new (record { coef = c; mono = x }) → deglex x y ≡ Greater →
    AllAbove out (record { coef = c; mono = x } ∷ []) → AllAbove new (record { coef = d; mono = y } ∷ [])
pushed_above out new c d x y (inl p) g a = subst (λ z. AllAbove z (record { coef = d; mono = y } ∷ [])) (sym p.1) (above_lower out c d x y g a)
pushed_above out new c d x y (inr p) g a = subst (λ z. AllAbove z (record { coef = d; mono = y } ∷ [])) (sym p.1)
    (above_push out (record { coef = c; mono = x }) (record { coef = d; mono = y }) (above_lower out c d x y g a) g)

pushed_variables : (n : ℕ) (out new : Terms) (c : Fraction) (x : Exponents) → PushesNonzero out new (record { coef = c; mono = x }) → HasVariables n out →
    length x ≡ n → HasVariables n new
pushed_variables n out new c x (inl p) h l = subst (HasVariables n) (sym p.1) h
pushed_variables n out new c x (inr p) h l = subst (HasVariables n) (sym p.1) (HasVariables-push n out (record { coef = c; mono = x }) h l)

-- sums at monomials down to x fit, where fs is below x
fits_down_to : (f out : Terms) (x : Exponents) (c : Fraction) (fs : Terms) → IsAbove x fs → Collecting f out x c fs → (y : Exponents) → IsAbove y fs →
    SumsFit (like y f)
fits_down_to f out x c fs a m y b = at (deglex y x) refl
  where
    at : (o : Ordering) → deglex y x ≡ o → SumsFit (like y f)
    at Greater o = m.fit_above y o
    at Equal o = subst (λ z. SumsFit (like z f)) (sym (equal_same y x o))
        (subst SumsFit (sym (m.like_here ∙ ap (λ (z : Terms). m.run ++ z) (like-none x fs a) ∙ append-nil m.run)) m.fit_here)
    at Less o = subst SumsFit (sym (m.like_below y (less_greater y x o) ∙ like-none y fs b)) tt

pub Collecting-next : (f out new : Terms) (x : Exponents) (c : Fraction) (t : Term) (fs : Terms) → deglex x t.mono ≡ Greater →
    PushesNonzero out new (record { coef = c; mono = x }) → Collecting f out x c (t ∷ fs) → Collecting f new t.mono t.coef fs
Collecting-next f out new x c t fs o p m = record {
  sum = λ e. ap (λ z. z +ℚ ((if same e t.mono then t.coef else zero_ℚ) +ℚ coefficient fs e)) (pushed_coefficient out new c x e p) ∙ +ℚ_assoc _ _ _ ∙ m.sum e;
  descending = pushed_descending out new c x p m.descending m.above;
  above = pushed_above out new c t.coef x t.mono p o m.above;
  order = m.ordered.0;
  ordered = m.ordered.1;
  run = t ∷ [];
  some = omega arith;
  like_here = m.like_below t.mono o ∙ like-yes t.mono t fs (alike_itself t.mono);
  total_here = +ℚ-zero t.coef;
  fit_here = tt;
  fit_above = λ y g. fits_down_to f out x c (t ∷ fs) (o, above_ordered x t.mono fs o m.ordered.0) m y (g, above_ordered y t.mono fs g m.ordered.0);
  like_below = λ y g. m.like_below y (greater_trans x t.mono y o g) ∙ like-skip t.mono y t fs g refl;
  variables = λ n h. let v = m.variables n h in (pushed_variables n out new c x p v.0 v.1, v.2.0, v.2.1);
}

-- ---- the same by indices

pub nonempty_by_test : (n : ℕ) → false ≡ (n == 0) → 0 < n
nonempty_by_test n h = grind (arith, nat_tests)

pub start_at : (f out : Terms) (x : Exponents) (t : Term) → 0 < length f → t ≡ get_or f 0 t → x ≡ t.mono → out ≡ [] → IsOrdered f →
    Collecting f out x t.coef (drop 1 f)
start_at [] out x t h is e n o = absurd (omega arith)
start_at (s ∷ f) out x t h is e n o =
    subst (λ (z : Term). Collecting (s ∷ f) out x z.coef f) (sym is)
    (subst (λ (z : Terms). Collecting (s ∷ f) z x s.coef f) (sym n) (Collecting-start f s x o (e ∙ ap (λ (z : Term). z.mono) is)))

pub run_at : (f out : Terms) (x : Exponents) (c d : Fraction) (i : ℕ) (t : Term) → i < length f → t ≡ get_or f i t → deglex x t.mono ≡ Equal →
    FitsAdd c t.coef → d ≡ c +ℚ t.coef → Collecting f out x c (drop i f) → Collecting f out x d (drop (i + 1) f)
run_at f out x c d i t h is o w value m = Collecting-run f out x c d t (drop (i + 1) f) o w value (subst (Collecting f out x c) (head_at f i t h is) m)

pub next_at : (f out new : Terms) (x y : Exponents) (c : Fraction) (i : ℕ) (t : Term) → i < length f → t ≡ get_or f i t → (deglex x t.mono ≡ Equal → ⊥) →
    PushesNonzero out new (record { coef = c; mono = x }) → y ≡ t.mono → Collecting f out x c (drop i f) → Collecting f new y t.coef (drop (i + 1) f)
next_at f out new x y c i t h is o p e m = subst (λ z. Collecting f new z t.coef (drop (i + 1) f)) (sym e)
    (Collecting-next f out new x c t (drop (i + 1) f) (at (deglex x t.mono) refl) p n)
  where
    n : Collecting f out x c (t ∷ drop (i + 1) f)
    n = subst (Collecting f out x c) (head_at f i t h is) m

    at : (q : Ordering) → deglex x t.mono ≡ q → deglex x t.mono ≡ Greater
    at Greater q = q
    at Equal q = absurd (o q)
    at Less q = absurd (let r : true ≡ false = sym (ap is_lt q) ∙ n.order.0 in cc)

-- ---- at the end
pub ended : (f out : Terms) (x : Exponents) (c : Fraction) (i : ℕ) → length f ≤ i → Collecting f out x c (drop i f) → Collecting f out x c []
ended f out x c i h m = subst (Collecting f out x c) (drop_all i f h) m

pub sum_at_end : (f out new : Terms) (x : Exponents) (c : Fraction) → PushesNonzero out new (record { coef = c; mono = x }) → Collecting f out x c [] →
    SamePolynomial new f
sum_at_end f out new x c p m e = pushed_coefficient out new c x e p ∙ ap (λ z. coefficient out e +ℚ z) (sym (+ℚ-zero _)) ∙ m.sum e

pub descending_at_end : (f out new : Terms) (x : Exponents) (c : Fraction) → PushesNonzero out new (record { coef = c; mono = x }) → Collecting f out x c [] →
    IsDescending new
descending_at_end f out new x c p m = pushed_descending out new c x p m.descending m.above

pub variables_at_end : (f out new : Terms) (x : Exponents) (c : Fraction) → PushesNonzero out new (record { coef = c; mono = x }) → Collecting f out x c [] →
    KeepsVariables f new
variables_at_end f out new x c p m = record { at = λ n h. let v = m.variables n h in pushed_variables n out new c x p v.0 v.1 }

pub fits_at_end : (f out : Terms) (x : Exponents) (c : Fraction) → Collecting f out x c [] → LikeSumsFit f
fits_at_end f out x c m = record { at = λ y. fits_down_to f out x c [] tt m y tt }

-- ---- a sum that leaves the range
pub sum_overflow_at : (f out : Terms) (x : Exponents) (c : Fraction) (i : ℕ) (t : Term) (o : Overflow) → i < length f → t ≡ get_or f i t →
    deglex x t.mono ≡ Equal → o ≡ record { op = Add; left = c; right = t.coef } → ¬ (FitsAdd c t.coef) → Collecting f out x c (drop i f) → IsLikeSumOverflow f o
sum_overflow_at f out x c i t o h is q e n l =
    let m : Collecting f out x c (t ∷ drop (i + 1) f) = subst (Collecting f out x c) (head_at f i t h is) l in
    subst (IsLikeSumOverflow f) (sym e) (record {
      operation = refl;
      at = x;
      earlier = m.run;
      last = t;
      later = like x (drop (i + 1) f);
      some = m.some;
      split = m.like_here ∙ ap (λ (z : Terms). m.run ++ z) (like-yes x t (drop (i + 1) f) q);
      left = sym m.total_here;
      right = refl;
      leaves = n;
      before = m.fit_here;
      above = m.fit_above;
    })

-- ---- of the list before the sort
pub fits_along : (f g : Terms) → HasLikeTerms f g → LikeSumsFit g → LikeSumsFit f
fits_along f g h w = record { at = λ x. subst SumsFit (h.like_terms x) (w.at x) }

pub cause_of : (f g : Terms) (e : PolyError) → HasLikeTerms f g → IsLikeSumCause g e → IsLikeSumCause f e
cause_of f g (errors.Overflow o) h w = record {
  operation = w.operation;
  at = w.at;
  earlier = w.earlier;
  last = w.last;
  later = w.later;
  some = w.some;
  split = sym (h.like_terms w.at) ∙ w.split;
  left = w.left;
  right = w.right;
  leaves = w.leaves;
  before = w.before;
  above = λ x g. subst SumsFit (h.like_terms x) (w.above x g);
}
cause_of f g (errors.Exponent o) h w = w
cause_of f g errors.Memory h w = tt
