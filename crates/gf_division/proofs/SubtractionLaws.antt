-- A subtraction from the index down: one term, and all terms of a multiple.
-- To cite: nothing_pushed, taken_from_first, taken_at, taken_beside, refused_at, Subtracting, subtracting-more,
-- factor_refused, exponent_refused, difference_refused.
use Rattle.std.specs.Prelude.{◌≡◌, ◌≢◌, ◌⊎◌, ℕ, ◌+◌, ◌<◌, Bool, true, false, if◌then◌else◌, [], ◌∷◌, ◌++◌, length, reverse, Contains, Result, Ok, Err, OnOk}
use Rattle.std.specs.Prelude.{IfErr}
use Rattle.std.specs.declared.cmp.Ordering.{Ordering}
use Rattle.std.specs.declared.cmp.Ordering.TheVariants.{Less, Equal, Greater}
use Rattle.std.proofs.Common.{refl, sym, ap, ◌∙◌, subst, inl, inr, get_or, take, drop, append_assoc}
use Rattle.std.proofs.lemmas.List.{reverse-append, take_more, drop_more, map_push, take-append-drop}
use Rattle.gf_frac.specs.Fraction.{Fraction, ◌+ℚ◌, ◌-ℚ◌, ◌*ℚ◌, neg_ℚ, zero_ℚ}
use Rattle.gf_frac.proofs.FractionLaws.{+ℚ_assoc, +ℚ_comm, +ℚ-zero, zero-+ℚ, *ℚ-zero, neg_ℚ-*ℚ, +ℚ-neg_ℚ}
use Rattle.gf_exponents_theory.specs.Exponents.{Exponents, plus, same}
use Rattle.gf_exponents_theory.specs.Orders.{deglex}
use Rattle.gf_poly.specs.declared.Term.{Term}
use Rattle.gf_poly.specs.declared.error.PolyError.{PolyError}
use Rattle.gf_poly.specs.declared.error.PolyError.TheVariants as errors
use Rattle.gf_frac.specs.declared.refusal.Overflow.{Overflow}
use Rattle.gf_poly.specs.declared.monomial.ExponentOverflow.{ExponentOverflow}
use Rattle.gf_poly.specs.Monomial.{IsFirstOverflow}
use Rattle.gf_poly.specs.Polynomial.{Terms, coefficient, times, times_term, SamePolynomial, IsAbove, IsDescending, HasVariables}
use Rattle.gf_poly.specs.Sums.{PushesNonzero}
use Rattle.gf_poly.proofs.DescendingLaws.{less_greater, equal_same, greater_trans, IsAbove-from, AllAbove, AllAbove-rest, AllAbove-push, IsDescending-push}
use Rattle.gf_poly.proofs.CoefficientLaws.{apart_above}
use Rattle.gf_poly.proofs.MonomialLaws.{length-plus}
use Rattle.gf_poly.proofs.PolynomialLaws.{coefficient-++, coefficient-times}
use Rattle.gf_poly.proofs.ProductLaws.{deglex-plus, nonzero_product}
use Rattle.gf_poly.proofs.CollectLaws.{chosen_sum}
use Rattle.gf_ideal_theory.proofs.ListLaws.{Each-++, Each-weaker}
use Rattle.gf_division.specs.Dividends.{Split, joined_terms, IsSound, AreOver, AreFrom, AreOverProducts, FirstIs, Descends, TakesFromFirst, IsFirstRefusal}
use Rattle.gf_division.specs.Dividends.{TakesAway, IsDifferenceRefusal, IsScalingOverflow, IsSubtractionRefusal}
use Rattle.gf_division.proofs.DescendingParts.{descending-front, descending-back, descending-across, descending-join, all-above-join, variables-front}
use Rattle.gf_division.proofs.DescendingParts.{variables-back, variables-join, coefficient-midst, over-one, from-over}

-- ---- from the first term

-- of equal numbers nothing is left
pub nothing_pushed : (old : Terms) (t : Term) (c : Fraction) → t.coef ≡ c → PushesNonzero old old (record { coef = t.coef -ℚ c; mono = t.mono })
nothing_pushed old t c e = inl (ap (λ z. z -ℚ c) e ∙ +ℚ-neg_ℚ c, refl)

pub taken_from_first : {E : Type 0} (c : Fraction) (a b d k : Terms) (t : Term) (r : Result Unit E) → b ≡ k ++ t ∷ [] →
    OnOk r (PushesNonzero a d (record { coef = t.coef -ℚ c; mono = t.mono })) →
    OnOk r (TakesFromFirst c (record { above = a; below = reverse b }) (record { above = d; below = reverse k }))
taken_from_first c a b d k t (Ok x) e p = record { term = t; below = ap reverse e ∙ reverse-append k (t ∷ []); above = p }
taken_from_first c a b d k t (Err x) e p = tt

-- ---- what a descent leaves

-- the terms above the index are greater than x, those below it aren't
record IsCut (x : Exponents) (old new : Split) : Type 0 where
  same : joined_terms new ≡ joined_terms old
  over : AreOver x new.above
  sound : IsSound (length x) new

cut : (x : Exponents) (old new : Split) (o : Ordering) → IsSound (length x) old → AreOver x old.above → Descends x old new o → IsCut x old new
cut x old new o h v d =
    let e : joined_terms new ≡ joined_terms old = ap (λ (z : Terms). z ++ new.below) d.above ∙ append_assoc old.above d.passed new.below ∙
    ap (λ (z : Terms). old.above ++ z) (sym d.below) in
    record {
      same = e;
      over = subst (AreOver x) (sym d.above) (Each-++ (λ (t : Term). deglex t.mono x ≡ Greater) old.above d.passed v d.over);
      sound = record { descending = subst IsDescending (sym e) h.descending; variables = subst (HasVariables (length x)) (sym e) h.variables };
    }

-- one term more above the index: what the coefficients are
one_more : (f g : Terms) (u : Term) (y : Exponents) → coefficient ((f ++ u ∷ []) ++ g) y ≡ (coefficient f y +ℚ (if same y u.mono then u.coef else zero_ℚ)) +ℚ
    coefficient g y
one_more f g u y = coefficient-++ (f ++ u ∷ []) g y ∙ ap (λ z. z +ℚ coefficient g y) (coefficient-++ f (u ∷ []) y ∙ ap (λ z. coefficient f y +ℚ z) (+ℚ-zero _))

-- ---- a term at x: the difference of the coefficients

pub swap_last : (f p r : Fraction) → (f +ℚ p) +ℚ r ≡ (f +ℚ r) +ℚ p
swap_last f p r = +ℚ_assoc f p r ∙ ap (λ z. f +ℚ z) (+ℚ_comm p r) ∙ sym (+ℚ_assoc f r p)

both : (f s q r : Fraction) → (f +ℚ (s +ℚ q)) +ℚ r ≡ (f +ℚ (s +ℚ r)) +ℚ q
both f s q r = ap (λ z. z +ℚ r) (sym (+ℚ_assoc f s q)) ∙ swap_last (f +ℚ s) q r ∙ ap (λ z. z +ℚ q) (+ℚ_assoc f s r)

chosen_zero : (b : Bool) → (if b then zero_ℚ else zero_ℚ) ≡ zero_ℚ
chosen_zero true = refl
chosen_zero false = refl

-- the term t of a list at x, once c is taken away
left_over : (x : Exponents) (c : Fraction) (f g h : Terms) (t : Term) → t.mono ≡ x → PushesNonzero f h (record { coef = t.coef -ℚ c; mono = t.mono }) →
    SamePolynomial (h ++ g) ((f ++ t ∷ g) ++ record { coef = neg_ℚ c; mono = x } ∷ [])
left_over x c f g h t e p y = at p ∙ both _ _ _ _ ∙ sym whole
  where
    s : Fraction
    s = if same y t.mono then t.coef else zero_ℚ

    q : Fraction
    q = if same y x then neg_ℚ c else zero_ℚ

    parts : (if same y t.mono then t.coef -ℚ c else zero_ℚ) ≡ s +ℚ q
    parts = chosen_sum (same y t.mono) t.coef (neg_ℚ c) ∙ ap (λ (z : Exponents). s +ℚ (if same y z then neg_ℚ c else zero_ℚ)) e

    at : PushesNonzero f h (record { coef = t.coef -ℚ c; mono = t.mono }) → coefficient (h ++ g) y ≡ (coefficient f y +ℚ (s +ℚ q)) +ℚ coefficient g y
    at (inr k) = ap (λ (z : Terms). coefficient (z ++ g) y) k.1 ∙ one_more f g (record { coef = t.coef -ℚ c; mono = t.mono }) y ∙
        ap (λ z. (coefficient f y +ℚ z) +ℚ coefficient g y) parts
    at (inl k) =
        ap (λ (z : Terms). coefficient (z ++ g) y) k.1 ∙ coefficient-++ f g y
        ∙ ap (λ z. z +ℚ coefficient g y) (sym (+ℚ-zero (coefficient f y)) ∙ ap (λ z. coefficient f y +ℚ z) (sym (chosen_zero (same y t.mono)) ∙
        ap (λ z. if same y t.mono then z else zero_ℚ) (sym k.0) ∙ parts))

    whole : coefficient ((f ++ t ∷ g) ++ record { coef = neg_ℚ c; mono = x } ∷ []) y ≡ (coefficient f y +ℚ (s +ℚ coefficient g y)) +ℚ q
    whole = coefficient-++ (f ++ t ∷ g) (record { coef = neg_ℚ c; mono = x } ∷ []) y ∙ ap (λ z. z +ℚ (q +ℚ zero_ℚ)) (coefficient-++ f (t ∷ g) y) ∙
        ap (λ z. (coefficient f y +ℚ (s +ℚ coefficient g y)) +ℚ z) (+ℚ-zero q)

-- it is descending, in n variables
sound_left_over : (n : ℕ) (c : Fraction) (f g h : Terms) (t : Term) → PushesNonzero f h (record { coef = t.coef -ℚ c; mono = t.mono }) →
    IsDescending (f ++ t ∷ g) → HasVariables n (f ++ t ∷ g) → IsDescending (h ++ g) × HasVariables n (h ++ g)
sound_left_over n c f g h t (inl k) d v =
    let a : AllAbove f (t ∷ g) = descending-across f (t ∷ g) d in
    let r : IsDescending (t ∷ g) = descending-back f (t ∷ g) d in
    let w : HasVariables n (t ∷ g) = variables-back n f (t ∷ g) v in (
      subst (λ (z : Terms). IsDescending (z ++ g)) (sym k.1) (descending-join f g (descending-front f (t ∷ g) d) r.2 (AllAbove-rest f t g a)),
      subst (λ (z : Terms). HasVariables n (z ++ g)) (sym k.1) (variables-join n f g (variables-front n f (t ∷ g) v) w.1),
    )
sound_left_over n c f g h t (inr k) d v =
    let u : Term = record { coef = t.coef -ℚ c; mono = t.mono } in
    let a : AllAbove f (t ∷ g) = descending-across f (t ∷ g) d in
    let r : IsDescending (t ∷ g) = descending-back f (t ∷ g) d in
    let w : HasVariables n (t ∷ g) = variables-back n f (t ∷ g) v in (
      subst (λ (z : Terms). IsDescending (z ++ g)) (sym k.1)
          (descending-join (f ++ u ∷ []) g (IsDescending-push f t u g (descending-front f (t ∷ g) d) a refl k.0) r.2
          (AllAbove-push f u g (AllAbove-rest f t g a) r.1)),
      subst (λ (z : Terms). HasVariables n (z ++ g)) (sym k.1)
          (variables-join n (f ++ u ∷ []) g (variables-join n f (u ∷ []) (variables-front n f (t ∷ g) v) (w.0, tt)) w.1),
    )

from_left_over : (x : Exponents) (c : Fraction) (f h : Terms) (t : Term) → t.mono ≡ x → AreOver x f →
    PushesNonzero f h (record { coef = t.coef -ℚ c; mono = t.mono }) → AreFrom x h
from_left_over x c f h t e o (inl k) = subst (AreFrom x) (sym k.1) (from-over x f o)
from_left_over x c f h t e o (inr k) = subst (AreFrom x) (sym k.1) (Each-++ (λ (s : Term). (s.mono ≡ x) ⊎ (deglex s.mono x ≡ Greater)) f
    (record { coef = t.coef -ℚ c; mono = t.mono } ∷ []) (from-over x f o) (inl e, tt))

passed_left_over : (c : Fraction) (f h k : Terms) (t u : Term) (old : Terms) → f ≡ old ++ k → PushesNonzero f h u → (p : Terms) × (h ≡ old ++ p)
passed_left_over c f h k t u old e (inl q) = (k, q.1 ∙ e)
passed_left_over c f h k t u old e (inr q) = (k ++ u ∷ [], q.1 ∙ ap (λ (z : Terms). z ++ u ∷ []) e ∙ append_assoc old k (u ∷ []))

-- the first term is at x
first_at : (x : Exponents) (f g : Terms) (t : Term) (o : Ordering) → o ≡ Equal → f ≡ t ∷ g → FirstIs f x o → t.mono ≡ x
first_at x f g t o q e h = equal_same t.mono x (sym (subst (λ (z : Terms). FirstIs z x o) e h) ∙ q)

taken : (c : Fraction) (x : Exponents) (old mid new : Split) (o : Ordering) → o ≡ Equal → IsSound (length x) old → AreOver x old.above → Descends x old mid o →
    TakesFromFirst c mid new → TakesAway c x old new
taken c x old mid new o q h v d w =
    let k : IsCut x old mid = cut x old mid o h v d in
    let e : w.term.mono ≡ x = first_at x mid.below new.below w.term o q w.below d.first in
    let s = sound_left_over (length x) c mid.above new.below new.above w.term w.above
    (subst (λ (z : Terms). IsDescending (mid.above ++ z)) w.below k.sound.descending)
    (subst (λ (z : Terms). HasVariables (length x) (mid.above ++ z)) w.below k.sound.variables) in
    let p = passed_left_over c mid.above new.above d.passed w.term (record { coef = w.term.coef -ℚ c; mono = w.term.mono }) old.above d.above w.above in
    record {
      same = λ y. left_over x c mid.above new.below new.above w.term e w.above y ∙
          ap (λ (z : Terms). coefficient (z ++ record { coef = neg_ℚ c; mono = x } ∷ []) y) (ap (λ (z : Terms). mid.above ++ z) (sym w.below) ∙ k.same);
      sound = record { descending = s.0; variables = s.1 };
      passed = p.0;
      above = p.1;
      from = from_left_over x c mid.above new.above w.term e k.over w.above;
    }

pub taken_at : {E : Type 0} (c : Fraction) (x : Exponents) (old mid new : Split) (o : Ordering) (r : Result Unit E) → o ≡ Equal → IsSound (length x) old →
    AreOver x old.above → Descends x old mid o → OnOk r (TakesFromFirst c mid new) → OnOk r (TakesAway c x old new)
taken_at c x old mid new o (Ok u) q h v d w = taken c x old mid new o q h v d w
taken_at c x old mid new o (Err e) q h v d w = tt

-- why it is refused
refusal_at : (c : Fraction) (x : Exponents) (old mid : Split) (o : Ordering) (e : PolyError) → o ≡ Equal → IsSound (length x) old → AreOver x old.above →
    Descends x old mid o → IsFirstRefusal mid.below c e → IsDifferenceRefusal (coefficient (joined_terms old) x) c e
refusal_at c x old mid o e q h v d = at mid.below refl d.first
  where
    k : IsCut x old mid
    k = cut x old mid o h v d

    at : (f : Terms) → mid.below ≡ f → FirstIs f x o → IsFirstRefusal f c e → IsDifferenceRefusal (coefficient (joined_terms old) x) c e
    at [] b i r = absurd r
    at (t ∷ f) b i r =
        let m : t.mono ≡ x = first_at x (t ∷ f) f t o q refl i in
        let z : joined_terms old ≡ mid.above ++ t ∷ f = sym k.same ∙ ap (λ (g : Terms). mid.above ++ g) b in
        let w : coefficient (joined_terms old) x ≡ t.coef = ap (λ (g : Terms). coefficient g x) z ∙ ap (coefficient (mid.above ++ t ∷ f)) (sym m) ∙
        coefficient-midst (length x) mid.above t f (subst (HasVariables (length x)) z h.variables) (subst IsDescending z h.descending) in
        subst (λ a. IsDifferenceRefusal a c e) (sym w) r

pub refused_at : {T : Type 0} (c : Fraction) (x : Exponents) (old mid : Split) (o : Ordering) (r : Result T PolyError) → o ≡ Equal → IsSound (length x) old →
    AreOver x old.above → Descends x old mid o → IfErr r (IsFirstRefusal mid.below c) → IfErr r (IsDifferenceRefusal (coefficient (joined_terms old) x) c)
refused_at c x old mid o (Ok t) q h v d w = tt
refused_at c x old mid o (Err e) q h v d w = refusal_at c x old mid o e q h v d w

-- ---- no term at x: a new one

-- where the first term isn't at x, all are below it
below_cut : (x : Exponents) (f : Terms) (o : Ordering) → o ≢ Equal → o ≢ Greater → FirstIs f x o → IsDescending f → IsAbove x f
below_cut x [] o n m h d = tt
below_cut x (t ∷ f) Less n m h d = let g = less_greater t.mono x (sym h) in (g, IsAbove-from x t.mono f g d.1)
below_cut x (t ∷ f) Equal n m h d = absurd (n refl)
below_cut x (t ∷ f) Greater n m h d = absurd (m refl)

pub neg-nonzero : (c : Fraction) → c ≢ zero_ℚ → neg_ℚ c ≢ zero_ℚ
neg-nonzero c n z = n (sym (+ℚ-zero c) ∙ ap (λ y. c +ℚ y) (sym z) ∙ +ℚ-neg_ℚ c)

pub taken_beside : (c : Fraction) (x : Exponents) (old mid new : Split) (o : Ordering) (u : Term) → o ≢ Equal → c ≢ zero_ℚ →
    u ≡ record { coef = neg_ℚ c; mono = x } → IsSound (length x) old → AreOver x old.above → Descends x old mid o → new.above ≡ mid.above ++ u ∷ [] →
    new.below ≡ mid.below → TakesAway c x old new
taken_beside c x old mid new o u n z i h v d a b = subst (TakesAway c x old) (sym both_parts) (record {
  same = λ y.
      one_more mid.above mid.below t y ∙ swap_last _ _ _
      ∙ ap (λ w. w +ℚ (if same y x then neg_ℚ c else zero_ℚ)) (sym (coefficient-++ mid.above mid.below y) ∙ ap (λ (g : Terms). coefficient g y) k.same)
      ∙ ap (λ w. coefficient (joined_terms old) y +ℚ w) (sym (+ℚ-zero _)) ∙ sym (coefficient-++ (joined_terms old) (t ∷ []) y);
  sound = record {
    descending = descending-join (mid.above ++ t ∷ []) mid.below (descending-join mid.above (t ∷ []) (descending-front mid.above mid.below k.sound.descending)
        (neg-nonzero c z, tt, tt) (over-one x mid.above t refl k.over)) below
        (all-above-join mid.above (t ∷ []) mid.below (descending-across mid.above mid.below k.sound.descending) (under, tt));
    variables = variables-join (length x) (mid.above ++ t ∷ []) mid.below
        (variables-join (length x) mid.above (t ∷ []) (variables-front (length x) mid.above mid.below k.sound.variables) (refl, tt)) (variables-back (length x)
        mid.above mid.below k.sound.variables);
  };
  passed = d.passed ++ t ∷ [];
  above = ap (λ (g : Terms). g ++ t ∷ []) d.above ∙ append_assoc old.above d.passed (t ∷ []);
  from = Each-++ (λ (s : Term). (s.mono ≡ x) ⊎ (deglex s.mono x ≡ Greater)) mid.above (t ∷ []) (from-over x mid.above k.over) (inl refl, tt);
})
  where
    t : Term
    t = record { coef = neg_ℚ c; mono = x }

    k : IsCut x old mid
    k = cut x old mid o h v d

    below : IsDescending mid.below
    below = descending-back mid.above mid.below k.sound.descending

    under : IsAbove x mid.below
    under = below_cut x mid.below o n d.ends d.first below

    both_parts : new ≡ record { above = mid.above ++ t ∷ []; below = mid.below }
    both_parts = λ j. record { above = (a ∙ ap (λ (w : Term). mid.above ++ w ∷ []) i) j; below = b j }

-- ---- all terms of a multiple

-- nothing at a monomial below all
pub coefficient-over : (n : ℕ) (f : Terms) (x : Exponents) → HasVariables n f → length x ≡ n → AreOver x f → coefficient f x ≡ zero_ℚ
coefficient-over n [] x v l o = refl
coefficient-over n (t ∷ f) x v l o =
    ap (λ b. (if b then t.coef else zero_ℚ) +ℚ coefficient f x) (apart_above x t.mono (l ∙ sym v.0) o.0)
    ∙ zero-+ℚ _ ∙ coefficient-over n f x v.1 l o.1

-- c times u times the first i terms of g are taken away from old
pub record Subtracting (c : Fraction) (u : Exponents) (g : Terms) (old now : Split) (i : ℕ) : Type 0 where
  pub same : SamePolynomial (joined_terms now) (joined_terms old ++ times (neg_ℚ c) u (take i g))
  pub sound : IsSound (length u) now
  pub passed : Terms
  pub above : now.above ≡ old.above ++ passed
  pub over : AreOverProducts u (drop i g) now.above

-- the list at the term at i
record IsAtTerm (g : Terms) (i : ℕ) (t : Term) : Type 0 where
  whole : g ≡ take i g ++ t ∷ drop (i + 1) g
  rest : drop i g ≡ t ∷ drop (i + 1) g
  more : take (i + 1) g ≡ take i g ++ t ∷ []

at_term : (g : Terms) (i : ℕ) (t : Term) → i < length g → t ≡ get_or g i t → IsAtTerm g i t
at_term g i t l e =
    let r : drop i g ≡ t ∷ drop (i + 1) g = drop_more g i t l ∙ ap (λ (x : Term). x ∷ drop (i + 1) g) (sym e) in
    record {
      whole = sym (take-append-drop i g) ∙ ap (λ (z : Terms). take i g ++ z) r;
      rest = r;
      more = take_more g i t l ∙ ap (λ (x : Term). take i g ++ x ∷ []) (sym e);
    }

-- what is from u times a term on is over u times each later one
from-later : (u : Exponents) (t : Term) (g f : Terms) → length u ≡ length t.mono → HasVariables (length u) g → IsAbove t.mono g → AreFrom (plus u t.mono) f →
    AreOverProducts u g f
from-later u t [] f l v a w = tt
from-later u t (s ∷ g) f l v a w = (
  Each-weaker (λ (r : Term). (r.mono ≡ plus u t.mono) ⊎ (deglex r.mono (plus u t.mono) ≡ Greater)) (λ (r : Term).
      deglex r.mono (plus u s.mono) ≡ Greater) over f w,
  from-later u t g f l v.1 a.1 w,
)
  where
    down : deglex (plus u t.mono) (plus u s.mono) ≡ Greater
    down = deglex-plus u t.mono s.mono l (sym l ∙ sym v.0) ∙ a.0

    over : (r : Term) → (r.mono ≡ plus u t.mono) ⊎ (deglex r.mono (plus u t.mono) ≡ Greater) → deglex r.mono (plus u s.mono) ≡ Greater
    over r (inl e) = ap (λ (z : Exponents). deglex z (plus u s.mono)) e ∙ down
    over r (inr o) = greater_trans r.mono (plus u t.mono) (plus u s.mono) o down

-- the term of the multiple
pub product_nonzero : (c p : Fraction) (g : Terms) (i : ℕ) (t : Term) → i < length g → t ≡ get_or g i t → IsDescending g → c ≢ zero_ℚ → p ≡ c *ℚ t.coef →
    p ≢ zero_ℚ
product_nonzero c p g i t l e d n q = subst (λ z. z ≢ zero_ℚ) (sym q)
    (nonzero_product c t.coef n (descending-back (take i g) (t ∷ drop (i + 1) g) (subst IsDescending (at_term g i t l e).whole d)).0)

pub product_over : (u m : Exponents) (g f : Terms) (i : ℕ) (t : Term) → i < length g → t ≡ get_or g i t → m ≡ plus u t.mono → AreOverProducts u (drop i g) f →
    AreOver m f
product_over u m g f i t l e q o = subst (λ (x : Exponents). AreOver x f) (sym q) (subst (λ (z : Terms). AreOverProducts u z f) (at_term g i t l e).rest o).0

pub product_length : (u m : Exponents) (g : Terms) (i : ℕ) (t : Term) → i < length g → t ≡ get_or g i t → HasVariables (length u) g → m ≡ plus u t.mono →
    length m ≡ length u
product_length u m g i t l e v q = ap length q ∙ length-plus u t.mono
    (sym (variables-back (length u) (take i g) (t ∷ drop (i + 1) g) (subst (HasVariables (length u)) (at_term g i t l e).whole v)).0)

pub subtracting-more : (c : Fraction) (u : Exponents) (g : Terms) (old now new : Split) (i : ℕ) (t : Term) (p : Fraction) (m : Exponents) → i < length g →
    t ≡ get_or g i t → HasVariables (length u) g → IsDescending g → p ≡ c *ℚ t.coef → m ≡ plus u t.mono → Subtracting c u g old now i → TakesAway p m now new →
    Subtracting c u g old new (i + 1)
subtracting-more c u g old now new i t p m l e v d ep em k w = record {
  same = λ y.
      w.same y ∙ coefficient-++ (joined_terms now) (record { coef = neg_ℚ p; mono = m } ∷ []) y
      ∙ ap (λ z. z +ℚ coefficient (record { coef = neg_ℚ p; mono = m } ∷ []) y) (k.same y)
      ∙ sym (coefficient-++ (joined_terms old ++ times (neg_ℚ c) u (take i g)) (record { coef = neg_ℚ p; mono = m } ∷ []) y)
      ∙ ap (λ (z : Terms). coefficient z y) (append_assoc (joined_terms old) (times (neg_ℚ c) u (take i g)) (record { coef = neg_ℚ p; mono = m } ∷ []) ∙
      ap (λ (z : Terms). joined_terms old ++ z) (sym multiple));
  sound = subst (λ (n : ℕ). IsSound n new) (product_length u m g i t l e v em) w.sound;
  passed = k.passed ++ w.passed;
  above = w.above ∙ ap (λ (z : Terms). z ++ w.passed) k.above ∙ append_assoc old.above k.passed w.passed;
  over = from-later u t (drop (i + 1) g) new.above (sym tail.0) tail.1 (descending-back (take i g) (t ∷ drop (i + 1) g) (subst IsDescending a.whole d)).1
      (subst (λ (x : Exponents). AreFrom x new.above) em w.from);
}
  where
    a : IsAtTerm g i t
    a = at_term g i t l e

    tail : HasVariables (length u) (t ∷ drop (i + 1) g)
    tail = variables-back (length u) (take i g) (t ∷ drop (i + 1) g) (subst (HasVariables (length u)) a.whole v)

    one : times_term (neg_ℚ c) u t ≡ record { coef = neg_ℚ p; mono = m }
    one = λ j. record { coef = (neg_ℚ-*ℚ c t.coef ∙ ap neg_ℚ (sym ep)) j; mono = sym em j }

    multiple : times (neg_ℚ c) u (take (i + 1) g) ≡ times (neg_ℚ c) u (take i g) ++ record { coef = neg_ℚ p; mono = m } ∷ []
    multiple = ap (times (neg_ℚ c) u) a.more ∙ map_push (times_term (neg_ℚ c) u) (take i g) t ∙ ap (λ (z : Term). times (neg_ℚ c) u (take i g) ++ z ∷ []) one

-- ---- why it is refused

-- the coefficient at a product that the steps before it don't change
coefficient-untouched : (c : Fraction) (u : Exponents) (g : Terms) (old now : Split) (i : ℕ) (t : Term) → i < length g → t ≡ get_or g i t →
    HasVariables (length u) g → IsDescending g → Subtracting c u g old now i → coefficient (joined_terms now) (plus u t.mono) ≡ coefficient (joined_terms old)
    (plus u t.mono)
coefficient-untouched c u g old now i t l e v d k =
    k.same (plus u t.mono) ∙ coefficient-++ (joined_terms old) (times (neg_ℚ c) u (take i g)) (plus u t.mono)
    ∙ ap (λ z. coefficient (joined_terms old) (plus u t.mono) +ℚ z) (coefficient-times (neg_ℚ c) u (take i g) t.mono ∙ ap (λ z. neg_ℚ c *ℚ z) nothing ∙
    *ℚ-zero (neg_ℚ c))
    ∙ +ℚ-zero _
  where
    a : IsAtTerm g i t
    a = at_term g i t l e

    w : HasVariables (length u) (take i g ++ t ∷ drop (i + 1) g)
    w = subst (HasVariables (length u)) a.whole v

    over : (f : Terms) → AllAbove f (t ∷ drop (i + 1) g) → AreOver t.mono f
    over [] h = tt
    over (s ∷ f) h = (h.0.0, over f h.1)

    nothing : coefficient (take i g) t.mono ≡ zero_ℚ
    nothing = coefficient-over (length u) (take i g) t.mono (variables-front (length u) (take i g) (t ∷ drop (i + 1) g) w)
        (variables-back (length u) (take i g) (t ∷ drop (i + 1) g) w).0
        (over (take i g) (descending-across (take i g) (t ∷ drop (i + 1) g) (subst IsDescending a.whole d)))

contained_at : (g : Terms) (i : ℕ) (t : Term) → i < length g → t ≡ get_or g i t → Contains g t
contained_at g i t l e = (i, l, sym e)

pub factor_refused : (f : Terms) (c : Fraction) (u : Exponents) (g : Terms) (i : ℕ) (t : Term) (o : Overflow) → i < length g → t ≡ get_or g i t →
    IsScalingOverflow c t.coef o → IsSubtractionRefusal f c u g (errors.Overflow o)
factor_refused f c u g i t o l e h = record { term = t; contained = contained_at g i t l e; cause = inl h }

pub exponent_refused : (f : Terms) (c : Fraction) (u : Exponents) (g : Terms) (i : ℕ) (t : Term) (o : ExponentOverflow) → i < length g → t ≡ get_or g i t →
    IsFirstOverflow u t.mono o → IsSubtractionRefusal f c u g (errors.Exponent o)
exponent_refused f c u g i t o l e h = record { term = t; contained = contained_at g i t l e; cause = h }

pub difference_refused : (c : Fraction) (u : Exponents) (g : Terms) (old now : Split) (i : ℕ) (t : Term) (p : Fraction) (m : Exponents) (e : PolyError) →
    i < length g → t ≡ get_or g i t → HasVariables (length u) g → IsDescending g → p ≡ c *ℚ t.coef → m ≡ plus u t.mono → Subtracting c u g old now i →
    IsDifferenceRefusal (coefficient (joined_terms now) m) p e → IsSubtractionRefusal (joined_terms old) c u g e
difference_refused c u g old now i t p m (errors.Overflow o) l e v d ep em k h = record {
  term = t;
  contained = contained_at g i t l e;
  cause = inr (record {
    operation = h.operation;
    left = h.left ∙ ap (coefficient (joined_terms now)) em ∙ coefficient-untouched c u g old now i t l e v d k;
    right = h.right ∙ ep;
    leaves = h.leaves;
  });
}
difference_refused c u g old now i t p m (errors.Exponent o) l e v d ep em k h = absurd h
difference_refused c u g old now i t p m errors.Memory l e v d ep em k h = tt
