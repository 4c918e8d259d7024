-- Terms with wide coefficients, and the polynomials that they stand for.
-- To cite: length-values, values-at, values_append, values_take, values_drop, value_at, head_value, widened_term, copied_term, narrowed_term,
-- quotient_term, all_widened.
use Rattle.std.specs.Prelude.{◌≡◌, ℕ, zero, suc, ◌+◌, ◌<◌, ◌≤◌, List, [], ◌∷◌, ◌++◌, length}
use Rattle.std.proofs.Common.{arith, refl, ap, sym, ◌∙◌, get_or, take, drop}
use Rattle.std.proofs.lemmas.List.{take_all, take_more, map_push}
use Rattle.gf_frac.specs.Fraction.{Fraction, ◌*ℚ◌}
use Rattle.gf_exponents_theory.specs.Exponents.{Exponents}
use Rattle.gf_poly.specs.declared.Term.{Term}
use Rattle.gf_poly.specs.Polynomial.{Terms, times, times_term}
use Rattle.gf_poly.specs.Marking.{head_of}
use Rattle.gf_wide_division.specs.declared.terms.WideTerm.{WideTerm}
use Rattle.gf_wide_division.specs.Values.{term_value, value_terms}

pub length-values : (f : List WideTerm) → length (value_terms f) ≡ length f
length-values [] = refl
length-values (t ∷ f) = ap suc (length-values f)

pub values-at : (f : List WideTerm) (i : ℕ) (t : WideTerm) → term_value (get_or f i t) ≡ get_or (value_terms f) i (term_value t)
values-at [] i t = refl
values-at (x ∷ f) zero t = refl
values-at (x ∷ f) (suc i) t = values-at f i t

pub values_append : (f g : List WideTerm) → value_terms (f ++ g) ≡ value_terms f ++ value_terms g
values_append [] g = refl
values_append (x ∷ f) g = ap (λ (z : Terms). term_value x ∷ z) (values_append f g)

pub values_take : (f : List WideTerm) (i : ℕ) → value_terms (take i f) ≡ take i (value_terms f)
values_take [] zero = refl
values_take [] (suc i) = refl
values_take (x ∷ f) zero = refl
values_take (x ∷ f) (suc i) = ap (λ (z : Terms). term_value x ∷ z) (values_take f i)

pub values_drop : (f : List WideTerm) (i : ℕ) → value_terms (drop i f) ≡ drop i (value_terms f)
values_drop [] zero = refl
values_drop [] (suc i) = refl
values_drop (x ∷ f) zero = refl
values_drop (x ∷ f) (suc i) = values_drop f i

-- the term at an index
pub value_at : (f : List WideTerm) (i : ℕ) (t : WideTerm) → t ≡ get_or f i t → term_value t ≡ get_or (value_terms f) i (term_value t)
value_at f i t is = ap term_value is ∙ values-at f i t

pub head_value : (f : List WideTerm) (i : ℕ) (t : WideTerm) → i < length f → t ≡ get_or f i t → t.mono ≡ head_of (value_terms f) i
head_value [] i t h is = absurd (omega arith)
head_value (s ∷ f) zero t h is = ap (λ (z : WideTerm). z.mono) is
head_value (s ∷ f) (suc i) t h is = head_value f i t (omega arith) is

-- a term in wide numbers
pub widened_term : (f : Terms) (out new : List WideTerm) (i : ℕ) (t : Term) (u : WideTerm) → i < length f → t ≡ get_or f i t → u.coef ≡ t.coef →
    u.mono ≡ t.mono → new ≡ out ++ u ∷ [] → value_terms out ≡ take i f → value_terms new ≡ take (i + 1) f
widened_term f out new i t u h is ex em push inv =
    let e : term_value u ≡ t = λ q. record { coef = ex q; mono = em q } in
    ap value_terms push ∙ values_append out (u ∷ [])
    ∙ ap (λ (z : Terms). z ++ term_value u ∷ []) inv
    ∙ ap (λ (z : Term). take i f ++ z ∷ []) (e ∙ is) ∙ sym (take_more f i t h)

-- the same term
pub copied_term : (f out new : List WideTerm) (i : ℕ) (t u : WideTerm) → i < length f → t ≡ get_or f i t → u.coef ≡ t.coef → u.mono ≡ t.mono →
    new ≡ out ++ u ∷ [] → value_terms out ≡ take i (value_terms f) → value_terms new ≡ take (i + 1) (value_terms f)
copied_term f out new i t u h is ex em push inv =
    widened_term (value_terms f) out new i (term_value t) u (omega (arith, h, length-values f)) (value_at f i t is) ex em push inv

pub all_widened : (f : Terms) (out : List WideTerm) (i : ℕ) → length f ≤ i → value_terms out ≡ take i f → value_terms out ≡ f
all_widened f out i l e = e ∙ take_all i f l

-- a term in narrow numbers
pub narrowed_term : (f : List WideTerm) (out new : Terms) (i : ℕ) (t : WideTerm) (x : Fraction) (m : Exponents) → i < length f → t ≡ get_or f i t → x ≡ t.coef →
    m ≡ t.mono → new ≡ out ++ record { coef = x; mono = m } ∷ [] → out ≡ take i (value_terms f) → new ≡ take (i + 1) (value_terms f)
narrowed_term f out new i t x m h is ex em push inv =
    let s : Term = record { coef = x; mono = m } in
    let e : s ≡ term_value t = λ q. record { coef = ex q; mono = em q } in
    push ∙ ap (λ (z : Terms). z ++ s ∷ []) inv ∙ ap (λ (z : Term). take i (value_terms f) ++ z ∷ []) (e ∙ value_at f i t is)
    ∙ sym (take_more (value_terms f) i (term_value t) (omega (arith, h, length-values f)))

-- a term times a fraction, in narrow numbers
pub quotient_term : (by : Fraction) (f : List WideTerm) (out new : Terms) (i : ℕ) (t : WideTerm) (x : Fraction) (m : Exponents) → i < length f →
    t ≡ get_or f i t → x ≡ by *ℚ t.coef → m ≡ t.mono → new ≡ out ++ record { coef = x; mono = m } ∷ [] → out ≡ times by [] (take i (value_terms f)) →
    new ≡ times by [] (take (i + 1) (value_terms f))
quotient_term by f out new i t x m h is ex em push inv =
    let s : Term = record { coef = x; mono = m } in
    let e : s ≡ times_term by [] (term_value t) = λ q. record { coef = ex q; mono = em q } in
    push ∙ ap (λ (z : Terms). z ++ s ∷ []) inv ∙ ap (λ (z : Term). times by [] (take i (value_terms f)) ++ z ∷ []) (e ∙
    ap (times_term by []) (value_at f i t is))
    ∙ sym (ap (times by []) (take_more (value_terms f) i (term_value t) (omega (arith, h, length-values f))) ∙
    map_push (times_term by []) (take i (value_terms f)) (get_or (value_terms f) i (term_value t)))

pub all_narrowed : (f : List WideTerm) (g out : Terms) (i : ℕ) → value_terms f ≡ g → length f ≤ i → out ≡ take i (value_terms f) → out ≡ g
all_narrowed f g out i e l h = h ∙ take_all i (value_terms f) (omega (arith, l, length-values f)) ∙ e

-- an index in both
pub inside_there : (f : List WideTerm) (g : Terms) (i : ℕ) → value_terms f ≡ g → i < length g → i < length f
inside_there f g i e l = omega (arith, l, ap length e, length-values f)
