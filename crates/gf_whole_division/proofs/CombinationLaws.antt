-- The sum of multiples of two polynomials, term by term; no order of the terms matters.
-- To cite: pass_moved, moved_trans, moved_refl, merged_none, merged_sum, sum_value, sum_after_move, pushed_sum, total_plain, total_moved, joined_step,
-- joined_end, scaled_total, Combining, combining_start, combining_more, combining_end.
use Rattle.std.specs.Prelude.{◌≡◌, ℕ, zero, suc, ◌+◌, ◌-◌, ◌<◌, ◌≤◌, length, ℤ, ◌+ℤ◌, ◌*ℤ◌, List, [], ◌∷◌, ◌++◌, if◌then◌else◌, Bool, true, false}
use Rattle.std.proofs.Common.{arith, refl, sym, ap, ◌∙◌, get_or, take}
use Rattle.std.proofs.lemmas.List.{take_all, map_push}
use Rattle.gf_frac.specs.Fraction.{Fraction, whole, ◌+ℚ◌, ◌*ℚ◌, zero_ℚ, one_ℚ}
use Rattle.gf_frac.proofs.FractionLaws.{+ℚ_assoc, +ℚ_comm, +ℚ-zero, zero-+ℚ, *ℚ-+ℚ, *ℚ-zero, *ℚ_comm, one-*ℚ}
use Rattle.gf_exponents_theory.specs.Exponents.{Exponents, same}
use Rattle.gf_poly.specs.declared.Term.{Term}
use Rattle.gf_poly.specs.Polynomial.{Terms, coefficient, SamePolynomial, times, times_term}
use Rattle.gf_poly.proofs.PolynomialLaws.{coefficient-++}
use Rattle.gf_ideal_theory.proofs.Identities.{whole-*}
use Rattle.gf_whole_division.specs.declared.combinations.Halves.{Halves}
use Rattle.gf_whole_division.specs.declared.terms.WholeTerm.{WholeTerm}
use Rattle.gf_whole_division.specs.Combinations.{total_at, IsMoved, IsSumWith, IsTotal}
use Rattle.gf_whole_division.specs.Values.{term_value, whole_terms}
use Rattle.gf_whole_division.proofs.FactorLaws.{whole-+, times-coefficient}
use Rattle.gf_whole_division.proofs.ValueLaws.{values_push, values_more}

-- a list with one term more
push_at : (f g : List WholeTerm) (t : WholeTerm) → g ≡ f ++ t ∷ [] → (e : Exponents) →
    coefficient (whole_terms g) e ≡ coefficient (whole_terms f) e +ℚ coefficient (term_value t ∷ []) e
push_at f g t h e =
    ap (λ (z : Terms). coefficient z e) (ap whole_terms h ∙ values_push f t) ∙ coefficient-++ (whole_terms f) (term_value t ∷ []) e

-- ---- a term moves

moved_term : (k a l t : Fraction) → (a +ℚ k *ℚ t) +ℚ k *ℚ l ≡ a +ℚ k *ℚ (l +ℚ t)
moved_term k a l t = +ℚ_assoc a (k *ℚ t) (k *ℚ l) ∙ ap (λ z. a +ℚ z) (+ℚ_comm (k *ℚ t) (k *ℚ l) ∙ sym (*ℚ-+ℚ k l t))

-- the last term below the index goes above it, times k
pub pass_moved : (k : Fraction) (old new : Halves) (left : List WholeTerm) (t r : WholeTerm) → old.below.items ≡ left ++ t ∷ [] →
    term_value r ≡ times_term k [] (term_value t) → new.above.items ≡ old.above.items ++ r ∷ [] → new.below.items ≡ left → IsMoved k old new
pass_moved k old new left t r pop e push is x =
    let a : Fraction = coefficient (whole_terms old.above.items) x in
    let l : Fraction = coefficient (whole_terms left) x in
    ap (λ (z : List WholeTerm). coefficient (whole_terms new.above.items) x +ℚ k *ℚ coefficient (whole_terms z) x) is
    ∙ ap (λ z. z +ℚ k *ℚ l) (push_at old.above.items new.above.items r push x)
    ∙ ap (λ z. (a +ℚ z) +ℚ k *ℚ l) (ap (λ (z : Term). coefficient (z ∷ []) x) e ∙ times-coefficient k (term_value t ∷ []) x)
    ∙ moved_term k a l (coefficient (term_value t ∷ []) x)
    ∙ ap (λ z. a +ℚ k *ℚ z) (sym (push_at left old.below.items t pop x))

pub moved_refl : (k : Fraction) (h : Halves) → IsMoved k h h
moved_refl k h e = refl

pub moved_trans : (k : Fraction) (f g h : Halves) → IsMoved k f g → IsMoved k g h → IsMoved k f h
moved_trans k f g h m n e = n e ∙ m e

-- ---- like terms

chosen_sum : (b : Bool) (x y : Fraction) → (if b then x +ℚ y else zero_ℚ) ≡ (if b then x else zero_ℚ) +ℚ (if b then y else zero_ℚ)
chosen_sum true x y = refl
chosen_sum false x y = sym (+ℚ-zero zero_ℚ)

-- two like terms are one with the sum of their coefficients
like_terms : (s t : Term) (c : Fraction) (e : Exponents) → s.mono ≡ t.mono → c ≡ s.coef +ℚ t.coef →
    coefficient (record { coef = c; mono = s.mono } ∷ []) e ≡ coefficient (s ∷ []) e +ℚ coefficient (t ∷ []) e
like_terms s t c e m h =
    ap (λ z. (if same e s.mono then z else zero_ℚ) +ℚ zero_ℚ) h ∙ ap (λ z. z +ℚ zero_ℚ) (chosen_sum (same e s.mono) s.coef t.coef)
    ∙ +ℚ_assoc (if same e s.mono then s.coef else zero_ℚ) (if same e s.mono then t.coef else zero_ℚ) zero_ℚ
    ∙ ap (λ (y : Exponents). (if same e s.mono then s.coef else zero_ℚ) +ℚ ((if same e y then t.coef else zero_ℚ) +ℚ zero_ℚ)) m
    ∙ coefficient-++ (s ∷ []) (t ∷ []) e

chosen_zero : (b : Bool) → (if b then zero_ℚ else zero_ℚ) ≡ zero_ℚ
chosen_zero true = refl
chosen_zero false = refl

arranged : (k a l s t : Fraction) → (a +ℚ (k *ℚ s +ℚ t)) +ℚ k *ℚ l ≡ (a +ℚ k *ℚ (l +ℚ s)) +ℚ t
arranged k a l s t =
    ap (λ z. z +ℚ k *ℚ l) (sym (+ℚ_assoc a (k *ℚ s) t)) ∙ +ℚ_assoc (a +ℚ k *ℚ s) t (k *ℚ l)
    ∙ ap (λ z. (a +ℚ k *ℚ s) +ℚ z) (+ℚ_comm t (k *ℚ l)) ∙ sym (+ℚ_assoc (a +ℚ k *ℚ s) (k *ℚ l) t) ∙ ap (λ z. z +ℚ t) (moved_term k a l s)

-- the coefficient at e of the last term below the index, times k, and of a product with its monomial
like_at : (k : Fraction) (s : WholeTerm) (q p : Term) (e : Exponents) → q ≡ times_term k [] (term_value s) → q.mono ≡ p.mono →
    coefficient (record { coef = q.coef +ℚ p.coef; mono = q.mono } ∷ []) e ≡ k *ℚ coefficient (term_value s ∷ []) e +ℚ coefficient (p ∷ []) e
like_at k s q p e eq m =
    like_terms q p (q.coef +ℚ p.coef) e m refl
    ∙ ap (λ z. z +ℚ coefficient (p ∷ []) e) (ap (λ (z : Term). coefficient (z ∷ []) e) eq ∙ times-coefficient k (term_value s ∷ []) e)

-- they cancel
pub merged_none : (k : Fraction) (old new : Halves) (left : List WholeTerm) (s : WholeTerm) (q p : Term) → old.below.items ≡ left ++ s ∷ [] →
    q ≡ times_term k [] (term_value s) → q.mono ≡ p.mono → q.coef +ℚ p.coef ≡ zero_ℚ → new.above.items ≡ old.above.items → new.below.items ≡ left →
    IsSumWith k old new p
merged_none k old new left s q p pop eq m z above is x =
    let a : Fraction = coefficient (whole_terms old.above.items) x in
    let l : Fraction = coefficient (whole_terms left) x in
    let t : Fraction = coefficient (term_value s ∷ []) x in
    let b : Fraction = coefficient (p ∷ []) x in
    let none : k *ℚ t +ℚ b ≡ zero_ℚ = sym (like_at k s q p x eq m) ∙ ap (λ (c : Fraction). coefficient (record { coef = c; mono = q.mono } ∷ []) x) z
    ∙ +ℚ-zero (if same x q.mono then zero_ℚ else zero_ℚ) ∙ chosen_zero (same x q.mono) in
    ap (λ (f : List WholeTerm). coefficient (whole_terms f) x +ℚ k *ℚ coefficient (whole_terms new.below.items) x) above
    ∙ ap (λ (f : List WholeTerm). a +ℚ k *ℚ coefficient (whole_terms f) x) is
    ∙ ap (λ y. y +ℚ k *ℚ l) (sym (+ℚ-zero a) ∙ ap (λ y. a +ℚ y) (sym none))
    ∙ arranged k a l t b
    ∙ ap (λ y. (a +ℚ k *ℚ y) +ℚ b) (sym (push_at left old.below.items s pop x))

-- they don't
pub merged_sum : (k : Fraction) (old new : Halves) (left : List WholeTerm) (s r : WholeTerm) (q p : Term) → old.below.items ≡ left ++ s ∷ [] →
    q ≡ times_term k [] (term_value s) → q.mono ≡ p.mono →
    ◌≡◌ {A = Term} (term_value r) (record { coef = q.coef +ℚ p.coef; mono = q.mono }) →
    new.above.items ≡ old.above.items ++ r ∷ [] → new.below.items ≡ left → IsSumWith k old new p
merged_sum k old new left s r q p pop eq m er push is x =
    let a : Fraction = coefficient (whole_terms old.above.items) x in
    let l : Fraction = coefficient (whole_terms left) x in
    let b : Fraction = coefficient (p ∷ []) x in
    ap (λ (f : List WholeTerm). coefficient (whole_terms new.above.items) x +ℚ k *ℚ coefficient (whole_terms f) x) is
    ∙ ap (λ y. y +ℚ k *ℚ l) (push_at old.above.items new.above.items r push x)
    ∙ ap (λ y. (a +ℚ y) +ℚ k *ℚ l) (ap (λ (z : Term). coefficient (z ∷ []) x) er ∙ like_at k s q p x eq m)
    ∙ arranged k a l (coefficient (term_value s ∷ []) x) b
    ∙ ap (λ y. (a +ℚ k *ℚ y) +ℚ b) (sym (push_at left old.below.items s pop x))

-- the number of the sum
pub sum_value : (c a b f : ℤ) → c ≡ a +ℤ b *ℤ f → whole c ≡ whole a +ℚ whole f *ℚ whole b
sum_value c a b f h = ap whole h ∙ whole-+ a (b *ℤ f) ∙ ap (λ z. whole a +ℚ z) (whole-* b f ∙ *ℚ_comm (whole b) (whole f))

-- ---- a term more

pub sum_after_move : (k : Fraction) (old at new : Halves) (t : Term) → IsMoved k old at → IsSumWith k at new t → IsSumWith k old new t
sum_after_move k old at new t m s e = s e ∙ ap (λ z. z +ℚ coefficient (t ∷ []) e) (m e)

pub pushed_sum : (k : Fraction) (old new : Halves) (r : WholeTerm) (t : Term) → term_value r ≡ t → new.above.items ≡ old.above.items ++ r ∷ [] →
    new.below.items ≡ old.below.items → IsSumWith k old new t
pushed_sum k old new r t er push is e =
    let a : Fraction = coefficient (whole_terms old.above.items) e in
    let b : Fraction = k *ℚ coefficient (whole_terms old.below.items) e in
    let c : Fraction = coefficient (t ∷ []) e in
    ap (λ (f : List WholeTerm). coefficient (whole_terms new.above.items) e +ℚ k *ℚ coefficient (whole_terms f) e) is
    ∙ ap (λ y. y +ℚ b) (push_at old.above.items new.above.items r push e ∙ ap (λ (z : Term). a +ℚ coefficient (z ∷ []) e) er)
    ∙ +ℚ_assoc a c b ∙ ap (λ y. a +ℚ y) (+ℚ_comm c b) ∙ sym (+ℚ_assoc a b c)

-- ---- all terms

-- nothing is to be multiplied
pub total_plain : (k : Fraction) (h : Halves) → k ≡ one_ℚ → IsTotal k h h
total_plain k h one e =
    coefficient-++ (whole_terms h.above.items) (whole_terms h.below.items) e
    ∙ ap (λ z. coefficient (whole_terms h.above.items) e +ℚ z)
    (sym (ap (λ z. z *ℚ coefficient (whole_terms h.below.items) e) one ∙ one-*ℚ (coefficient (whole_terms h.below.items) e)))

-- all terms are above the index
pub total_moved : (k : Fraction) (old new : Halves) → IsMoved k old new → new.below.items ≡ [] → IsTotal k old new
total_moved k old new m none e =
    coefficient-++ (whole_terms new.above.items) (whole_terms new.below.items) e
    ∙ ap (λ z. coefficient (whole_terms new.above.items) e +ℚ z)
    (ap (λ (f : List WholeTerm). coefficient (whole_terms f) e) none ∙ sym (*ℚ-zero k)
    ∙ ap (λ (f : List WholeTerm). k *ℚ coefficient (whole_terms f) e) (sym none))
    ∙ m e

-- the last term of the one list goes behind the other one
pub joined_step : (above left below new : List WholeTerm) (t : WholeTerm) → above ≡ left ++ t ∷ [] → new ≡ below ++ t ∷ [] →
    SamePolynomial (whole_terms left ++ whole_terms new) (whole_terms above ++ whole_terms below)
joined_step above left below new t pop push e =
    let l : Fraction = coefficient (whole_terms left) e in
    let b : Fraction = coefficient (whole_terms below) e in
    let c : Fraction = coefficient (term_value t ∷ []) e in
    coefficient-++ (whole_terms left) (whole_terms new) e ∙ ap (λ z. l +ℚ z) (push_at below new t push e ∙ +ℚ_comm b c) ∙ sym (+ℚ_assoc l c b)
    ∙ ap (λ z. z +ℚ b) (sym (push_at left above t pop e)) ∙ sym (coefficient-++ (whole_terms above) (whole_terms below) e)

-- nothing is above
pub joined_end : (above below start : List WholeTerm) (f : Terms) → above ≡ [] → SamePolynomial (whole_terms above ++ whole_terms below) f →
    SamePolynomial (whole_terms below) f
joined_end above below start f none s e = ap (λ (z : List WholeTerm). coefficient (whole_terms z ++ whole_terms below) e) (sym none) ∙ s e

-- a multiple of a polynomial
pub scaled_total : (k : Fraction) (start at : Halves) (terms h : List WholeTerm) → start.above.items ≡ [] → start.below.items ≡ terms → IsTotal k start at →
    SamePolynomial (whole_terms h) (whole_terms at.above.items ++ whole_terms at.below.items) → SamePolynomial (whole_terms h) (times k [] (whole_terms terms))
scaled_total k start at terms h none all t s e =
    s e ∙ t e
    ∙ ap (λ (z : List WholeTerm). coefficient (whole_terms z) e +ℚ k *ℚ coefficient (whole_terms start.below.items) e) none
    ∙ zero-+ℚ (k *ℚ coefficient (whole_terms start.below.items) e)
    ∙ ap (λ (z : List WholeTerm). k *ℚ coefficient (whole_terms z) e) all ∙ sym (times-coefficient k (whole_terms terms) e)

-- ---- the loop

-- what is added up, and the first j terms of g times the multiplier, make k times f and all of g times it
pub record Combining (k m : Fraction) (x : Exponents) (f g : List WholeTerm) (h : Halves) (j : ℕ) : Type 0 where
  pub inside : j ≤ length g
  pub sum : (e : Exponents) → total_at k h e +ℚ coefficient (times m x (whole_terms (take j g))) e ≡
      k *ℚ coefficient (whole_terms f) e +ℚ coefficient (times m x (whole_terms g)) e

pub combining_start : (k m : Fraction) (x : Exponents) (f g : List WholeTerm) (h : Halves) (j : ℕ) → h.above.items ≡ [] → h.below.items ≡ f →
    j ≡ length g → Combining k m x f g h j
combining_start k m x f g h j none all l = record {
  inside = omega (arith, l);
  sum = λ e.
      ap (λ (z : List WholeTerm). total_at k h e +ℚ coefficient (times m x (whole_terms z)) e) (take_all j g (omega (arith, l)))
      ∙ ap (λ z. z +ℚ coefficient (times m x (whole_terms g)) e)
      (ap (λ (z : List WholeTerm). coefficient (whole_terms z) e +ℚ k *ℚ coefficient (whole_terms h.below.items) e) none
      ∙ zero-+ℚ (k *ℚ coefficient (whole_terms h.below.items) e)
      ∙ ap (λ (z : List WholeTerm). k *ℚ coefficient (whole_terms z) e) all);
}

-- the last of these terms is added
pub combining_more : (k m : Fraction) (x : Exponents) (f g : List WholeTerm) (old new : Halves) (j : ℕ) (t : WholeTerm) → 0 < j → t ≡ get_or g (j - 1) t →
    IsSumWith k old new (times_term m x (term_value t)) → Combining k m x f g old j → Combining k m x f g new (j - 1)
combining_more k m x f g old new j t l is s c = record {
  inside = omega (arith, c.inside);
  sum = λ e.
      let r : Fraction = coefficient (times m x (whole_terms (take (j - 1) g))) e in
      let b : Fraction = coefficient (times_term m x (term_value t) ∷ []) e in
      let next : (j - 1) + 1 ≡ j = omega (arith, l) in
      ap (λ z. z +ℚ r) (s e) ∙ +ℚ_assoc (total_at k old e) b r ∙ ap (λ z. total_at k old e +ℚ z)
      (+ℚ_comm b r ∙ sym (coefficient-++ (times m x (whole_terms (take (j - 1) g))) (times_term m x (term_value t) ∷ []) e)
      ∙ ap (λ (z : Terms). coefficient z e)
      (sym (ap (times m x) (values_more g (j - 1) t (omega (arith, l, c.inside)) is) ∙ map_push (times_term m x) (whole_terms (take (j - 1) g)) (term_value t)))
      ∙ ap (λ (n : ℕ). coefficient (times m x (whole_terms (take n g))) e) next)
      ∙ c.sum e;
}

pub combining_end : (k m : Fraction) (x : Exponents) (f g : List WholeTerm) (at last : Halves) (j : ℕ) (h : List WholeTerm) → j ≤ 0 →
    Combining k m x f g at j → IsTotal k at last → SamePolynomial (whole_terms h) (whole_terms last.above.items ++ whole_terms last.below.items) →
    SamePolynomial (whole_terms h) (times k [] (whole_terms f) ++ times m x (whole_terms g))
combining_end k m x f g at last zero h l c t s e =
    s e ∙ t e ∙ sym (+ℚ-zero (total_at k at e)) ∙ c.sum e
    ∙ ap (λ z. z +ℚ coefficient (times m x (whole_terms g)) e) (sym (times-coefficient k (whole_terms f) e))
    ∙ sym (coefficient-++ (times k [] (whole_terms f)) (times m x (whole_terms g)) e)
combining_end k m x f g at last (suc j) h l c t s e = absurd (omega (arith, l))
