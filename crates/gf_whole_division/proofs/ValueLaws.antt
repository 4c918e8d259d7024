-- Terms with whole coefficients, and what they stand for.
-- To cite: length-values, values_push, values_append, first_of_times, rest_of_times, value_of, scaled_value, plain_value, divided_value, raised_value,
-- divided_more,
-- divided_all, last_value, none_more, none_all, differ_by_degree, raised_term, multiple_more, multiple_all, quotient_more, quotients_all, quotient_value,
-- quotient_of, product_more, product_all.
use Rattle.std.specs.Prelude.{◌≡◌, ℕ, zero, suc, ◌+◌, ◌-◌, ◌*◌, ◌<◌, ◌≤◌, Bool, true, false}
use Rattle.std.specs.Prelude.{ℤ, pos, negsuc, ◌*ℤ◌, ◌<ℤ◌, List, [], ◌∷◌, ◌++◌, length, Contains, None}
use Rattle.std.specs.List.{insert}
use Rattle.std.specs.Int.RustNames.{unsigned_abs}
use Rattle.std.proofs.Common.{arith, refl, sym, ap, ◌∙◌, subst, get_or, take, drop}
use Rattle.std.proofs.lemmas.Int.{ints}
use Rattle.std.proofs.lemmas.List.{length-take-le, take_all, take_more, map_push, drop_all, take-append-drop}
use Rattle.gf_frac.specs.Fraction.{Fraction, whole, over, over-eq, ◌+ℚ◌, ◌*ℚ◌, reciprocal_ℚ}
use Rattle.gf_frac.proofs.FractionLaws.{*ℚ_comm, *ℚ_assoc, +ℚ_comm, +ℚ_assoc, one-*ℚ, reciprocal_ℚ-*ℚ, over-*}
use Rattle.gf_exponents_theory.specs.Exponents.{Exponents, same, plus, degree}
use Rattle.gf_exponents_theory.proofs.WeightLaws.{degree-same}
use Rattle.gf_poly.specs.declared.Term.{Term}
use Rattle.gf_poly.specs.Polynomial.{Terms, coefficient, SamePolynomial, times, times_term}
use Rattle.gf_poly.proofs.CoefficientLaws.{head_at}
use Rattle.gf_poly.proofs.MarkingLaws.{nonzero_reciprocal}
use Rattle.gf_poly.proofs.PolynomialLaws.{coefficient-++, coefficient-times}
use Rattle.gf_poly.specs.Marking.{MarkedPolynomial}
use Rattle.gf_ideal_theory.specs.Reduction.{IsDivisible}
use Rattle.gf_ideal_theory.proofs.Identities.{whole-*, den_times, exchange}
use Rattle.gf_ideal_theory.proofs.ListLaws.{Each-++}
use Rattle.gf_division.specs.Reducers.{IsBeside, AreIrreducible}
use Rattle.gf_whole.specs.Common.{IsCommonTo}
use Rattle.gf_whole_division.specs.declared.terms.WholeTerm.{WholeTerm}
use Rattle.gf_whole_division.specs.Values.{term_value, whole_terms, HasNone, IsMultipleOf, IsWholeMultiple}
use Rattle.gf_whole_division.proofs.FactorLaws.{nonzero_whole, multiple_of_times}

pub length-values : (f : List WholeTerm) → length (whole_terms f) ≡ length f
length-values [] = refl
length-values (t ∷ f) = ap suc (length-values f)

pub values_push : (out : List WholeTerm) (r : WholeTerm) → whole_terms (out ++ r ∷ []) ≡ whole_terms out ++ term_value r ∷ []
values_push out r = map_push term_value out r

pub values_append : (f g : List WholeTerm) → whole_terms (f ++ g) ≡ whole_terms f ++ whole_terms g
values_append [] g = refl
values_append (x ∷ f) g = ap (λ (z : Terms). term_value x ∷ z) (values_append f g)

-- ---- multiples, term by term

pub length-times_values : (c : Fraction) (x : Exponents) (f : List WholeTerm) → length (times c x (whole_terms f)) ≡ length f
length-times_values c x [] = refl
length-times_values c x (t ∷ f) = ap suc (length-times_values c x f)

times-at : (c : Fraction) (x : Exponents) (f : List WholeTerm) (i : ℕ) (t : WholeTerm) →
    times_term c x (term_value (get_or f i t)) ≡ get_or (times c x (whole_terms f)) i (times_term c x (term_value t))
times-at c x [] i t = refl
times-at c x (y ∷ f) zero t = refl
times-at c x (y ∷ f) (suc i) t = times-at c x f i t

-- the rest of a multiple begins with a multiple of the term there
pub first_of_times : (c : Fraction) (x : Exponents) (f : List WholeTerm) (i : ℕ) (t : WholeTerm) (r : Term) → i < length f → t ≡ get_or f i t →
    r ≡ times_term c x (term_value t) → drop i (times c x (whole_terms f)) ≡ r ∷ drop (i + 1) (times c x (whole_terms f))
first_of_times c x f i t r l is e =
    head_at (times c x (whole_terms f)) i (times_term c x (term_value t)) (omega (arith, l, length-times_values c x f))
    (ap (λ (z : WholeTerm). times_term c x (term_value z)) is ∙ times-at c x f i t)
    ∙ ap (λ (z : Term). z ∷ drop (i + 1) (times c x (whole_terms f))) (sym e)

pub rest_of_times : (c : Fraction) (x : Exponents) (f : List WholeTerm) (i : ℕ) → length f ≤ i → drop i (times c x (whole_terms f)) ≡ []
rest_of_times c x f i l = drop_all i (times c x (whole_terms f)) (omega (arith, l, length-times_values c x f))

-- a multiple of a term
-- a term, by its number and its monomial
pub value_of : (r : WholeTerm) (c : ℤ) (x : Exponents) → r.kept.value.coef ≡ c → r.kept.value.mono ≡ x →
    ◌≡◌ {A = Term} (term_value r) (record { coef = whole c; mono = x })
value_of r c x ec ex = λ q. record { coef = ap whole ec q; mono = ex q }

pub scaled_value : (t : WholeTerm) (c k : ℤ) → c ≡ t.kept.value.coef *ℤ k →
    ◌≡◌ {A = Term} (record { coef = whole c; mono = t.kept.value.mono }) (times_term (whole k) [] (term_value t))
scaled_value t c k e = λ q. record {
  coef = (ap whole e ∙ whole-* t.kept.value.coef k ∙ *ℚ_comm (whole t.kept.value.coef) (whole k)) q;
  mono = t.kept.value.mono;
}

-- a multiple by 1
pub plain_value : (t : Term) (k : ℤ) → k ≡ pos 1 → t ≡ times_term (whole k) [] t
plain_value t k one = λ q. record { coef = (sym (ap (λ (z : ℤ). whole z *ℚ t.coef) one ∙ one-*ℚ t.coef)) q; mono = t.mono }

pub divided_value : (t r : WholeTerm) (c k : ℤ) (x : Exponents) → t.kept.value.coef ≡ k *ℤ c → x ≡ t.kept.value.mono → r.kept.value.coef ≡ c →
    r.kept.value.mono ≡ x → term_value t ≡ times_term (whole k) [] (term_value r)
divided_value t r c k x e m ec ex =
    λ q. record { coef = (ap whole e ∙ whole-* k c ∙ ap (λ (z : ℤ). whole k *ℚ whole z) (sym ec)) q; mono = (sym m ∙ sym ex) q }

pub raised_value : (t r : WholeTerm) (c k : ℤ) (u x : Exponents) → c ≡ t.kept.value.coef *ℤ k → x ≡ plus u t.kept.value.mono → r.kept.value.coef ≡ c →
    r.kept.value.mono ≡ x → term_value r ≡ times_term (whole k) u (term_value t)
raised_value t r c k u x e m ec ex = λ q. record {
  coef = (ap whole ec ∙ ap whole e ∙ whole-* t.kept.value.coef k ∙ *ℚ_comm (whole t.kept.value.coef) (whole k)) q;
  mono = (ex ∙ m) q;
}

pub values_more : (f : List WholeTerm) (i : ℕ) (t : WholeTerm) → i < length f → t ≡ get_or f i t →
    whole_terms (take (i + 1) f) ≡ whole_terms (take i f) ++ term_value t ∷ []
values_more f i t l is =
    ap whole_terms (take_more f i t l) ∙ values_push (take i f) (get_or f i t) ∙ ap (λ (z : WholeTerm). whole_terms (take i f) ++ term_value z ∷ []) (sym is)

pub divided_more : (k : Fraction) (f out new : List WholeTerm) (i : ℕ) (t r : WholeTerm) → i < length f → t ≡ get_or f i t →
    term_value t ≡ times_term k [] (term_value r) → new ≡ out ++ r ∷ [] → whole_terms (take i f) ≡ times k [] (whole_terms out) →
    whole_terms (take (i + 1) f) ≡ times k [] (whole_terms new)
divided_more k f out new i t r l is e push inv =
    values_more f i t l is ∙ ap (λ (z : Terms). z ++ term_value t ∷ []) inv ∙ ap (λ (z : Term). times k [] (whole_terms out) ++ z ∷ []) e
    ∙ sym
    (ap (λ (z : List WholeTerm). times k [] (whole_terms z)) push ∙ ap (times k []) (values_push out r) ∙ map_push (times_term k []) (whole_terms out)
    (term_value r))

pub divided_all : (k : Fraction) (f out : List WholeTerm) (i : ℕ) → length f ≤ i → whole_terms (take i f) ≡ times k [] (whole_terms out) →
    whole_terms f ≡ times k [] (whole_terms out)
divided_all k f out i l e = sym (ap whole_terms (take_all i f l)) ∙ e

-- ---- indices

-- the last term
pub last_value : (f : List WholeTerm) (i : ℕ) (t : WholeTerm) → i + 1 ≡ length f → t ≡ get_or f i t → f ≡ take i f ++ t ∷ []
last_value f i t l is =
    sym (take_all (i + 1) f (omega (arith, l))) ∙ take_more f i t (omega (arith, l)) ∙ ap (λ (z : WholeTerm). take i f ++ z ∷ []) (sym is)

-- no term up to an index has the monomial, nor that there
pub none_more : (x : Exponents) (f : List WholeTerm) (i : ℕ) (t : WholeTerm) → i < length f → t ≡ get_or f i t → same x t.kept.value.mono ≡ false →
    HasNone x (whole_terms (take i f)) → HasNone x (whole_terms (take (i + 1) f))
none_more x f i t l is n h =
    subst (HasNone x) (sym (values_more f i t l is)) (Each-++ (λ (s : Term). same x s.mono ≡ false) (whole_terms (take i f)) (term_value t ∷ []) h (n, tt))

pub none_all : (x : Exponents) (f : List WholeTerm) (i : ℕ) → length f ≤ i → HasNone x (whole_terms (take i f)) → HasNone x (whole_terms f)
none_all x f i l h = subst (λ (z : List WholeTerm). HasNone x (whole_terms z)) (take_all i f l) h

-- monomials of two degrees
pub differ_by_degree : (x y : Exponents) → (degree x ≡ degree y → ⊥) → same x y ≡ false
differ_by_degree x y n = decided (same x y) refl
  where
    decided : (b : Bool) → same x y ≡ b → b ≡ false
    decided true h = absurd (n (degree-same x y h))
    decided false h = refl

-- ---- a whole multiple of a polynomial with fractions

-- of one term
pub raised_term : (t : Term) (by d n s c : ℤ) (x : Exponents) → d ≡ pos t.coef.den → n ≡ t.coef.num → by ≡ d *ℤ s → c ≡ n *ℤ s → x ≡ t.mono →
    ◌≡◌ {A = Term} (record { coef = whole c; mono = x }) (times_term (whole by) [] t)
raised_term t by d n s c x ed en eb ec ex = λ q. record { coef = value q; mono = ex q }
  where
    value : whole c ≡ whole by *ℚ t.coef
    value =
        ap whole ec ∙ whole-* n s ∙ *ℚ_comm (whole n) (whole s)
        ∙ ap (λ z. whole s *ℚ z) (ap whole en ∙ sym (den_times t.coef) ∙ ap (λ z. whole z *ℚ t.coef) (sym ed))
        ∙ sym (exchange (whole d) (whole s) t.coef) ∙ ap (λ z. z *ℚ t.coef) (sym (whole-* d s) ∙ ap whole (sym eb))

-- a term put in anywhere
pub inserted : (f g : List WholeTerm) (i : ℕ) (t : WholeTerm) → g ≡ insert f i t → (e : Exponents) →
    coefficient (whole_terms g) e ≡ coefficient (whole_terms f) e +ℚ coefficient (term_value t ∷ []) e
inserted f g i t p e =
    ap (λ (z : Terms). coefficient z e) (ap whole_terms p ∙ values_append (take i f) (t ∷ drop i f))
    ∙ coefficient-++ (whole_terms (take i f)) (term_value t ∷ whole_terms (drop i f)) e
    ∙ ap (λ z. coefficient (whole_terms (take i f)) e +ℚ z)
    (coefficient-++ (term_value t ∷ []) (whole_terms (drop i f)) e ∙ +ℚ_comm (coefficient (term_value t ∷ []) e) (coefficient (whole_terms (drop i f)) e))
    ∙ sym (+ℚ_assoc (coefficient (whole_terms (take i f)) e) (coefficient (whole_terms (drop i f)) e) (coefficient (term_value t ∷ []) e))
    ∙ ap (λ z. z +ℚ coefficient (term_value t ∷ []) e)
    (sym (coefficient-++ (whole_terms (take i f)) (whole_terms (drop i f)) e) ∙ ap (λ (z : Terms). coefficient z e)
    (sym (values_append (take i f) (drop i f)) ∙ ap whole_terms (take-append-drop i f)))

-- one term more of a multiple, put in anywhere
pub multiple_more : (k : ℤ) (f : Terms) (out new : List WholeTerm) (i p : ℕ) (t : Term) (r : WholeTerm) → i < length f → t ≡ get_or f i t →
    term_value r ≡ times_term (whole k) [] t → new ≡ insert out p r → SamePolynomial (whole_terms out) (times (whole k) [] (take i f)) →
    SamePolynomial (whole_terms new) (times (whole k) [] (take (i + 1) f))
multiple_more k f out new i p t r l is e push inv y =
    inserted out new p r push y ∙ ap (λ z. z +ℚ coefficient (term_value r ∷ []) y) (inv y)
    ∙ ap (λ (z : Term). coefficient (times (whole k) [] (take i f)) y +ℚ coefficient (z ∷ []) y) (e ∙ ap (times_term (whole k) []) is)
    ∙ sym (coefficient-++ (times (whole k) [] (take i f)) (times_term (whole k) [] (get_or f i t) ∷ []) y)
    ∙ ap (λ (z : Terms). coefficient z y) (sym (ap (times (whole k) []) (take_more f i t l) ∙ map_push (times_term (whole k) []) (take i f) (get_or f i t)))

pub multiple_all : (k : ℤ) (f : Terms) (out : List WholeTerm) (i : ℕ) → (k ≡ pos 0 → ⊥) → length f ≤ i →
    SamePolynomial (whole_terms out) (times (whole k) [] (take i f)) → IsWholeMultiple k out f
multiple_all k f out i n l inv =
    record {
      nonzero = n;
      scaled = λ e. inv e ∙ ap (λ (z : Terms). coefficient (times (whole k) [] z) e) (take_all i f l) ∙ coefficient-times (whole k) [] f
          e;
    }

-- ---- in narrow numbers

-- the quotient of one coefficient more
pub quotient_more : (k : ℤ) (f : List WholeTerm) (out new : Terms) (i : ℕ) (t : WholeTerm) (x : Fraction) (m : Exponents) → (k ≡ pos 0 → ⊥) → i < length f →
    t ≡ get_or f i t → whole t.kept.value.coef ≡ whole k *ℚ x → m ≡ t.kept.value.mono → new ≡ out ++ record { coef = x; mono = m } ∷ [] →
    out ≡ times (reciprocal_ℚ (whole k)) [] (whole_terms (take i f)) → new ≡ times (reciprocal_ℚ (whole k)) [] (whole_terms (take (i + 1) f))
quotient_more k f out new i t x m n l is ex em push inv =
    let s : Term = record { coef = x; mono = m } in
    let back : x ≡ reciprocal_ℚ (whole k) *ℚ whole t.kept.value.coef =
    sym (one-*ℚ x) ∙ ap (λ z. z *ℚ x) (sym (reciprocal_ℚ-*ℚ (whole k) (nonzero_whole k n))) ∙ *ℚ_assoc (reciprocal_ℚ (whole k)) (whole k) x ∙ ap
    (λ z. reciprocal_ℚ (whole k) *ℚ z) (sym ex) in
    let e : s ≡ times_term (reciprocal_ℚ (whole k)) [] (term_value t) = λ q. record { coef = back q; mono = em q } in
    push ∙ ap (λ (z : Terms). z ++ s ∷ []) inv ∙ ap (λ (z : Term). times (reciprocal_ℚ (whole k)) [] (whole_terms (take i f)) ++ z ∷ []) e
    ∙ sym
    (ap (times (reciprocal_ℚ (whole k)) []) (values_more f i t l is) ∙ map_push (times_term (reciprocal_ℚ (whole k)) []) (whole_terms (take i f))
    (term_value t))

pub quotients_all : (k : ℤ) (f : List WholeTerm) (out p : Terms) (i : ℕ) → (k ≡ pos 0 → ⊥) → length f ≤ i → SamePolynomial p out →
    out ≡ times (reciprocal_ℚ (whole k)) [] (whole_terms (take i f)) → IsMultipleOf (whole_terms f) p
quotients_all k f out p i n l s e = multiple_of_times (reciprocal_ℚ (whole k)) (whole_terms f) p (nonzero_reciprocal (whole k) (nonzero_whole k n))
    (λ y. s y ∙ ap (λ (z : Terms). coefficient z y) (e ∙ ap (λ (z : List WholeTerm). times (reciprocal_ℚ (whole k)) [] (whole_terms z)) (take_all i f l)))

-- a quotient of whole numbers
pub quotient_value : (a b g p q : ℤ) (x : Fraction) → IsCommonTo a b g p q → pos 0 <ℤ q → x ≡ over p (unsigned_abs q - 1) → whole a ≡ whole b *ℚ x
quotient_value a b g p q x c h e =
    ap whole c.first ∙ whole-* g p ∙ ap (λ z. whole g *ℚ z) (sym (back q h))
    ∙ sym (*ℚ_assoc (whole g) (whole q) (over p (unsigned_abs q - 1))) ∙ ap (λ z. z *ℚ over p (unsigned_abs q - 1)) (sym (ap whole c.second ∙ whole-* g q))
    ∙ ap (λ z. whole b *ℚ z) (sym e)
  where
    crossed : (d : ℕ) → 0 < d → (pos d *ℤ p) *ℤ pos 1 ≡ p *ℤ pos (suc (0 * (d - 1) + 0 + (d - 1)))
    crossed d h = let e : suc (0 * (d - 1) + 0 + (d - 1)) ≡ d = omega arith in rw e (swap d p)
      where
        swap : (d : ℕ) (n : ℤ) → (pos d *ℤ n) *ℤ pos 1 ≡ n *ℤ pos d
        swap d n = omega (arith, ints)

    back : (q : ℤ) → pos 0 <ℤ q → whole q *ℚ over p (unsigned_abs q - 1) ≡ whole p
    back (pos zero) h = absurd (omega (arith, ints, h))
    back (pos (suc d)) h = over-* (pos (suc d)) p 0 (suc d - 1) ∙ over-eq _ _ _ _ (crossed (suc d) (omega arith))
    back (negsuc d) h = absurd (omega (arith, ints, h))

-- the same, of the numbers as they are read
pub quotient_of : (a b g p q n d : ℤ) (x : Fraction) → IsCommonTo a b g p q → n ≡ p → d ≡ q → pos 0 <ℤ d → x ≡ over n (unsigned_abs d - 1) →
    whole a ≡ whole b *ℚ x
quotient_of a b g p q n d x c en ed h e =
    quotient_value a b g p q x c (subst (λ z. pos 0 <ℤ z) ed h) (e ∙ ap (λ z. over z (unsigned_abs d - 1)) en ∙ ap (λ z. over p (unsigned_abs z - 1)) ed)

-- ---- irreducible terms

-- one more that no mark divides
pub irreducible_more : (bs : List MarkedPolynomial) (f : List WholeTerm) (i : ℕ) (t : WholeTerm) → i < length f → t ≡ get_or f i t →
    (IsDivisible (Contains bs) t.kept.value.mono → ⊥) → AreIrreducible bs None (whole_terms (take i f)) → AreIrreducible bs None (whole_terms (take (i + 1) f))
irreducible_more bs f i t l is n h =
    subst (AreIrreducible bs None) (sym (values_more f i t l is))
    (Each-++ (λ (s : Term). IsBeside None s.mono → IsDivisible (Contains bs) s.mono → ⊥) (whole_terms (take i f)) (term_value t ∷ []) h ((λ _ d. n d), tt))

-- ---- products of monomials

-- one entry more of both
plus_push : (u v : Exponents) (b c : ℕ) → length u ≡ length v → plus (u ++ b ∷ []) (v ++ c ∷ []) ≡ plus u v ++ (b + c) ∷ []
plus_push [] [] b c l = refl
plus_push [] (q ∷ v) b c l = absurd (omega (arith, l))
plus_push (p ∷ u) [] b c l = absurd (omega (arith, l))
plus_push (p ∷ u) (q ∷ v) b c l = ap (λ (z : Exponents). (p + q) ∷ z) (plus_push u v b c (omega (arith, l)))

-- the entries up to an index, and that there
pub product_more : (x y z : Exponents) (i : ℕ) → i < length x → length x ≡ length y → length x ≡ length z → get_or x i 0 ≡ get_or y i 0 + get_or z i 0 →
    take i x ≡ plus (take i y) (take i z) → take (i + 1) x ≡ plus (take (i + 1) y) (take (i + 1) z)
product_more x y z i l ly lz e h =
    take_more x i 0 l ∙ ap (λ (w : Exponents). w ++ get_or x i 0 ∷ []) h ∙ ap (λ (k : ℕ). plus (take i y) (take i z) ++ k ∷ []) e
    ∙ sym
    (plus_push (take i y) (take i z) (get_or y i 0) (get_or z i 0)
    (length-take-le i y (omega (arith, l, ly)) ∙ sym (length-take-le i z (omega (arith, l, lz)))))
    ∙ ap (λ (w : Exponents). plus w (take i z ++ get_or z i 0 ∷ [])) (sym (take_more y i 0 (omega (arith, l, ly))))
    ∙ ap (plus (take (i + 1) y)) (sym (take_more z i 0 (omega (arith, l, lz))))

-- all of them
pub product_all : (x y z : Exponents) (i : ℕ) → length x ≤ i → length x ≡ length y → length x ≡ length z → take i x ≡ plus (take i y) (take i z) →
    x ≡ plus y z
product_all x y z i l ey ez h =
    sym (take_all i x l) ∙ h ∙ ap (λ (w : Exponents). plus w (take i z)) (take_all i y (omega (arith, l, ey))) ∙
    ap (plus y) (take_all i z (omega (arith, l, ez)))
