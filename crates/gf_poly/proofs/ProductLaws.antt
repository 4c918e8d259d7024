-- Products of a descending list with a term, term by term.
-- To cite: Multiplying-start, multiplied_at, HasProducts-end, fits_at_end, first_term, and what the result is:
-- IsDescending-products, IsDescending-scaled, SamePolynomial-products, IsScaled-products, HasVariables-products.
use Rattle.std.specs.Prelude.{◌≡◌, ◌≢◌, ◌⊎◌, ℕ, zero, suc, ◌+◌, ◌<◌, ◌≤◌, [], ◌∷◌, ◌++◌, length, Contains, Result, Ok, Err, IfOk}
use Rattle.std.specs.Ordering.{nat_cmp, ordering_then, MatchOrdering}
use Rattle.std.specs.Cmp.{nat_cmp_is}
use Rattle.std.proofs.lemmas.Cmp.{ranked}
use Rattle.std.specs.Cmp.Lexicographic.{slice_cmp}
use Rattle.std.specs.declared.cmp.Ordering.{Ordering}
use Rattle.std.specs.declared.cmp.Ordering.TheVariants.{Greater, Less, Equal}
use Rattle.std.proofs.Common.{arith, refl, sym, ap, subst, ◌∙◌, inl, inr, drop, get_or, append_assoc}
use Rattle.std.proofs.lemmas.List.{drop_all}
use Rattle.gf_frac.specs.Fraction.{Fraction, ◌*ℚ◌, reciprocal_ℚ, zero_ℚ, one_ℚ}
use Rattle.gf_frac.proofs.FractionLaws.{zero-*ℚ, zero_of_*ℚ, zero_or_not, *ℚ_comm}
use Rattle.gf_exponents_theory.specs.Exponents.{Exponents, plus, degree}
use Rattle.gf_exponents_theory.specs.Orders.{deglex}
use Rattle.gf_exponents_theory.proofs.WeightLaws.{degree-plus}
use Rattle.gf_poly.specs.declared.Term.{Term}
use Rattle.gf_poly.specs.Polynomial.{Terms, coefficient, times, times_term, SamePolynomial, IsAbove, IsDescending, HasVariables, KeepsVariables}
use Rattle.gf_poly.specs.Sums.{PushesNonzero}
use Rattle.gf_frac.specs.Fits.{FitsMul}
use Rattle.gf_frac.specs.declared.refusal.Overflow.{Overflow}
use Rattle.gf_frac.specs.declared.refusal.Op.TheVariants.{Mul}
use Rattle.gf_poly.specs.declared.monomial.ExponentOverflow.{ExponentOverflow}
use Rattle.gf_poly.specs.declared.products.Scaling.{Scaling}
use Rattle.gf_poly.specs.Monomial.{IsFirstOverflow}
use Rattle.gf_poly.specs.Products.{HasProducts, IsScaled, TermFits, IsFirstTerm, IsProductOverflow, IsProductExponent, ScaleFits, HasOperands, IsScaleOverflow}
use Rattle.gf_poly.specs.Products.{factor}
use Rattle.gf_poly.proofs.MonomialLaws.{length-plus}
use Rattle.gf_poly.proofs.PolynomialLaws.{coefficient-factor, coefficient-times}
use Rattle.gf_poly.proofs.DescendingLaws.{never_greater, greater_trans, Contains-cons, Contains-none, IsAbove-contains}
use Rattle.gf_poly.proofs.CoefficientLaws.{head_at}

-- ---- what a loop over the terms has done
-- out has the products so far, and fs is left
pub record Multiplying (fits : Term → Type 0) (c : Fraction) (u : Exponents) (f out fs : Terms) : Type 0 where
  pub nonzero : c ≢ zero_ℚ → out ++ times c u fs ≡ times c u f
  pub zero : c ≡ zero_ℚ → out ≡ []
  pub descending : IsDescending fs
  pub fit : (t : Term) → Contains f t → fits t ⊎ Contains fs t

one_more : (fits : Term → Type 0) (c : Fraction) (u : Exponents) (f out new fs : Terms) (t : Term) → fits t → PushesNonzero out new (times_term c u t) →
    Multiplying fits c u f out (t ∷ fs) → Multiplying fits c u f new fs
one_more fits c u f out new fs t w p m = record {
  nonzero = λ n. pushed n p ∙ m.nonzero n;
  zero = λ z. nothing z p ∙ m.zero z;
  descending = m.descending.2;
  fit = λ s h. elim (m.fit s h) [
    | inl y ↦ inl y
    | inr y ↦ elim (Contains-cons fs s t y) [ inl e ↦ inl (subst fits (sym e) w) | inr r ↦ inr r ]
  ];
}
  where
    pushed : c ≢ zero_ℚ → PushesNonzero out new (times_term c u t) → new ++ times c u fs ≡ out ++ times c u (t ∷ fs)
    pushed n (inl q) = absurd (elim (zero_of_*ℚ c t.coef q.0) [ inl z ↦ n z | inr z ↦ m.descending.0 z ])
    pushed n (inr q) = ap (λ z. z ++ times c u fs) q.1 ∙ append_assoc out (times_term c u t ∷ []) (times c u fs)

    nothing : c ≡ zero_ℚ → PushesNonzero out new (times_term c u t) → new ≡ out
    nothing z (inl q) = q.1
    nothing z (inr q) = absurd (q.0 (ap (λ x. x *ℚ t.coef) z ∙ zero-*ℚ t.coef))

pub multiplied_at : (fits : Term → Type 0) (c : Fraction) (u : Exponents) (f out new : Terms) (i : ℕ) (t : Term) (x : Fraction) (m : Exponents) → i < length f →
    t ≡ get_or f i t → x ≡ c *ℚ t.coef → m ≡ plus u t.mono → fits t → PushesNonzero out new (record { coef = x; mono = m }) →
    Multiplying fits c u f out (drop i f) → Multiplying fits c u f new (drop (i + 1) f)
multiplied_at fits c u f out new i t x m h is value product w p l =
    let r : Term = record { coef = x; mono = m } in
    let e : r ≡ times_term c u t = λ q. record { coef = value q; mono = product q } in
    one_more fits c u f out new (drop (i + 1) f) t w (subst (PushesNonzero out new) e p) (subst (Multiplying fits c u f out) (head_at f i t h is) l)

pub fits_at_end : (fits : Term → Type 0) (c : Fraction) (u : Exponents) (f out : Terms) (i : ℕ) → length f ≤ i → Multiplying fits c u f out (drop i f) →
    (t : Term) → Contains f t → fits t
fits_at_end fits c u f out i h l t k =
    let m : Multiplying fits c u f out [] = subst (Multiplying fits c u f out) (drop_all i f h) l in
    elim (m.fit t k) [ inl y ↦ y | inr y ↦ absurd (Contains-none t y) ]

-- those before the term at i fit
pub before_at : (fits : Term → Type 0) (c : Fraction) (u : Exponents) (f out : Terms) (i : ℕ) (t : Term) → i < length f → t ≡ get_or f i t →
    Multiplying fits c u f out (drop i f) → (s : Term) → Contains f s → deglex s.mono t.mono ≡ Greater → fits s
before_at fits c u f out i t h is l s k o =
    let m : Multiplying fits c u f out (t ∷ drop (i + 1) f) = subst (Multiplying fits c u f out) (head_at f i t h is) l in
    elim (m.fit s k) [
      | inl y ↦ y
      | inr y ↦ absurd (later (drop (i + 1) f) m.descending.1 y)
    ]
  where
    later : (fs : Terms) → IsAbove t.mono fs → Contains (t ∷ fs) s → ⊥
    later fs a y = elim (Contains-cons fs s t y) [
      | inl e ↦ never_greater t.mono (subst (λ (z : Term). deglex z.mono t.mono ≡ Greater) e o)
      | inr r ↦ never_greater s.mono (greater_trans s.mono t.mono s.mono o (IsAbove-contains t.mono fs s a r))
    ]

-- ---- products keep the order
cmp-plus : (a b c : ℕ) → nat_cmp (a + b) (a + c) ≡ nat_cmp b c
cmp-plus a b c = sym (nat_cmp_is (a + b) (a + c) (nat_cmp b c) (shift (nat_cmp b c) (ranked b c (nat_cmp b c) refl)))
  where
    shift : (o : Ordering) → MatchOrdering o (b < c) (b ≡ c) (c < b) → MatchOrdering o (a + b < a + c) (a + b ≡ a + c) (a + c < a + b)
    shift Less h = omega arith
    shift Equal h = omega arith
    shift Greater h = omega arith

lex-plus : (u x y : Exponents) → length u ≡ length x → length x ≡ length y → slice_cmp nat_cmp (plus u x) (plus u y) ≡ slice_cmp nat_cmp x y
lex-plus [] [] [] h k = refl
lex-plus [] [] (c ∷ y) h k = absurd (omega arith)
lex-plus [] (b ∷ x) y h k = absurd (omega arith)
lex-plus (a ∷ u) [] y h k = absurd (omega arith)
lex-plus (a ∷ u) (b ∷ x) [] h k = absurd (omega arith)
lex-plus (a ∷ u) (b ∷ x) (c ∷ y) h k = ap (λ o. ordering_then o (slice_cmp nat_cmp (plus u x) (plus u y))) (cmp-plus a b c) ∙ ap (ordering_then (nat_cmp b c))
    (lex-plus u x y (omega arith) (omega arith))

pub deglex-plus : (u x y : Exponents) → length u ≡ length x → length x ≡ length y → deglex (plus u x) (plus u y) ≡ deglex x y
deglex-plus u x y h k =
    ap (λ o. ordering_then o (slice_cmp nat_cmp (plus u x) (plus u y))) (ap (λ z. nat_cmp z (degree (plus u y))) (degree-plus u x) ∙
    ap (nat_cmp (degree u + degree x)) (degree-plus u y) ∙ cmp-plus (degree u) (degree x) (degree y))
    ∙ ap (ordering_then (nat_cmp (degree x) (degree y))) (lex-plus u x y h k)

IsAbove-times : (c : Fraction) (u x : Exponents) (f : Terms) → length x ≡ length u → HasVariables (length u) f → IsAbove x f → IsAbove (plus u x) (times c u f)
IsAbove-times c u x [] l h a = tt
IsAbove-times c u x (t ∷ f) l h a = (deglex-plus u x t.mono (sym l) (l ∙ sym h.0) ∙ a.0, IsAbove-times c u x f l h.1 a.1)

pub nonzero_product : (c d : Fraction) → c ≢ zero_ℚ → d ≢ zero_ℚ → c *ℚ d ≢ zero_ℚ
nonzero_product c d h k z = elim (zero_of_*ℚ c d z) [ inl e ↦ h e | inr e ↦ k e ]

IsDescending-times : (c : Fraction) (u : Exponents) (f : Terms) → c ≢ zero_ℚ → HasVariables (length u) f → IsDescending f → IsDescending (times c u f)
IsDescending-times c u [] n h d = tt
IsDescending-times c u (t ∷ f) n h d = (nonzero_product c t.coef n d.0, IsAbove-times c u t.mono f h.0 h.1 d.1, IsDescending-times c u f n h.1 d.2)

pub IsDescending-products : (c : Fraction) (u : Exponents) (f h : Terms) → HasVariables (length u) f → IsDescending f → HasProducts c u f h → IsDescending h
IsDescending-products c u f h v d p = elim (zero_or_not c) [
  | inl z ↦ subst IsDescending (sym (p.zero z)) tt
  | inr n ↦ subst IsDescending (sym (p.nonzero n)) (IsDescending-times c u f n v d)
]

HasVariables-times : (c : Fraction) (u : Exponents) (f : Terms) → HasVariables (length u) f → HasVariables (length u) (times c u f)
HasVariables-times c u [] h = tt
HasVariables-times c u (t ∷ f) h = (length-plus u t.mono (sym h.0), HasVariables-times c u f h.1)

pub HasVariables-products : (c : Fraction) (u : Exponents) (f h : Terms) → HasVariables (length u) f → HasProducts c u f h → HasVariables (length u) h
HasVariables-products c u f h v p = elim (zero_or_not c) [
  | inl z ↦ subst (HasVariables (length u)) (sym (p.zero z)) tt
  | inr n ↦ subst (HasVariables (length u)) (sym (p.nonzero n)) (HasVariables-times c u f v)
]

pub SamePolynomial-products : (c : Fraction) (u : Exponents) (f h : Terms) → HasProducts c u f h → SamePolynomial h (times c u f)
SamePolynomial-products c u f h p e = elim (zero_or_not c) [
  | inl z ↦ ap (λ g. coefficient g e) (p.zero z) ∙ sym (coefficient-factor c u f e ∙ ap (λ x. x *ℚ coefficient (times one_ℚ u f) e) z ∙ zero-*ℚ _)
  | inr n ↦ ap (λ g. coefficient g e) (p.nonzero n)
]

-- ---- with a fraction
IsAbove-scaled : (c : Fraction) (x : Exponents) (f : Terms) → IsAbove x f → IsAbove x (times c [] f)
IsAbove-scaled c x [] a = tt
IsAbove-scaled c x (t ∷ f) a = (a.0, IsAbove-scaled c x f a.1)

IsDescending-scale : (c : Fraction) (f : Terms) → c ≢ zero_ℚ → IsDescending f → IsDescending (times c [] f)
IsDescending-scale c [] n d = tt
IsDescending-scale c (t ∷ f) n d = (nonzero_product c t.coef n d.0, IsAbove-scaled c t.mono f d.1, IsDescending-scale c f n d.2)

pub IsDescending-scaled : (c : Fraction) (f h : Terms) → IsDescending f → HasProducts c [] f h → IsDescending h
IsDescending-scaled c f h d p = elim (zero_or_not c) [
  | inl z ↦ subst IsDescending (sym (p.zero z)) tt
  | inr n ↦ subst IsDescending (sym (p.nonzero n)) (IsDescending-scale c f n d)
]

pub HasVariables-scale : (n : ℕ) (c : Fraction) (f : Terms) → HasVariables n f → HasVariables n (times c [] f)
HasVariables-scale n c [] h = tt
HasVariables-scale n c (t ∷ f) h = (h.0, HasVariables-scale n c f h.1)

pub KeepsVariables-scaled : (c : Fraction) (f h : Terms) → HasProducts c [] f h → KeepsVariables f h
KeepsVariables-scaled c f h p = record {
  at = λ n v. elim (zero_or_not c) [
    | inl z ↦ subst (HasVariables n) (sym (p.zero z)) tt
    | inr k ↦ subst (HasVariables n) (sym (p.nonzero k)) (HasVariables-scale n c f v)
  ];
}

pub IsScaled-products : (c : Fraction) (f h : Terms) → HasProducts c [] f h → IsScaled c f h
IsScaled-products c f h p e = SamePolynomial-products c [] f h p e ∙ coefficient-times c [] f e

-- ---- indices
pub HasVariables-at : (n : ℕ) (f : Terms) (i : ℕ) (t : Term) → i < length f → t ≡ get_or f i t → HasVariables n f → length t.mono ≡ n
HasVariables-at n [] i t h is v = absurd (omega arith)
HasVariables-at n (s ∷ f) zero t h is v = ap (λ (z : Term). length z.mono) is ∙ v.0
HasVariables-at n (s ∷ f) (suc i) t h is v = HasVariables-at n f i t (omega arith) is v.1

-- a quotient, as the product with the reciprocal in front
pub quotient_turned : {E : Type 0} (c k : Fraction) (r : Result Fraction E) → IfOk r (λ x. x ≡ c *ℚ reciprocal_ℚ k) → IfOk r (λ x. x ≡ reciprocal_ℚ k *ℚ c)
quotient_turned c k (Ok x) h = h ∙ *ℚ_comm c (reciprocal_ℚ k)
quotient_turned c k (Err e) h = h

-- ---- refusals
pub scale_overflow_at : (kind : Scaling) (k : Fraction) (f out : Terms) (i : ℕ) (t : Term) (o : Overflow) → i < length f → t ≡ get_or f i t →
    HasOperands kind k t.coef o → ¬ (ScaleFits kind k t.coef) → Multiplying (λ (s : Term). ScaleFits kind k s.coef) (factor kind k) [] f out (drop i f) →
    IsScaleOverflow kind k f o
scale_overflow_at kind k f out i t o h is w n m = record {
  term = t;
  inside = (i, h, sym is);
  operands = w;
  leaves = n;
  before = before_at (λ (s : Term). ScaleFits kind k s.coef) (factor kind k) [] f out i t h is m;
}

first_at : (c : Fraction) (u : Exponents) (f out : Terms) (i : ℕ) (t : Term) → i < length f → t ≡ get_or f i t →
    Multiplying (TermFits c u) c u f out (drop i f) → IsFirstTerm c u f t
first_at c u f out i t h is m = record { inside = (i, h, sym is); before = before_at (TermFits c u) c u f out i t h is m }

pub product_overflow_at : (c : Fraction) (u : Exponents) (f out : Terms) (i : ℕ) (t : Term) (o : Overflow) → i < length f → t ≡ get_or f i t →
    o ≡ record { op = Mul; left = c; right = t.coef } → ¬ (FitsMul c t.coef) → Multiplying (TermFits c u) c u f out (drop i f) → IsProductOverflow c u f o
product_overflow_at c u f out i t o h is e n m = subst (IsProductOverflow c u f) (sym e) (record {
  operation = refl;
  left = refl;
  term = t;
  first = first_at c u f out i t h is m;
  right = refl;
  leaves = n;
})

pub product_exponent_at : (c : Fraction) (u : Exponents) (f out : Terms) (i : ℕ) (t : Term) (o : ExponentOverflow) → i < length f → t ≡ get_or f i t →
    FitsMul c t.coef → IsFirstOverflow u t.mono o → Multiplying (TermFits c u) c u f out (drop i f) → IsProductExponent c u f o
product_exponent_at c u f out i t o h is w v m = record { term = t; first = first_at c u f out i t h is m; coefficient_fits = w; overflow = v }
