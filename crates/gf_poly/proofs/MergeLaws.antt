-- One step of a merge of two descending lists, the second with a sign.
-- To cite: at_left, at_right, at_both, at_end, fits_at_end, overflow_at. The rest are steps.
use Rattle.std.specs.Prelude.{◌≡◌, ◌≢◌, ◌⊎◌, ℕ, ◌+◌, ◌≤◌, ◌<◌, [], ◌∷◌, ◌++◌, length, if◌then◌else◌, true, false, Bool, Contains}
use Rattle.std.specs.declared.cmp.Ordering.TheVariants.{Greater, Equal}
use Rattle.std.proofs.Common.{refl, sym, ap, ◌∙◌, subst, drop, get_or, inl, inr}
use Rattle.std.proofs.lemmas.List.{drop_all}
use Rattle.gf_frac.specs.Fraction.{Fraction, ◌+ℚ◌, neg_ℚ, zero_ℚ}
use Rattle.gf_frac.specs.Fits.{Fits}
use Rattle.gf_frac.specs.declared.refusal.Overflow.{Overflow}
use Rattle.gf_frac.proofs.FractionLaws.{+ℚ_assoc, +ℚ_comm, +ℚ-zero, zero-+ℚ, +ℚ-middle, +ℚ-neg_ℚ, neg_ℚ-+ℚ, neg_ℚ-neg_ℚ}
use Rattle.gf_exponents_theory.specs.Exponents.{Exponents, same}
use Rattle.gf_exponents_theory.specs.Orders.{deglex}
use Rattle.gf_poly.specs.declared.Term.{Term}
use Rattle.gf_poly.specs.declared.merge.Sign.{Sign}
use Rattle.gf_poly.specs.declared.merge.Sign.TheVariants.{Plus, Minus}
use Rattle.gf_poly.specs.Polynomial.{Terms, coefficient, IsAbove, IsDescending, HasVariables}
use Rattle.gf_poly.specs.Sums.{operation, signed, IsSignedSum, AreLike, IsLikeOverflow, PushesNonzero}
use Rattle.gf_poly.proofs.PolynomialLaws.{coefficient-++}
use Rattle.gf_poly.proofs.DescendingLaws.{never_greater, greater_trans, equal_same, Contains-cons, IsAbove-from, IsAbove-contains, AllAbove, AllAbove-rest}
use Rattle.gf_poly.proofs.DescendingLaws.{AllAbove-push, IsDescending-push, HasVariables-push}
use Rattle.gf_poly.proofs.CoefficientLaws.{head_at}
use Rattle.gf_poly.proofs.CollectLaws.{chosen_sum}

-- ---- signs
neg-zero : neg_ℚ zero_ℚ ≡ zero_ℚ
neg-zero = sym (zero-+ℚ (neg_ℚ zero_ℚ)) ∙ +ℚ-neg_ℚ zero_ℚ

signed-zero : (sign : Sign) → signed sign zero_ℚ ≡ zero_ℚ
signed-zero Plus = refl
signed-zero Minus = neg-zero

signed-+ : (sign : Sign) (x y : Fraction) → signed sign (x +ℚ y) ≡ signed sign x +ℚ signed sign y
signed-+ Plus x y = refl
signed-+ Minus x y = neg_ℚ-+ℚ x y

signed-nonzero : (sign : Sign) (x : Fraction) → x ≢ zero_ℚ → signed sign x ≢ zero_ℚ
signed-nonzero Plus x h = h
signed-nonzero Minus x h = λ z. h (sym (neg_ℚ-neg_ℚ x) ∙ ap neg_ℚ z ∙ neg-zero)

signed_chosen : (sign : Sign) (b : Bool) (c : Fraction) → signed sign (if b then c else zero_ℚ) ≡ (if b then signed sign c else zero_ℚ)
signed_chosen sign true c = refl
signed_chosen sign false c = signed-zero sign

-- the coefficients of what is left of the second list, its head apart
signed-cons : (sign : Sign) (t : Term) (g : Terms) (e : Exponents) →
    signed sign (coefficient (t ∷ g) e) ≡ (if same e t.mono then signed sign t.coef else zero_ℚ) +ℚ signed sign (coefficient g e)
signed-cons sign t g e = signed-+ sign _ _ ∙ ap (λ z. z +ℚ signed sign (coefficient g e)) (signed_chosen sign (same e t.mono) t.coef)

-- ---- what is kept
-- out has the sum so far, and fs and gs are left
pub record Merging (sign : Sign) (f g out fs gs : Terms) : Type 0 where
  pub sum : (e : Exponents) → coefficient out e +ℚ (coefficient fs e +ℚ signed sign (coefficient gs e)) ≡ coefficient f e +ℚ signed sign (coefficient g e)
  pub descending : IsDescending out
  pub above_left : AllAbove out fs
  pub above_right : AllAbove out gs
  pub left : IsDescending fs
  pub right : IsDescending gs
  pub variables : (n : ℕ) → HasVariables n f → HasVariables n g → HasVariables n out × HasVariables n fs × HasVariables n gs
  pub fits : (s t : Term) → AreLike f g s t → Fits (operation sign) s.coef t.coef ⊎ AreLike fs gs s t

pub Merging-start : (sign : Sign) (f g : Terms) → IsDescending f → IsDescending g → Merging sign f g [] f g
Merging-start sign f g h k = record {
  sum = λ e. zero-+ℚ _;
  descending = tt;
  above_left = tt;
  above_right = tt;
  left = h;
  right = k;
  variables = λ n a b. (tt, a, b);
  fits = λ s t l. inr l;
}

coefficient-push : (out : Terms) (t : Term) (e : Exponents) → coefficient (out ++ t ∷ []) e ≡ coefficient out e +ℚ (if same e t.mono then t.coef else zero_ℚ)
coefficient-push out t e = coefficient-++ out (t ∷ []) e ∙ ap (λ z. coefficient out e +ℚ z) (+ℚ-zero _)

-- ---- the first head is greater
like_left : (fs gs : Terms) (h s t : Term) → IsAbove h.mono gs → AreLike (h ∷ fs) gs s t → AreLike fs gs s t
like_left fs gs h s t a l = elim (Contains-cons fs s h l.left) [
  | inl e ↦ absurd (never_greater t.mono (subst (λ x. deglex x t.mono ≡ Greater) (sym (ap (λ (z : Term). z.mono) e) ∙ l.monomial) (IsAbove-contains h.mono gs t
      a l.right)))
  | inr c ↦ record { left = c; right = l.right; monomial = l.monomial }
]

pub Merging-left : (sign : Sign) (f g out fs gs : Terms) (t : Term) → Merging sign f g out (t ∷ fs) gs → IsAbove t.mono gs →
    Merging sign f g (out ++ t ∷ []) fs gs
Merging-left sign f g out fs gs t m a = record {
  sum = λ e. ap (λ z. z +ℚ (coefficient fs e +ℚ signed sign (coefficient gs e))) (coefficient-push out t e)
      ∙ +ℚ_assoc _ _ _ ∙ ap (λ z. coefficient out e +ℚ z) (sym (+ℚ_assoc _ _ _)) ∙ m.sum e;
  descending = IsDescending-push out t t fs m.descending m.above_left refl m.left.0;
  above_left = AllAbove-push out t fs (AllAbove-rest out t fs m.above_left) m.left.1;
  above_right = AllAbove-push out t gs m.above_right a;
  left = m.left.2;
  right = m.right;
  variables = λ n h k. let v = m.variables n h k in (HasVariables-push n out t v.0 v.1.0, v.1.1, v.2);
  fits = λ s r l. elim (m.fits s r l) [ inl y ↦ inl y | inr y ↦ inr (like_left fs gs t s r a y) ];
}

-- ---- the second head is greater
pub swap_first : (u a b : Fraction) → u +ℚ (a +ℚ b) ≡ a +ℚ (u +ℚ b)
swap_first u a b = sym (+ℚ_assoc u a b) ∙ ap (λ z. z +ℚ b) (+ℚ_comm u a) ∙ +ℚ_assoc a u b

like_right : (fs gs : Terms) (h s t : Term) → IsAbove h.mono fs → AreLike fs (h ∷ gs) s t → AreLike fs gs s t
like_right fs gs h s t a l = elim (Contains-cons gs t h l.right) [
  | inl e ↦ absurd (never_greater s.mono (subst (λ x. deglex x s.mono ≡ Greater) (sym (ap (λ (z : Term). z.mono) e) ∙ sym l.monomial)
      (IsAbove-contains h.mono fs s a l.left)))
  | inr c ↦ record { left = l.left; right = c; monomial = l.monomial }
]

pub Merging-right : (sign : Sign) (f g out fs gs : Terms) (t : Term) → Merging sign f g out fs (t ∷ gs) → IsAbove t.mono fs →
    Merging sign f g (out ++ record { coef = signed sign t.coef; mono = t.mono } ∷ []) fs gs
Merging-right sign f g out fs gs t m a =
    let u : Term = record { coef = signed sign t.coef; mono = t.mono } in
    record {
      sum = λ e. ap (λ z. z +ℚ (coefficient fs e +ℚ signed sign (coefficient gs e))) (coefficient-push out u e)
          ∙ +ℚ_assoc _ _ _ ∙ ap (λ z. coefficient out e +ℚ z) (swap_first _ _ _ ∙ ap (λ z. coefficient fs e +ℚ z) (sym (signed-cons sign t gs e))) ∙ m.sum e;
      descending = IsDescending-push out t u gs m.descending m.above_right refl (signed-nonzero sign t.coef m.right.0);
      above_left = AllAbove-push out u fs m.above_left a;
      above_right = AllAbove-push out u gs (AllAbove-rest out t gs m.above_right) m.right.1;
      left = m.left;
      right = m.right.2;
      variables = λ n h k. let v = m.variables n h k in (HasVariables-push n out u v.0 v.2.0, v.1, v.2.1);
      fits = λ s r l. elim (m.fits s r l) [ inl y ↦ inl y | inr y ↦ inr (like_right fs gs t s r a y) ];
    }

-- the head above the other list
IsAbove-head : (s t : Term) (gs : Terms) → deglex s.mono t.mono ≡ Greater → IsDescending (t ∷ gs) → IsAbove s.mono (t ∷ gs)
IsAbove-head s t gs h d = (h, IsAbove-from s.mono t.mono gs h d.1)

-- ---- like heads

five : (o a b x y : Fraction) → (o +ℚ (a +ℚ b)) +ℚ (x +ℚ y) ≡ o +ℚ ((a +ℚ x) +ℚ (b +ℚ y))
five o a b x y = +ℚ_assoc o (a +ℚ b) (x +ℚ y) ∙ ap (λ z. o +ℚ z) (+ℚ-middle a b x y)

-- the terms of both heads make up the combined term
parts : (sign : Sign) (s t : Term) (c : Fraction) (e : Exponents) → s.mono ≡ t.mono → c ≡ s.coef +ℚ signed sign t.coef →
    (if same e s.mono then c else zero_ℚ) ≡ (if same e s.mono then s.coef else zero_ℚ) +ℚ (if same e t.mono then signed sign t.coef else zero_ℚ)
parts sign s t c e alike h =
    ap (λ z. if same e s.mono then z else zero_ℚ) h ∙ chosen_sum (same e s.mono) s.coef (signed sign t.coef)
    ∙ ap (λ x. (if same e s.mono then s.coef else zero_ℚ) +ℚ (if same e x then signed sign t.coef else zero_ℚ)) alike

-- like terms among heads that are alike: the heads, or both later
like_both : (fs gs : Terms) (x y s t : Term) → x.mono ≡ y.mono → IsAbove x.mono fs → IsAbove y.mono gs → AreLike (x ∷ fs) (y ∷ gs) s t →
    ((s ≡ x) × (t ≡ y)) ⊎ AreLike fs gs s t
like_both fs gs x y s t alike a b l = at (Contains-cons fs s x l.left) (Contains-cons gs t y l.right)
  where
    at : (s ≡ x) ⊎ Contains fs s → (t ≡ y) ⊎ Contains gs t → ((s ≡ x) × (t ≡ y)) ⊎ AreLike fs gs s t
    at (inl p) (inl q) = inl (p, q)
    at (inl p) (inr d) =
        absurd (never_greater t.mono (subst (λ z. deglex z t.mono ≡ Greater) (sym alike ∙ sym (ap (λ (z : Term). z.mono) p) ∙ l.monomial)
        (IsAbove-contains y.mono gs t b d)))
    at (inr c) (inl q) = absurd (never_greater s.mono (subst (λ z. deglex z s.mono ≡ Greater) (alike ∙ sym (ap (λ (z : Term). z.mono) q) ∙ sym l.monomial)
        (IsAbove-contains x.mono fs s a c)))
    at (inr c) (inr d) = inr (record { left = c; right = d; monomial = l.monomial })

fits_both : (sign : Sign) (f g out fs gs : Terms) (x y : Term) → Merging sign f g out (x ∷ fs) (y ∷ gs) → x.mono ≡ y.mono →
    Fits (operation sign) x.coef y.coef → (s t : Term) → AreLike f g s t → Fits (operation sign) s.coef t.coef ⊎ AreLike fs gs s t
fits_both sign f g out fs gs x y m alike w s t l = elim (m.fits s t l) [
  | inl h ↦ inl h
  | inr h ↦ elim (like_both fs gs x y s t alike m.left.1 m.right.1 h) [
    | inl p ↦ inl (subst (λ (z : Term). Fits (operation sign) z.coef t.coef) (sym p.0) (subst (λ (z : Term). Fits (operation sign) x.coef z.coef) (sym p.1) w))
    | inr k ↦ inr k
  ]
]

-- two like terms whose sum isn't zero
pub Merging-both : (sign : Sign) (f g out fs gs : Terms) (s t : Term) (c : Fraction) → Merging sign f g out (s ∷ fs) (t ∷ gs) → s.mono ≡ t.mono →
    c ≡ s.coef +ℚ signed sign t.coef → Fits (operation sign) s.coef t.coef → c ≢ zero_ℚ →
    Merging sign f g (out ++ record { coef = c; mono = s.mono } ∷ []) fs gs
Merging-both sign f g out fs gs s t c m alike value w nonzero =
    let u : Term = record { coef = c; mono = s.mono } in
    record {
      sum = λ e. ap (λ z. z +ℚ (coefficient fs e +ℚ signed sign (coefficient gs e)))
          (coefficient-push out u e ∙ ap (λ z. coefficient out e +ℚ z) (parts sign s t c e alike value))
          ∙ five _ _ _ _ _ ∙ ap (λ z. coefficient out e +ℚ (coefficient (s ∷ fs) e +ℚ z)) (sym (signed-cons sign t gs e)) ∙ m.sum e;
      descending = IsDescending-push out s u fs m.descending m.above_left refl nonzero;
      above_left = AllAbove-push out u fs (AllAbove-rest out s fs m.above_left) m.left.1;
      above_right = AllAbove-push out u gs (AllAbove-rest out t gs m.above_right) (subst (λ x. IsAbove x gs) (sym alike) m.right.1);
      left = m.left.2;
      right = m.right.2;
      variables = λ n h k. let v = m.variables n h k in (HasVariables-push n out u v.0 v.1.0, v.1.1, v.2.1);
      fits = fits_both sign f g out fs gs s t m alike w;
    }

-- two like terms whose sum is zero
pub Merging-neither : (sign : Sign) (f g out fs gs : Terms) (s t : Term) (c : Fraction) → Merging sign f g out (s ∷ fs) (t ∷ gs) → s.mono ≡ t.mono →
    c ≡ s.coef +ℚ signed sign t.coef → Fits (operation sign) s.coef t.coef → c ≡ zero_ℚ → Merging sign f g out fs gs
Merging-neither sign f g out fs gs s t c m alike value w nothing = record {
  sum = λ e. ap (λ z. z +ℚ (coefficient fs e +ℚ signed sign (coefficient gs e)))
      (sym (ap (λ z. coefficient out e +ℚ z) (sym (parts sign s t c e alike value) ∙ ap (λ z. if same e s.mono then z else zero_ℚ) nothing ∙
      none (same e s.mono)) ∙ +ℚ-zero _))
      ∙ five _ _ _ _ _ ∙ ap (λ z. coefficient out e +ℚ (coefficient (s ∷ fs) e +ℚ z)) (sym (signed-cons sign t gs e)) ∙ m.sum e;
  descending = m.descending;
  above_left = AllAbove-rest out s fs m.above_left;
  above_right = AllAbove-rest out t gs m.above_right;
  left = m.left.2;
  right = m.right.2;
  variables = λ n h k. let v = m.variables n h k in (v.0, v.1.1, v.2.1);
  fits = fits_both sign f g out fs gs s t m alike w;
}
  where
    none : (b : Bool) → (if b then zero_ℚ else zero_ℚ) ≡ zero_ℚ
    none true = refl
    none false = refl

-- ---- the same by indices

pub at_left : (sign : Sign) (f g out new gs : Terms) (i : ℕ) (s t : Term) → i < length f → t ≡ get_or f i t → s ≡ t → new ≡ out ++ s ∷ [] →
    (IsDescending gs → IsAbove t.mono gs) → Merging sign f g out (drop i f) gs → Merging sign f g new (drop (i + 1) f) gs
at_left sign f g out new gs i s t h is copied pushed a m =
    let n : Merging sign f g out (t ∷ drop (i + 1) f) gs = subst (λ fs. Merging sign f g out fs gs) (head_at f i t h is) m in
    subst (λ o. Merging sign f g o (drop (i + 1) f) gs) (ap (λ (x : Term). out ++ x ∷ []) (sym copied) ∙ sym pushed)
    (Merging-left sign f g out (drop (i + 1) f) gs t n (a n.right))

pub at_right : (sign : Sign) (f g out new fs : Terms) (j : ℕ) (s t : Term) → j < length g → t ≡ get_or g j t →
    s ≡ record { coef = signed sign t.coef; mono = t.mono } → new ≡ out ++ s ∷ [] → (IsDescending fs → IsAbove t.mono fs) → Merging sign f g out fs (drop j g) →
    Merging sign f g new fs (drop (j + 1) g)
at_right sign f g out new fs j s t h is copied pushed a m =
    let n : Merging sign f g out fs (t ∷ drop (j + 1) g) = subst (λ gs. Merging sign f g out fs gs) (head_at g j t h is) m in
    subst (λ o. Merging sign f g o fs (drop (j + 1) g)) (ap (λ (x : Term). out ++ x ∷ []) (sym copied) ∙ sym pushed)
    (Merging-right sign f g out fs (drop (j + 1) g) t n (a n.left))

-- a greater head at an index
pub above_at : (g : Terms) (j : ℕ) (s t : Term) → j < length g → t ≡ get_or g j t → deglex s.mono t.mono ≡ Greater → IsDescending (drop j g) →
    IsAbove s.mono (drop j g)
above_at g j s t h is c d =
    let e : drop j g ≡ t ∷ drop (j + 1) g = head_at g j t h is in
    subst (IsAbove s.mono) (sym e) (IsAbove-head s t (drop (j + 1) g) c (subst IsDescending e d))

pub above_none : (x : Exponents) (g : Terms) (j : ℕ) → length g ≤ j → IsAbove x (drop j g)
above_none x g j h = subst (IsAbove x) (sym (drop_all j g h)) tt

both_at : (sign : Sign) (f g out : Terms) (i j : ℕ) (s t : Term) → i < length f → j < length g → s ≡ get_or f i s → t ≡ get_or g j t →
    Merging sign f g out (drop i f) (drop j g) → Merging sign f g out (s ∷ drop (i + 1) f) (t ∷ drop (j + 1) g)
both_at sign f g out i j s t h k is jt m =
    subst (λ fs. Merging sign f g out fs (t ∷ drop (j + 1) g)) (head_at f i s h is)
    (subst (λ gs. Merging sign f g out (drop i f) gs) (head_at g j t k jt) m)

pub at_both : (sign : Sign) (f g out new : Terms) (i j : ℕ) (s t : Term) (c : Fraction) (x : Exponents) → i < length f → j < length g → s ≡ get_or f i s →
    t ≡ get_or g j t → Merging sign f g out (drop i f) (drop j g) → deglex s.mono t.mono ≡ Equal → c ≡ s.coef +ℚ signed sign t.coef →
    Fits (operation sign) s.coef t.coef → x ≡ s.mono → PushesNonzero out new (record { coef = c; mono = x }) →
    Merging sign f g new (drop (i + 1) f) (drop (j + 1) g)
at_both sign f g out new i j s t c x h k is jt m o value w e (inl z) =
    subst (λ y. Merging sign f g y (drop (i + 1) f) (drop (j + 1) g)) (sym z.1) (Merging-neither sign f g out (drop (i + 1) f) (drop (j + 1) g) s t c
    (both_at sign f g out i j s t h k is jt m) (equal_same s.mono t.mono o) value w z.0)
at_both sign f g out new i j s t c x h k is jt m o value w e (inr n) =
    subst (λ y. Merging sign f g y (drop (i + 1) f) (drop (j + 1) g)) (ap (λ y. out ++ record { coef = c; mono = y } ∷ []) (sym e) ∙ sym n.1)
    (Merging-both sign f g out (drop (i + 1) f) (drop (j + 1) g) s t c (both_at sign f g out i j s t h k is jt m) (equal_same s.mono t.mono o) value w n.0)

-- nothing is left
pub ended : (sign : Sign) (f g out : Terms) (i j : ℕ) → length f ≤ i → length g ≤ j → Merging sign f g out (drop i f) (drop j g) → Merging sign f g out [] []
ended sign f g out i j h k m = subst (λ fs. Merging sign f g out fs []) (drop_all i f h) (subst (λ gs. Merging sign f g out (drop i f) gs) (drop_all j g k) m)

pub at_end : (sign : Sign) (f g out : Terms) → Merging sign f g out [] [] → IsSignedSum sign f g out
at_end sign f g out m e = sym (ap (λ z. coefficient out e +ℚ (zero_ℚ +ℚ z)) (signed-zero sign) ∙ ap (λ z. coefficient out e +ℚ z) (+ℚ-zero zero_ℚ) ∙
    +ℚ-zero _) ∙ m.sum e

-- ---- a sum that leaves the range
later : (fs gs : Terms) (x y s t : Term) → x.mono ≡ y.mono → IsAbove x.mono fs → IsAbove y.mono gs → deglex s.mono x.mono ≡ Greater →
    AreLike (x ∷ fs) (y ∷ gs) s t → ⊥
later fs gs x y s t alike a b o l = elim (like_both fs gs x y s t alike a b l) [
  | inl p ↦ never_greater x.mono (subst (λ (z : Term). deglex z.mono x.mono ≡ Greater) p.0 o)
  | inr k ↦ never_greater s.mono (greater_trans s.mono x.mono s.mono o (IsAbove-contains x.mono fs s a k.left))
]

pub overflow_at : (sign : Sign) (f g out : Terms) (i j : ℕ) (s t : Term) (o : Overflow) → i < length f → j < length g → s ≡ get_or f i s → t ≡ get_or g j t →
    Merging sign f g out (drop i f) (drop j g) → deglex s.mono t.mono ≡ Equal → o ≡ record { op = operation sign; left = s.coef; right = t.coef } →
    ¬ (Fits (operation sign) s.coef t.coef) → IsLikeOverflow (operation sign) f g o
overflow_at sign f g out i j s t o h k is jt m c e n =
    let alike : s.mono ≡ t.mono = equal_same s.mono t.mono c in
    let b : Merging sign f g out (s ∷ drop (i + 1) f) (t ∷ drop (j + 1) g) = both_at sign f g out i j s t h k is jt m in
    let u : Term = record { coef = t.coef; mono = s.mono } in
    let same_term : u ≡ t = λ q. record { coef = t.coef; mono = alike q } in
    subst (IsLikeOverflow (operation sign) f g) (sym e) (record {
      operation = refl;
      at = s.mono;
      like = record { left = (i, h, sym is); right = (j, k, ap (get_or g j) same_term ∙ sym jt ∙ sym same_term); monomial = refl };
      leaves = n;
      above = λ x y l w. elim (b.fits x y l) [ inl z ↦ z | inr z ↦ absurd (later (drop (i + 1) f) (drop (j + 1) g) s t x y alike b.left.1 b.right.1 w z) ];
    })
