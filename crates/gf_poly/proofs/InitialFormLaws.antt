-- The terms of one weight, and the initial form as the loop builds it.
-- To cite: Heaviest, Heaviest-start, heavier_at, as_heavy_at, lighter_at, initial_form_at, descending_at, variables_at,
-- initial_form_unique. The rest are steps.
use Rattle.std.specs.Prelude.{◌≡◌, ◌≢◌, ◌⊎◌, ℕ, suc, ◌+◌, ◌^◌, ◌<◌, ◌≤◌, Bool, true, false, if◌then◌else◌, List, [], ◌∷◌, ◌++◌, length, take, get_or, Contains}
use Rattle.std.specs.Prelude.{ℤ, negsuc, ◌<ℤ◌, ◌≤ℤ◌, unsigned_abs}
use Rattle.std.specs.Ordering.{int_eq, int_cmp, MatchOrdering}
use Rattle.std.specs.declared.cmp.Ordering.{Ordering}
use Rattle.std.specs.declared.cmp.Ordering.TheVariants.{Less, Equal, Greater}
use Rattle.std.proofs.Common.{arith, refl, sym, ap, subst, ◌∙◌, inl, inr}
use Rattle.std.proofs.lemmas.Bool.Decides.{Decides-int_eq}
use Rattle.std.proofs.lemmas.Cmp.{int_ranked}
use Rattle.std.proofs.lemmas.Int.{ints}
use Rattle.std.proofs.lemmas.List.{take_more, take_all, append-nil}
use Rattle.gf_frac.specs.Fraction.{◌+ℚ◌, zero_ℚ}
use Rattle.gf_frac.proofs.FractionLaws.{zero-+ℚ, zero_or_not}
use Rattle.gf_exponents_theory.specs.Exponents.{Exponents, same, whole_weight}
use Rattle.gf_exponents_theory.proofs.WholeWeightLaws.{whole_weight-same}
use Rattle.gf_poly.specs.declared.Term.{Term}
use Rattle.gf_poly.specs.Polynomial.{Terms, coefficient, SamePolynomial, IsAbove, IsDescending, HasVariables, KeepsVariables}
use Rattle.gf_poly.specs.InitialForms.{IsOfGreatestWeight, IsInitialForm}
use Rattle.gf_poly.proofs.PolynomialLaws.{coefficient-same}
use Rattle.gf_poly.proofs.DescendingLaws.{Contains-cons, Contains-none}
use Rattle.gf_poly.proofs.CoefficientLaws.{coefficient-contains, term_nonzero}
use Rattle.gf_poly.proofs.ProductLaws.{HasVariables-at}

-- ---- tests of weights

equal : (a b : ℤ) → int_eq a b ≡ true → a ≡ b
equal a b h = (Decides-int_eq a b).0 h

unequal : (a b : ℤ) → int_eq a b ≡ false → a ≡ b → ⊥
unequal a b h e = let q : false ≡ true = sym h ∙ (Decides-int_eq a b).1 e in absurd (cc)

test_true : (a b : ℤ) → a ≡ b → int_eq a b ≡ true
test_true a b e = at (int_eq a b) refl
  where
    at : (t : Bool) → int_eq a b ≡ t → t ≡ true
    at true h = refl
    at false h = absurd (unequal a b h e)

test_false : (a b : ℤ) → (a ≡ b → ⊥) → int_eq a b ≡ false
test_false a b n = at (int_eq a b) refl
  where
    at : (t : Bool) → int_eq a b ≡ t → t ≡ false
    at true h = absurd (n (equal a b h))
    at false h = refl

pub same_or_not : (x y : Exponents) → (same x y ≡ true) ⊎ (same x y ≡ false)
same_or_not x y = at (same x y)
  where
    at : (b : Bool) → (b ≡ true) ⊎ (b ≡ false)
    at true = inl refl
    at false = inr refl

-- what a comparison says
pub by_greater : (a b : ℤ) (o : Ordering) → o ≡ int_cmp a b → o ≡ Greater → b <ℤ a
by_greater a b o h e = let r : MatchOrdering Greater (a <ℤ b) (a ≡ b) (b <ℤ a) = int_ranked a b Greater (sym e ∙ h) in r

pub by_equal : (a b : ℤ) (o : Ordering) → o ≡ int_cmp a b → o ≡ Equal → a ≡ b
by_equal a b o h e = let r : MatchOrdering Equal (a <ℤ b) (a ≡ b) (b <ℤ a) = int_ranked a b Equal (sym e ∙ h) in r

pub by_less : (a b : ℤ) (o : Ordering) → o ≡ int_cmp a b → o ≡ Less → a <ℤ b
by_less a b o h e = let r : MatchOrdering Less (a <ℤ b) (a ≡ b) (b <ℤ a) = int_ranked a b Less (sym e ∙ h) in r

-- ---- the terms of one weight

-- those of weight m, in their order
abbrev pub of_weight : List ℤ → ℤ → Terms → Terms
of_weight w m [] = []
of_weight w m (t ∷ f) = if int_eq (whole_weight w t.mono) m then t ∷ of_weight w m f else of_weight w m f

-- none weighs more than m
abbrev pub AreAtMost : List ℤ → ℤ → Terms → Type 0
AreAtMost w m [] = Unit {0}
AreAtMost w m (t ∷ f) = (whole_weight w t.mono ≤ℤ m) × AreAtMost w m f

-- some has weight m
abbrev pub IsReached : List ℤ → ℤ → Terms → Type 0
IsReached w m [] = ⊥
IsReached w m (t ∷ f) = (whole_weight w t.mono ≡ m) ⊎ IsReached w m f

-- another monomial adds nothing
pub elsewhere : (t : Term) (f : Terms) (x : Exponents) → same x t.mono ≡ false → coefficient (t ∷ f) x ≡ coefficient f x
elsewhere t f x h = ap (λ b. (if b then t.coef else zero_ℚ) +ℚ coefficient f x) h ∙ zero-+ℚ _

other_weight : (w : List ℤ) (x y : Exponents) → (whole_weight w x ≡ whole_weight w y → ⊥) → same x y ≡ false
other_weight w x y n = elim (same_or_not x y) [ inl s ↦ absurd (n (whole_weight-same w x y s)) | inr f ↦ f ]

-- at a monomial of weight m the coefficient is that of f, elsewhere it is 0
pub coefficient-on : (w : List ℤ) (m : ℤ) (f : Terms) (x : Exponents) → whole_weight w x ≡ m → coefficient (of_weight w m f) x ≡ coefficient f x
coefficient-on w m [] x e = refl
coefficient-on w m (t ∷ f) x e = at (int_eq (whole_weight w t.mono) m) refl (coefficient-on w m f x e)
  where
    at : (b : Bool) → int_eq (whole_weight w t.mono) m ≡ b → coefficient (of_weight w m f) x ≡ coefficient f x →
        coefficient (if b then t ∷ of_weight w m f else of_weight w m f) x ≡ coefficient (t ∷ f) x
    at true h r = ap (λ z. (if same x t.mono then t.coef else zero_ℚ) +ℚ z) r
    at false h r = r ∙ sym (elsewhere t f x (other_weight w x t.mono (λ q. unequal (whole_weight w t.mono) m h (sym q ∙ e))))

pub coefficient-off : (w : List ℤ) (m : ℤ) (f : Terms) (x : Exponents) → (whole_weight w x ≡ m → ⊥) → coefficient (of_weight w m f) x ≡ zero_ℚ
coefficient-off w m [] x n = refl
coefficient-off w m (t ∷ f) x n = at (int_eq (whole_weight w t.mono) m) refl (coefficient-off w m f x n)
  where
    at : (b : Bool) → int_eq (whole_weight w t.mono) m ≡ b → coefficient (of_weight w m f) x ≡ zero_ℚ →
        coefficient (if b then t ∷ of_weight w m f else of_weight w m f) x ≡ zero_ℚ
    at true h r = elsewhere t (of_weight w m f) x (other_weight w x t.mono (λ q. n (q ∙ equal (whole_weight w t.mono) m h))) ∙ r
    at false h r = r

IsAbove-of_weight : (w : List ℤ) (m : ℤ) (x : Exponents) (f : Terms) → IsAbove x f → IsAbove x (of_weight w m f)
IsAbove-of_weight w m x [] a = tt
IsAbove-of_weight w m x (t ∷ f) a = at (int_eq (whole_weight w t.mono) m) (IsAbove-of_weight w m x f a.1)
  where
    at : (b : Bool) → IsAbove x (of_weight w m f) → IsAbove x (if b then t ∷ of_weight w m f else of_weight w m f)
    at true r = (a.0, r)
    at false r = r

IsDescending-of_weight : (w : List ℤ) (m : ℤ) (f : Terms) → IsDescending f → IsDescending (of_weight w m f)
IsDescending-of_weight w m [] d = tt
IsDescending-of_weight w m (t ∷ f) d = at (int_eq (whole_weight w t.mono) m) (IsDescending-of_weight w m f d.2)
  where
    at : (b : Bool) → IsDescending (of_weight w m f) → IsDescending (if b then t ∷ of_weight w m f else of_weight w m f)
    at true r = (d.0, IsAbove-of_weight w m t.mono f d.1, r)
    at false r = r

HasVariables-of_weight : (n : ℕ) (w : List ℤ) (m : ℤ) (f : Terms) → HasVariables n f → HasVariables n (of_weight w m f)
HasVariables-of_weight n w m [] v = tt
HasVariables-of_weight n w m (t ∷ f) v = at (int_eq (whole_weight w t.mono) m) (HasVariables-of_weight n w m f v.1)
  where
    at : (b : Bool) → HasVariables n (of_weight w m f) → HasVariables n (if b then t ∷ of_weight w m f else of_weight w m f)
    at true r = (v.0, r)
    at false r = r

-- ---- one term further

of_weight-push : (w : List ℤ) (m : ℤ) (f : Terms) (t : Term) → of_weight w m (f ++ t ∷ []) ≡ of_weight w m f ++ of_weight w m (t ∷ [])
of_weight-push w m [] t = refl
of_weight-push w m (s ∷ f) t = at (int_eq (whole_weight w s.mono) m) (of_weight-push w m f t)
  where
    at : (b : Bool) → of_weight w m (f ++ t ∷ []) ≡ of_weight w m f ++ of_weight w m (t ∷ []) →
        (if b then s ∷ of_weight w m (f ++ t ∷ []) else of_weight w m (f ++ t ∷ [])) ≡ (if b then s ∷ of_weight w m f else of_weight w m f) ++ of_weight w m
        (t ∷ [])
    at true r = ap (λ z. s ∷ z) r
    at false r = r

alone : (w : List ℤ) (m : ℤ) (t : Term) → whole_weight w t.mono ≡ m → of_weight w m (t ∷ []) ≡ t ∷ []
alone w m t e = ap (λ b. if b then t ∷ [] else []) (test_true (whole_weight w t.mono) m e)

none : (w : List ℤ) (m : ℤ) (t : Term) → (whole_weight w t.mono ≡ m → ⊥) → of_weight w m (t ∷ []) ≡ []
none w m t n = ap (λ b. if b then t ∷ [] else []) (test_false (whole_weight w t.mono) m n)

none_above : (w : List ℤ) (m k : ℤ) (f : Terms) → AreAtMost w m f → m <ℤ k → of_weight w k f ≡ []
none_above w m k [] a l = refl
none_above w m k (t ∷ f) a l = ap (λ b. if b then t ∷ of_weight w k f else of_weight w k f)
    (test_false (whole_weight w t.mono) k (λ e. let h = a.0 in absurd (omega (arith, ints)))) ∙ none_above w m k f a.1 l

AreAtMost-push : (w : List ℤ) (m k : ℤ) (f : Terms) (t : Term) → AreAtMost w m f → m ≤ℤ k → whole_weight w t.mono ≤ℤ k → AreAtMost w k (f ++ t ∷ [])
AreAtMost-push w m k [] t a l h = (h, tt)
AreAtMost-push w m k (s ∷ f) t a l h = (omega (arith, ints, a.0), AreAtMost-push w m k f t a.1 l h)

IsReached-left : (w : List ℤ) (m : ℤ) (f g : Terms) → IsReached w m f → IsReached w m (f ++ g)
IsReached-left w m [] g r = elim r [ ]
IsReached-left w m (t ∷ f) g (inl e) = inl e
IsReached-left w m (t ∷ f) g (inr r) = inr (IsReached-left w m f g r)

IsReached-last : (w : List ℤ) (m : ℤ) (f : Terms) (t : Term) → whole_weight w t.mono ≡ m → IsReached w m (f ++ t ∷ [])
IsReached-last w m [] t e = inl e
IsReached-last w m (s ∷ f) t e = inr (IsReached-last w m f t e)

-- out has the terms of greatest weight of f, which is m; before the first term m is less than any weight
pub record Heaviest (w : List ℤ) (f out : Terms) (m : ℤ) : Type 0 where
  pub items : out ≡ of_weight w m f
  pub above : AreAtMost w m f
  pub reached : ((f ≡ []) × (m <ℤ negsuc (2 ^ 101))) ⊎ IsReached w m f

pub take-next : (f : Terms) (i : ℕ) (t : Term) → i < length f → t ≡ get_or f i t → take (i + 1) f ≡ take i f ++ t ∷ []
take-next f i t h is = take_more f i t h ∙ ap (λ (s : Term). take i f ++ s ∷ []) (sym is)

pub heavier_at : (w : List ℤ) (f out next : Terms) (i : ℕ) (t c : Term) (m k : ℤ) → i < length f → t ≡ get_or f i t → c ≡ t → k ≡ whole_weight w t.mono →
    m <ℤ k → next ≡ [] ++ c ∷ [] → Heaviest w (take i f) out m → Heaviest w (take (i + 1) f) next k
heavier_at w f out next i t c m k h is ec e l en s = subst (λ (g : Terms). Heaviest w g next k) (sym (take-next f i t h is)) (record {
  items = en ∙ ap (λ (z : Term). z ∷ []) ec ∙ sym (of_weight-push w k (take i f) t ∙ ap (λ z. z ++ of_weight w k (t ∷ [])) (none_above w m k (take i f)
      s.above l) ∙ alone w k t (sym e));
  above = AreAtMost-push w m k (take i f) t s.above (omega (arith, ints)) (omega (arith, ints, e));
  reached = inr (IsReached-last w k (take i f) t (sym e));
})

pub as_heavy_at : (w : List ℤ) (f out next : Terms) (i : ℕ) (t c : Term) (m k l : ℤ) → i < length f → t ≡ get_or f i t → c ≡ t → k ≡ whole_weight w t.mono →
    k ≡ m → l ≡ m → next ≡ out ++ c ∷ [] → Heaviest w (take i f) out m → Heaviest w (take (i + 1) f) next l
as_heavy_at w f out next i t c m k l h is ec e em el en s =
    let er : whole_weight w t.mono ≡ l = sym e ∙ em ∙ sym el in
    let r : Heaviest w (take i f) out l = subst (Heaviest w (take i f) out) (sym el) s in
    subst (λ (g : Terms). Heaviest w g next l) (sym (take-next f i t h is)) (record {
      items = en ∙ ap (λ (z : Term). out ++ z ∷ []) ec ∙ ap (λ z. z ++ t ∷ []) r.items ∙
          sym (of_weight-push w l (take i f) t ∙ ap (λ z. of_weight w l (take i f) ++ z) (alone w l t er));
      above = AreAtMost-push w l l (take i f) t r.above (omega (arith, ints)) (omega (arith, ints, er));
      reached = inr (IsReached-last w l (take i f) t er);
    })

pub lighter_at : (w : List ℤ) (f out next : Terms) (i : ℕ) (t : Term) (m k l : ℤ) → i < length f → t ≡ get_or f i t → k ≡ whole_weight w t.mono →
    unsigned_abs k ≤ 2 ^ 101 → k <ℤ m → l ≡ m → next ≡ out → Heaviest w (take i f) out m → Heaviest w (take (i + 1) f) next l
lighter_at w f out next i t m k l h is e b lt el en s =
    let r : Heaviest w (take i f) out l = subst (Heaviest w (take i f) out) (sym el) s in
    subst (λ (g : Terms). Heaviest w g next l) (sym (take-next f i t h is)) (record {
      items = en ∙ r.items ∙ sym (of_weight-push w l (take i f) t ∙ ap (λ z. of_weight w l (take i f) ++ z) (none w l t
          (λ q. absurd (omega (arith, ints, q, e, el)))) ∙ append-nil (of_weight w l (take i f)));
      above = AreAtMost-push w l l (take i f) t r.above (omega (arith, ints)) (omega (arith, ints, e, el));
      reached = elim r.reached [
        | inl n ↦ absurd (omega (arith, ints, n.1, el))
        | inr q ↦ inr (IsReached-left w l (take i f) (t ∷ []) q)
      ];
    })

-- ---- the end

-- a monomial of f weighs at most m
weighs : (w : List ℤ) (m : ℤ) (f : Terms) (x : Exponents) → AreAtMost w m f → coefficient f x ≢ zero_ℚ → whole_weight w x ≤ℤ m
weighs w m [] x a n = absurd (n refl)
weighs w m (t ∷ f) x a n = elim (same_or_not x t.mono) [
  | inl s ↦ let e = whole_weight-same w x t.mono s in omega (arith, ints, a.0)
  | inr d ↦ weighs w m f x a.1 (λ z. n (elsewhere t f x d ∙ z))
]

-- the term that reaches m
reached_by : (w : List ℤ) (m : ℤ) (f : Terms) → IsReached w m f → (t : Term) × Contains f t × (whole_weight w t.mono ≡ m)
reached_by w m [] r = elim r [ ]
reached_by w m (t ∷ f) (inl e) = (t, (0, omega arith, refl), e)
reached_by w m (t ∷ f) (inr r) = at (reached_by w m f r)
  where
    at : ((s : Term) × Contains f s × (whole_weight w s.mono ≡ m)) → (s : Term) × Contains (t ∷ f) s × (whole_weight w s.mono ≡ m)
    at p = (p.0, (suc p.1.0, omega (arith, p.1.1), p.1.2), p.2)

-- the terms of greatest weight are the initial form
initial : (n : ℕ) (w : List ℤ) (f : Terms) (m : ℤ) → HasVariables n f → IsDescending f → AreAtMost w m f → (f ≡ []) ⊎ IsReached w m f →
    IsInitialForm w f (of_weight w m f)
initial n w f m v d a r = record { heaviest = heaviest; lighter = lighter }
  where
    on_or_off : (x : Exponents) → ((whole_weight w x ≡ m) → coefficient (of_weight w m f) x ≡ coefficient f x) × ((whole_weight w x ≡ m → ⊥) →
        coefficient (of_weight w m f) x ≡ zero_ℚ)
    on_or_off x = (coefficient-on w m f x, coefficient-off w m f x)

    -- where some monomial of f weighs m
    top : (f ≡ []) ⊎ IsReached w m f → (x : Exponents) → coefficient f x ≢ zero_ℚ → IsOfGreatestWeight w f x → whole_weight w x ≡ m
    top (inl e) x c h = absurd (c (ap (λ g. coefficient g x) e))
    top (inr q) x c h = at (reached_by w m f q)
      where
        at : ((t : Term) × Contains f t × (whole_weight w t.mono ≡ m)) → whole_weight w x ≡ m
        at p =
            let k : length p.0.mono ≡ n = HasVariables-at n f p.1.0 p.0 p.1.1 (sym p.1.2) v in
            let l : whole_weight w p.0.mono ≤ℤ whole_weight w x =
            h p.0.mono (λ z. term_nonzero f p.0 d p.1 (sym (coefficient-contains n f p.0 v d p.1 k) ∙ z)) in
            omega (arith, ints, weighs w m f x a c, l, p.2)

    heaviest : (x : Exponents) → IsOfGreatestWeight w f x → coefficient (of_weight w m f) x ≡ coefficient f x
    heaviest x h = elim (zero_or_not (coefficient f x)) [
      | inl z ↦ at (int_eq (whole_weight w x) m) refl z
      | inr c ↦ coefficient-on w m f x (top r x c h)
    ]
      where
        at : (b : Bool) → int_eq (whole_weight w x) m ≡ b → coefficient f x ≡ zero_ℚ → coefficient (of_weight w m f) x ≡ coefficient f x
        at true e z = coefficient-on w m f x (equal (whole_weight w x) m e)
        at false e z = coefficient-off w m f x (unequal (whole_weight w x) m e) ∙ sym z

    lighter : (x y : Exponents) → coefficient f y ≢ zero_ℚ → whole_weight w x <ℤ whole_weight w y → coefficient (of_weight w m f) x ≡ zero_ℚ
    lighter x y c l = coefficient-off w m f x (λ e. absurd (omega (arith, ints, weighs w m f y a c, l, e)))

whole : (w : List ℤ) (f out : Terms) (i : ℕ) (m : ℤ) → length f ≤ i → Heaviest w (take i f) out m → Heaviest w f out m
whole w f out i m h s = subst (λ (g : Terms). Heaviest w g out m) (take_all i f h) s

pub initial_form_at : (n : ℕ) (w : List ℤ) (f out : Terms) (i : ℕ) (m : ℤ) → HasVariables n f → IsDescending f → length f ≤ i → Heaviest w (take i f) out m →
    IsInitialForm w f out
initial_form_at n w f out i m v d h k =
    let s = whole w f out i m h k in
    subst (IsInitialForm w f) (sym s.items) (initial n w f m v d s.above (elim s.reached [ inl q ↦ inl q.0 | inr q ↦ inr q ]))

pub descending_at : (w : List ℤ) (f out : Terms) (i : ℕ) (m : ℤ) → IsDescending f → length f ≤ i → Heaviest w (take i f) out m → IsDescending out
descending_at w f out i m d h k = let s = whole w f out i m h k in subst IsDescending (sym s.items) (IsDescending-of_weight w m f d)

pub variables_at : (w : List ℤ) (f out : Terms) (i : ℕ) (m : ℤ) → length f ≤ i → Heaviest w (take i f) out m → KeepsVariables f out
variables_at w f out i m h k = let s = whole w f out i m h k in record { at = λ n v. subst (HasVariables n) (sym s.items) (HasVariables-of_weight n w m f v) }

-- ---- a polynomial has one initial form

-- a monomial of f is that of one of its terms
pub occurs : (f : Terms) (y : Exponents) → coefficient f y ≢ zero_ℚ → (t : Term) × Contains f t × (same y t.mono ≡ true)
occurs [] y n = absurd (n refl)
occurs (t ∷ f) y n = elim (same_or_not y t.mono) [
  | inl s ↦ (t, (0, omega arith, refl), s)
  | inr d ↦ there (occurs f y (λ z. n (elsewhere t f y d ∙ z)))
]
  where
    there : ((u : Term) × Contains f u × (same y u.mono ≡ true)) → (u : Term) × Contains (t ∷ f) u × (same y u.mono ≡ true)
    there p = (p.0, (suc p.1.0, omega (arith, p.1.1), p.1.2), p.2)

-- a monomial of f that weighs more than x, if one is among the terms of g
heavier_among : (w : List ℤ) (f g : Terms) (x : Exponents) →
    ((t : Term) → Contains g t → coefficient f t.mono ≢ zero_ℚ → whole_weight w t.mono ≤ℤ whole_weight w x)
    ⊎ ((y : Exponents) × (coefficient f y ≢ zero_ℚ) × (whole_weight w x <ℤ whole_weight w y))
heavier_among w f [] x = inl (λ t k n. absurd (Contains-none t k))
heavier_among w f (s ∷ g) x = at (zero_or_not (coefficient f s.mono)) (int_cmp (whole_weight w s.mono) (whole_weight w x))
    (int_ranked (whole_weight w s.mono) (whole_weight w x) _ refl) (heavier_among w f g x)
  where
    at : (coefficient f s.mono ≡ zero_ℚ) ⊎ (¬ (coefficient f s.mono ≡ zero_ℚ)) → (o : Ordering) →
        MatchOrdering o (whole_weight w s.mono <ℤ whole_weight w x) (whole_weight w s.mono ≡ whole_weight w x) (whole_weight w x <ℤ whole_weight w s.mono) →
        ((t : Term) → Contains g t → coefficient f t.mono ≢ zero_ℚ → whole_weight w t.mono ≤ℤ whole_weight w x) ⊎
        ((y : Exponents) × (coefficient f y ≢ zero_ℚ) × (whole_weight w x <ℤ whole_weight w y)) →
        ((t : Term) → Contains (s ∷ g) t → coefficient f t.mono ≢ zero_ℚ → whole_weight w t.mono ≤ℤ whole_weight w x) ⊎
        ((y : Exponents) × (coefficient f y ≢ zero_ℚ) × (whole_weight w x <ℤ whole_weight w y))
    at z o h (inr r) = inr r
    at (inl z) o h (inl r) = inl (λ t k n. elim (Contains-cons g t s k) [
      | inl e ↦ absurd (n (ap (λ (u : Term). coefficient f u.mono) e ∙ z))
      | inr c ↦ r t c n
    ])
    at (inr c) Greater h (inl r) = inr (s.mono, c, h)
    at (inr c) Less h (inl r) = inl (λ t k n. elim (Contains-cons g t s k) [
      | inl e ↦ subst (λ (u : Term). whole_weight w u.mono ≤ℤ whole_weight w x) (sym e) (omega (arith, ints, h))
      | inr d ↦ r t d n
    ])
    at (inr c) Equal h (inl r) = inl (λ t k n. elim (Contains-cons g t s k) [
      | inl e ↦ subst (λ (u : Term). whole_weight w u.mono ≤ℤ whole_weight w x) (sym e) (omega (arith, ints, h))
      | inr d ↦ r t d n
    ])

heaviest_or_not : (w : List ℤ) (f : Terms) (x : Exponents) →
    IsOfGreatestWeight w f x ⊎ ((y : Exponents) × (coefficient f y ≢ zero_ℚ) × (whole_weight w x <ℤ whole_weight w y))
heaviest_or_not w f x = elim (heavier_among w f f x) [ inl r ↦ inl (λ y n. at y n r (occurs f y n)) | inr r ↦ inr r ]
  where
    at : (y : Exponents) → coefficient f y ≢ zero_ℚ → ((t : Term) → Contains f t → coefficient f t.mono ≢ zero_ℚ → whole_weight w t.mono ≤ℤ whole_weight w x) →
        ((t : Term) × Contains f t × (same y t.mono ≡ true)) → whole_weight w y ≤ℤ whole_weight w x
    at y n r p = omega (arith, ints, whole_weight-same w y p.0.mono p.2, r p.0 p.1 (λ z. n (coefficient-same f y p.0.mono p.2 ∙ z)))

pub initial_form_unique : (w : List ℤ) (f g h : Terms) → IsInitialForm w f g → IsInitialForm w f h → SamePolynomial g h
initial_form_unique w f g h a b x = elim (heaviest_or_not w f x) [
  | inl k ↦ a.heaviest x k ∙ sym (b.heaviest x k)
  | inr y ↦ a.lighter x y.0 y.1 y.2 ∙ sym (b.lighter x y.0 y.1 y.2)
]
