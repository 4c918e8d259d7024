-- Coefficients of descending lists in n variables, and that such a list is known by its coefficients.
-- To cite: coefficient-above, coefficient-head, coefficient-skip, term_length, term_nonzero, term_coefficient,
-- descending_unique, found_at, skipped_at, not_found_at.
use Rattle.std.specs.Prelude.{◌≡◌, ◌⊎◌, ◌≢◌, ℕ, ◌+◌, ◌<◌, Bool, true, false, if◌then◌else◌, [], ◌∷◌, length, Contains}
use Rattle.std.specs.declared.cmp.Ordering.{Ordering}
use Rattle.std.specs.declared.cmp.Ordering.TheVariants.{Greater, Less, Equal}
use Rattle.std.proofs.Common.{arith, refl, sym, ap, subst, ◌∙◌, inl, inr, drop, get_or}
use Rattle.std.proofs.lemmas.List.{drop_more}
use Rattle.gf_frac.specs.Fraction.{Fraction, ◌+ℚ◌, neg_ℚ, zero_ℚ}
use Rattle.gf_frac.proofs.FractionLaws.{+ℚ_assoc, +ℚ_comm, +ℚ-zero, zero-+ℚ, +ℚ-neg_ℚ}
use Rattle.gf_exponents_theory.specs.Exponents.{Exponents, same}
use Rattle.gf_exponents_theory.specs.Orders.{deglex}
use Rattle.gf_exponents_theory.proofs.ExponentsLaws.{same-refl, entries_same}
use Rattle.gf_poly.specs.declared.Term.{Term}
use Rattle.gf_poly.specs.Polynomial.{Terms, coefficient, SamePolynomial, IsAbove, IsDescending, HasVariables}
use Rattle.gf_poly.proofs.MonomialLaws.{same_lists}
use Rattle.gf_poly.proofs.DescendingLaws.{less_greater, never_greater, equal_same, IsAbove-from, IsAbove-contains, Contains-cons}

-- ---- the same monomial, and another
same_is : (x y : Exponents) → length x ≡ length y → same x y ≡ true → x ≡ y
same_is x y l s = same_lists x y l (entries_same x y s)

false_or_true : (b : Bool) → (b ≡ false) ⊎ (b ≡ true)
false_or_true false = inl refl
false_or_true true = inr refl

pub apart : (x y : Exponents) → length x ≡ length y → (x ≡ y → ⊥) → same x y ≡ false
apart x y l h = elim (false_or_true (same x y)) [ inl f ↦ f | inr t ↦ absurd (h (same_is x y l t)) ]

pub apart_below : (x y : Exponents) → length x ≡ length y → deglex x y ≡ Greater → same x y ≡ false
apart_below x y l g = apart x y l (λ e. never_greater y (subst (λ z. deglex z y ≡ Greater) e g))

pub apart_above : (x y : Exponents) → length x ≡ length y → deglex y x ≡ Greater → same x y ≡ false
apart_above x y l g = apart x y l (λ e. never_greater y (subst (λ z. deglex y z ≡ Greater) e g))

-- ---- coefficients
-- above all terms
pub coefficient-above : (n : ℕ) (f : Terms) (e : Exponents) → HasVariables n f → length e ≡ n → IsAbove e f → coefficient f e ≡ zero_ℚ
coefficient-above n [] e h l a = refl
coefficient-above n (t ∷ f) e h l a =
    ap (λ b. (if b then t.coef else zero_ℚ) +ℚ coefficient f e) (apart_below e t.mono (l ∙ sym h.0) a.0)
    ∙ zero-+ℚ _ ∙ coefficient-above n f e h.1 l a.1

-- at the head
pub coefficient-head : (n : ℕ) (t : Term) (f : Terms) → HasVariables n (t ∷ f) → IsAbove t.mono f → coefficient (t ∷ f) t.mono ≡ t.coef
coefficient-head n t f h a =
    ap (λ b. (if b then t.coef else zero_ℚ) +ℚ coefficient f t.mono) (same-refl t.mono)
    ∙ ap (λ z. t.coef +ℚ z) (coefficient-above n f t.mono h.1 h.0 a) ∙ +ℚ-zero t.coef

-- below the head
pub coefficient-skip : (n : ℕ) (t : Term) (f : Terms) (e : Exponents) → HasVariables n (t ∷ f) → length e ≡ n → deglex t.mono e ≡ Greater →
    coefficient (t ∷ f) e ≡ coefficient f e
coefficient-skip n t f e h l g =
    ap (λ b. (if b then t.coef else zero_ℚ) +ℚ coefficient f e) (apart_above e t.mono (l ∙ sym h.0) g) ∙ zero-+ℚ _

-- of a term of the list
pub coefficient-contains : (n : ℕ) (f : Terms) (t : Term) → HasVariables n f → IsDescending f → Contains f t → length t.mono ≡ n → coefficient f t.mono ≡ t.coef
coefficient-contains n [] t h d (k, l, e) m = absurd (omega arith)
coefficient-contains n (s ∷ f) t h d c m = elim (Contains-cons f t s c) [
  | inl e ↦ subst (λ (z : Term). coefficient (s ∷ f) z.mono ≡ z.coef) (sym e) (coefficient-head n s f h d.1)
  | inr r ↦ coefficient-skip n s f t.mono h m (IsAbove-contains s.mono f t d.1 r) ∙ coefficient-contains n f t h.1 d.2 r m
]

-- ---- a term of a descending list
pub term_length : (n : ℕ) (f : Terms) (t : Term) → HasVariables n f → Contains f t → length t.mono ≡ n
term_length n [] t h c = absurd (omega (arith, c.1))
term_length n (s ∷ f) t h c = elim (Contains-cons f t s c) [ inl e ↦ subst (λ (u : Term). length u.mono ≡ n) (sym e) h.0 | inr k ↦ term_length n f t h.1 k ]

pub term_nonzero : (f : Terms) (t : Term) → IsDescending f → Contains f t → t.coef ≢ zero_ℚ
term_nonzero [] t h c = absurd (omega (arith, c.1))
term_nonzero (s ∷ f) t h c = elim (Contains-cons f t s c) [ inl e ↦ subst (λ (u : Term). u.coef ≢ zero_ℚ) (sym e) h.0 | inr k ↦ term_nonzero f t h.2 k ]

pub term_coefficient : (n : ℕ) (f : Terms) (t : Term) → HasVariables n f → IsDescending f → Contains f t → coefficient f t.mono ≡ t.coef
term_coefficient n f t v d c = coefficient-contains n f t v d c (term_length n f t v c)

-- ---- a search
-- what is left has the coefficient that is looked for
pub record Finding (f : Terms) (e : Exponents) (fs : Terms) : Type 0 where
  pub coefficient_left : coefficient fs e ≡ coefficient f e
  pub descending : IsDescending fs
  pub variables : HasVariables (length e) fs

pub head_at : (f : Terms) (i : ℕ) (t : Term) → i < length f → t ≡ get_or f i t → drop i f ≡ t ∷ drop (i + 1) f
head_at f i t h is = drop_more f i t h ∙ ap (λ (x : Term). x ∷ drop (i + 1) f) (sym is)

pub skipped_at : (f : Terms) (e : Exponents) (i : ℕ) (t : Term) → i < length f → t ≡ get_or f i t → deglex t.mono e ≡ Greater → Finding f e (drop i f) →
    Finding f e (drop (i + 1) f)
skipped_at f e i t h is g m =
    let n : Finding f e (t ∷ drop (i + 1) f) = subst (Finding f e) (head_at f i t h is) m in
    record {
      coefficient_left = sym (coefficient-skip (length e) t (drop (i + 1) f) e n.variables refl g) ∙ n.coefficient_left;
      descending = n.descending.2;
      variables = n.variables.1;
    }

pub found_at : (f : Terms) (e : Exponents) (i : ℕ) (t : Term) → i < length f → t ≡ get_or f i t → deglex t.mono e ≡ Equal → Finding f e (drop i f) →
    t.coef ≡ coefficient f e
found_at f e i t h is g m =
    let n : Finding f e (t ∷ drop (i + 1) f) = subst (Finding f e) (head_at f i t h is) m in
    sym (coefficient-head (length e) t (drop (i + 1) f) n.variables n.descending.1)
    ∙ ap (coefficient (t ∷ drop (i + 1) f)) (equal_same t.mono e g) ∙ n.coefficient_left

pub passed_at : (f : Terms) (e : Exponents) (i : ℕ) (t : Term) → i < length f → t ≡ get_or f i t → deglex t.mono e ≡ Less → Finding f e (drop i f) →
    zero_ℚ ≡ coefficient f e
passed_at f e i t h is g m =
    let n : Finding f e (t ∷ drop (i + 1) f) = subst (Finding f e) (head_at f i t h is) m in
    let above : deglex e t.mono ≡ Greater = less_greater t.mono e g in
    sym (coefficient-above (length e) (t ∷ drop (i + 1) f) e n.variables refl (above, IsAbove-from e t.mono (drop (i + 1) f) above n.descending.1)) ∙
    n.coefficient_left

-- ---- one list for one polynomial
-- a head above another's doesn't vanish there
no_greater : (n : ℕ) (s t : Term) (f g : Terms) → HasVariables n (s ∷ f) → HasVariables n (t ∷ g) → IsDescending (s ∷ f) → IsDescending (t ∷ g) →
    SamePolynomial (s ∷ f) (t ∷ g) → deglex s.mono t.mono ≡ Greater → ⊥
no_greater n s t f g h k d b p o =
    d.0 (sym (coefficient-head n s f h d.1) ∙ p s.mono ∙ coefficient-above n (t ∷ g) s.mono k h.0 (o, IsAbove-from s.mono t.mono g o b.1))

no_more : (n : ℕ) (t : Term) (g : Terms) → HasVariables n (t ∷ g) → IsDescending (t ∷ g) → SamePolynomial [] (t ∷ g) → ⊥
no_more n t g k b p = b.0 (sym (coefficient-head n t g k b.1) ∙ sym (p t.mono))

-- the rests are the same, where the heads are
same_rests : (n : ℕ) (s : Term) (f g : Terms) → HasVariables n (s ∷ f) → HasVariables n (s ∷ g) → IsDescending (s ∷ f) → IsDescending (s ∷ g) →
    SamePolynomial (s ∷ f) (s ∷ g) → SamePolynomial f g
same_rests n s f g h k d b p e = cancel (if same e s.mono then s.coef else zero_ℚ) (coefficient f e) (coefficient g e) (p e)
  where
    undo : (c x : Fraction) → neg_ℚ c +ℚ (c +ℚ x) ≡ x
    undo c x = sym (+ℚ_assoc (neg_ℚ c) c x) ∙ ap (λ z. z +ℚ x) (+ℚ_comm (neg_ℚ c) c ∙ +ℚ-neg_ℚ c) ∙ zero-+ℚ x

    cancel : (c x y : Fraction) → c +ℚ x ≡ c +ℚ y → x ≡ y
    cancel c x y q = sym (undo c x) ∙ ap (λ z. neg_ℚ c +ℚ z) q ∙ undo c y

-- the heads are the same, where neither monomial is greater
same_heads : (n : ℕ) (s t : Term) (f g : Terms) → HasVariables n (s ∷ f) → HasVariables n (t ∷ g) → IsDescending (s ∷ f) → IsDescending (t ∷ g) →
    SamePolynomial (s ∷ f) (t ∷ g) → s.mono ≡ t.mono → s ≡ t
same_heads n s t f g h k d b p m =
    let c : s.coef ≡ t.coef = sym (coefficient-head n s f h d.1) ∙ p s.mono ∙ ap (coefficient (t ∷ g)) m ∙ coefficient-head n t g k b.1 in
    λ q. record { coef = c q; mono = m q }

-- two descending lists in n variables with the same coefficients are equal
pub descending_unique : (n : ℕ) (f g : Terms) → HasVariables n f → HasVariables n g → IsDescending f → IsDescending g → SamePolynomial f g → f ≡ g
descending_unique n [] [] h k d b p = refl
descending_unique n [] (t ∷ g) h k d b p = absurd (no_more n t g k b p)
descending_unique n (s ∷ f) [] h k d b p = absurd (no_more n s f h d (λ e. sym (p e)))
descending_unique n (s ∷ f) (t ∷ g) h k d b p = at (deglex s.mono t.mono) refl (λ y v w z. descending_unique n f y h.1 v d.2 w z)
  where
    whole : s ≡ t → ((y : Terms) → HasVariables n y → IsDescending y → SamePolynomial f y → f ≡ y) → ◌≡◌ {A = Terms} (s ∷ f) (t ∷ g)
    whole e rests =
        let k' : HasVariables n (s ∷ g) = subst (λ (z : Term). HasVariables n (z ∷ g)) (sym e) k in
        let b' : IsDescending (s ∷ g) = subst (λ (z : Term). IsDescending (z ∷ g)) (sym e) b in
        let p' : SamePolynomial (s ∷ f) (s ∷ g) = subst (λ (z : Term). SamePolynomial (s ∷ f) (z ∷ g)) (sym e) p in
        ap (λ (z : Term). z ∷ f) e ∙ ap (λ (z : Terms). t ∷ z) (rests g k.1 b.2 (same_rests n s f g h k' d b' p'))

    at : (o : Ordering) → deglex s.mono t.mono ≡ o → ((y : Terms) → HasVariables n y → IsDescending y → SamePolynomial f y → f ≡ y) →
        ◌≡◌ {A = Terms} (s ∷ f) (t ∷ g)
    at Greater o rests = absurd (no_greater n s t f g h k d b p o)
    at Less o rests = absurd (no_greater n t s g f k h b d (λ e. sym (p e)) (less_greater s.mono t.mono o))
    at Equal o rests = whole (same_heads n s t f g h k d b p (equal_same s.mono t.mono o)) rests
