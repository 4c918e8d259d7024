-- Marked terms by their indices, monic polynomials, and lists of marked polynomials.
-- To cite: coefficient_at, coefficient_nonzero, head_value, head_marked, monic_value, monic_cause, length-products,
-- HaveVariables-permutation, by_head, arranged. The rest are steps.
use Rattle.std.specs.Prelude.{◌≡◌, ◌≢◌, ℕ, zero, suc, ◌<◌, List, [], ◌∷◌, length, Contains, IsPermutation, IsSortedByKey}
use Rattle.std.specs.List.Sorted.{IsStableByKey}
use Rattle.std.specs.Cmp.{IsStrictWeakOrder}
use Rattle.std.specs.Ordering.{is_lt}
use Rattle.std.proofs.lemmas.Cmp.{nat_list_cmp_total}
use Rattle.std.proofs.Common.{arith, refl, sym, ap, subst, ◌∙◌, inl, inr, get_or}
use Rattle.std.proofs.lemmas.List.Sorted.{ranks_by}
use Rattle.gf_frac.specs.Fraction.{Fraction, ◌*ℚ◌, reciprocal_ℚ, zero_ℚ, one_ℚ}
use Rattle.gf_frac.proofs.FractionLaws.{reciprocal_ℚ-*ℚ, zero-*ℚ, zero-not-one}
use Rattle.gf_exponents_theory.specs.Orders.{lex}
use Rattle.gf_poly.specs.declared.error.PolyError.{PolyError}
use Rattle.gf_poly.specs.declared.Term.{Term}
use Rattle.gf_poly.specs.declared.products.Scaling.TheVariants.{Over}
use Rattle.gf_poly.specs.Polynomial.{Terms, times, times_term, IsDescending}
use Rattle.gf_poly.specs.Products.{HasProducts, ScalesFit, IsScaleCause}
use Rattle.gf_poly.specs.Marking.{MarkedPolynomial, head_of, HasMark, HasMarkedTerm, IsMonicOf, IsMonicCause, MarkedPolynomials, IsArranged}
use Rattle.gf_poly.proofs.DescendingLaws.{Contains-cons, Contains-there, Contains-none}
use Rattle.gf_poly.proofs.ProductLaws.{IsScaled-products, KeepsVariables-scaled}

-- ---- indices
head_of-at : (f : Terms) (i : ℕ) (t : Term) → i < length f → t ≡ get_or f i t → t.mono ≡ head_of f i
head_of-at [] i t h is = absurd (omega arith)
head_of-at (s ∷ f) zero t h is = ap (λ (z : Term). z.mono) is
head_of-at (s ∷ f) (suc i) t h is = head_of-at f i t (omega arith) is

pub mark_at : (f : Terms) (i : ℕ) (t : Term) → i < length f → t ≡ get_or f i t → HasMark (record { poly = f; head = head_of f i }) t.coef
mark_at f i t h is =
    let u : Term = record { coef = t.coef; mono = head_of f i } in
    let m : t.mono ≡ head_of f i = head_of-at f i t h is in
    let e : t ≡ u = λ q. record { coef = t.coef; mono = m q } in
    (i, h, ap (get_or f i) (sym e) ∙ sym is ∙ e)

pub nonzero_at : (f : Terms) (i : ℕ) (t : Term) → i < length f → t ≡ get_or f i t → IsDescending f → t.coef ≢ zero_ℚ
nonzero_at [] i t h is d = absurd (omega arith)
nonzero_at (s ∷ f) zero t h is d = λ z. d.0 (ap (λ (w : Term). w.coef) (sym is) ∙ z)
nonzero_at (s ∷ f) (suc i) t h is d = nonzero_at f i t (omega arith) is d.2

-- ---- monic
pub nonzero_reciprocal : (k : Fraction) → k ≢ zero_ℚ → reciprocal_ℚ k ≢ zero_ℚ
nonzero_reciprocal k n z = zero-not-one (sym (zero-*ℚ k) ∙ ap (λ x. x *ℚ k) (sym z) ∙ reciprocal_ℚ-*ℚ k n)

pub head_of-times : (c : Fraction) (f : Terms) (i : ℕ) → head_of (times c [] f) i ≡ head_of f i
head_of-times c [] i = refl
head_of-times c (t ∷ f) zero = refl
head_of-times c (t ∷ f) (suc i) = head_of-times c f i

pub length-times : (c : Fraction) (f : Terms) → length (times c [] f) ≡ length f
length-times c [] = refl
length-times c (t ∷ f) = ap suc (length-times c f)

contains_times : (c : Fraction) (f : Terms) (t : Term) → Contains f t → Contains (times c [] f) (times_term c [] t)
contains_times c [] t h = absurd (Contains-none t h)
contains_times c (s ∷ f) t h = elim (Contains-cons f t s h) [
  | inl e ↦ subst (λ (z : Term). Contains (times c [] (s ∷ f)) (times_term c [] z)) (sym e) (0, omega arith, refl)
  | inr r ↦ Contains-there (times c [] f) (times_term c [] t) (times_term c [] s) (contains_times c f t r)
]

pub length-products : (k : Fraction) (f h : Terms) → k ≢ zero_ℚ → HasProducts (reciprocal_ℚ k) [] f h → length h ≡ length f
length-products k f h n p = ap (λ (z : Terms). length z) (p.nonzero (nonzero_reciprocal k n)) ∙ length-times (reciprocal_ℚ k) f

pub monic_at : (f h : Terms) (i : ℕ) (k : Fraction) → HasMark (record { poly = f; head = head_of f i }) k → k ≢ zero_ℚ → HasProducts (reciprocal_ℚ k) [] f h →
    ScalesFit Over k f → IsMonicOf (record { poly = f; head = head_of f i }) (record { poly = h; head = head_of h i })
monic_at f h i k m n p w =
    let e : h ≡ times (reciprocal_ℚ k) [] f = p.nonzero (nonzero_reciprocal k n) in
    let q : head_of h i ≡ head_of f i = ap (λ (z : Terms). head_of z i) e ∙ head_of-times (reciprocal_ℚ k) f i in
    let c = contains_times (reciprocal_ℚ k) f (record { coef = k; mono = head_of f i }) m in
    record {
      mark = k;
      term = m;
      head = q;
      quotients = IsScaled-products (reciprocal_ℚ k) f h p;
      one = subst (λ (z : Terms). Contains z (record { coef = one_ℚ; mono = head_of h i })) (sym e)
          (subst (λ x. Contains (times (reciprocal_ℚ k) [] f) (record { coef = one_ℚ; mono = x })) (sym q)
          (subst (λ x. Contains (times (reciprocal_ℚ k) [] f) (record { coef = x; mono = head_of f i })) (reciprocal_ℚ-*ℚ k n) c));
      variables = KeepsVariables-scaled (reciprocal_ℚ k) f h p;
      fits = w;
    }

-- ---- lists

-- ---- the same of a marked polynomial that is kept as its terms f and the index i
pub coefficient_at : (b : MarkedPolynomial) (f g : Terms) (i : ℕ) (t : Term) → ◌≡◌ {A = MarkedPolynomial} (record { poly = f; head = head_of f i }) b → g ≡ f →
    i < length f → t ≡ get_or g i t → HasMark b (get_or g i t).coef
coefficient_at b f g i t v e h is =
    subst (λ z. HasMark z (get_or g i t).coef) v
    (subst (λ (z : Term). HasMark (record { poly = f; head = head_of f i }) z.coef) is (mark_at f i t h (is ∙ ap (λ (z : Terms). get_or z i t) e)))

pub coefficient_nonzero : (f g : Terms) (i : ℕ) (t : Term) → g ≡ f → i < length f → t ≡ get_or g i t → IsDescending f → (get_or g i t).coef ≢ zero_ℚ
coefficient_nonzero f g i t e h is d = subst (λ (z : Term). z.coef ≢ zero_ℚ) is (nonzero_at f i t h (is ∙ ap (λ (z : Terms). get_or z i t) e) d)

pub head_value : (b : MarkedPolynomial) (f g : Terms) (i : ℕ) (t : Term) → ◌≡◌ {A = MarkedPolynomial} (record { poly = f; head = head_of f i }) b → g ≡ f →
    i < length f → t ≡ get_or g i t → (get_or g i t).mono ≡ b.head
head_value b f g i t v e h is = ap (λ (z : Term). z.mono) (sym is) ∙ head_of-at f i t h (is ∙ ap (λ (z : Terms). get_or z i t) e) ∙
    ap (λ (z : MarkedPolynomial). z.head) v

pub head_marked : (b : MarkedPolynomial) (f g : Terms) (i : ℕ) (t : Term) → ◌≡◌ {A = MarkedPolynomial} (record { poly = f; head = head_of f i }) b → g ≡ f →
    i < length f → t ≡ get_or g i t → IsDescending f → HasMarkedTerm b
head_marked b f g i t v e h is d =
    subst HasMarkedTerm v (record { descending = d; mark = t.coef; term = mark_at f i t h (is ∙ ap (λ (z : Terms). get_or z i t) e) })

pub monic_value : (b : MarkedPolynomial) (f h : Terms) (i : ℕ) (k : Fraction) → ◌≡◌ {A = MarkedPolynomial} (record { poly = f; head = head_of f i }) b →
    HasMark b k → k ≢ zero_ℚ → HasProducts (reciprocal_ℚ k) [] f h → ScalesFit Over k f → IsMonicOf b (record { poly = h; head = head_of h i })
monic_value b f h i k v m n p w = subst (λ z. HasMark z k → IsMonicOf z (record { poly = h; head = head_of h i })) v (λ q. monic_at f h i k q n p w) m

pub monic_cause : (b : MarkedPolynomial) (f : Terms) (i : ℕ) (k : Fraction) (e : PolyError) →
    ◌≡◌ {A = MarkedPolynomial} (record { poly = f; head = head_of f i }) b → HasMark b k → IsScaleCause Over k f e → IsMonicCause b e
monic_cause b f i k e v m c = record { mark = k; term = m; cause = subst (λ (z : MarkedPolynomial). IsScaleCause Over k z.poly e) v c }

pub by_head : IsStrictWeakOrder (λ (a b : MarkedPolynomial). is_lt (lex a.head b.head))
by_head = ranks_by nat_list_cmp_total (λ (b : MarkedPolynomial). b.head)

pub arranged : (s : MarkedPolynomials) (n : ℕ) (xs ys : List MarkedPolynomial) → ◌≡◌ {A = MarkedPolynomials} (record { variables = n; items = xs }) s →
    IsPermutation xs ys → IsSortedByKey (λ (b : MarkedPolynomial). b.head) lex ys → IsStableByKey (λ (b : MarkedPolynomial). b.head) lex xs ys →
    IsArranged s (record { variables = n; items = ys })
arranged s n xs ys v p up stable = subst (λ z. IsArranged z (record { variables = n; items = ys })) v
    (record { variables = refl; members = p; ascending = up; stable = stable })
