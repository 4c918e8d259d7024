-- A polynomial divided by one of its coefficients.
-- To cite: quotients_all, quotients_descend, quotients_inside, nonzero_there, monic_of_quotients.
use Rattle.std.specs.Prelude.{◌≡◌, ◌≢◌, ℕ, zero, ◌<◌, ◌≤◌, List, [], length, take}
use Rattle.std.proofs.Common.{arith, sym, ap, ◌∙◌, subst, get_or}
use Rattle.std.proofs.lemmas.List.{take_all}
use Rattle.gf_frac.specs.Fraction.{Fraction, reciprocal_ℚ, zero_ℚ}
use Rattle.gf_poly.specs.declared.Term.{Term}
use Rattle.gf_poly.specs.Polynomial.{Terms, times, IsDescending}
use Rattle.gf_poly.specs.Products.{HasProducts}
use Rattle.gf_poly.specs.Marking.{MarkedPolynomial, head_of}
use Rattle.gf_poly.proofs.MarkingLaws.{mark_at, nonzero_at, nonzero_reciprocal, head_of-times, length-times}
use Rattle.gf_poly.proofs.ProductLaws.{IsDescending-scaled, IsScaled-products, KeepsVariables-scaled}
use Rattle.gf_wide_division.specs.declared.terms.WideTerm.{WideTerm}
use Rattle.gf_wide_division.specs.Monic.{IsMonicAt}
use Rattle.gf_wide_division.specs.Values.{term_value, value_terms}
use Rattle.gf_wide_division.proofs.ValueLaws.{length-values, value_at}

-- ---- the divisor

pub nonzero_there : (f : List WideTerm) (g : Terms) (i : ℕ) (t : WideTerm) → value_terms f ≡ g → i < length g → t ≡ get_or f i t → IsDescending g →
    t.coef ≡ zero_ℚ → ⊥
nonzero_there f g i t e l is d = nonzero_at (value_terms f) i (term_value t) (subst (λ (z : Terms). i < length z) (sym e) l) (value_at f i t is)
    (subst IsDescending (sym e) d)

products_of : (k : Fraction) (f h : Terms) → k ≢ zero_ℚ → h ≡ times (reciprocal_ℚ k) [] f → HasProducts (reciprocal_ℚ k) [] f h
products_of k f h n e = record { nonzero = λ _. e; zero = λ z. absurd (nonzero_reciprocal k n z) }

-- all quotients
pub quotients_all : (c : Fraction) (f : List WideTerm) (out : Terms) (i : ℕ) → length f ≤ i → out ≡ times c [] (take i (value_terms f)) →
    out ≡ times c [] (value_terms f)
quotients_all c f out i l e = e ∙ ap (times c []) (take_all i (value_terms f) (omega (arith, l, length-values f)))

pub quotients_descend : (f : List WideTerm) (g h : Terms) (i : ℕ) (t : WideTerm) → value_terms f ≡ g → i < length g → t ≡ get_or f i t → IsDescending g →
    h ≡ times (reciprocal_ℚ t.coef) [] (value_terms f) → IsDescending h
quotients_descend f g h i t e l is d q = IsDescending-scaled (reciprocal_ℚ t.coef) (value_terms f) h (subst IsDescending (sym e) d)
    (products_of t.coef (value_terms f) h (nonzero_there f g i t e l is d) q)

pub quotients_inside : (c : Fraction) (f : List WideTerm) (g h : Terms) (i : ℕ) → value_terms f ≡ g → i < length g → h ≡ times c [] (value_terms f) →
    i < length h
quotients_inside c f g h i e l q = omega (arith, l, ap length e, ap length q, length-times c (value_terms f))

monic_here : (f h : Terms) (i : ℕ) (t : Term) → i < length f → t ≡ get_or f i t → IsDescending f → h ≡ times (reciprocal_ℚ t.coef) [] f →
    IsMonicAt f i (record { poly = h; head = head_of h i })
monic_here f h i t l is d e =
    let k : Fraction = t.coef in
    let n : k ≢ zero_ℚ = nonzero_at f i t l is d in
    let p = products_of k f h n e in
    let q : head_of h i ≡ head_of f i = ap (λ (z : Terms). head_of z i) e ∙ head_of-times (reciprocal_ℚ k) f i in
    record {
      mark = k;
      term = mark_at f i t l is;
      head = q;
      quotients = IsScaled-products (reciprocal_ℚ k) f h p;
      variables = KeepsVariables-scaled (reciprocal_ℚ k) f h p;
    }

pub monic_of_quotients : (f : List WideTerm) (g h : Terms) (i : ℕ) (t : WideTerm) (b : MarkedPolynomial) → value_terms f ≡ g → i < length g → t ≡ get_or f i t →
    IsDescending g → h ≡ times (reciprocal_ℚ t.coef) [] (value_terms f) → b ≡ record { poly = h; head = head_of h i } → IsMonicAt g i b
monic_of_quotients f g h i t b e l is d q m =
    let v : i < length (value_terms f) = subst (λ (z : Terms). i < length z) (sym e) l in
    subst (IsMonicAt g i) (sym m) (subst (λ (z : Terms). IsMonicAt z i (record { poly = h; head = head_of h i })) e
    (monic_here (value_terms f) h i (term_value t) v (value_at f i t is) (subst IsDescending (sym e) d) q))
