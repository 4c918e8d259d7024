-- What plainly written polynomials mean, and that their like terms are added in range.
-- To cite: plain_binomial, plain_sums.
use Rattle.std.specs.Ordering.{is_eq}
use Rattle.std.proofs.Common.{◌≡◌, ◌≢◌, ℕ, ◌+◌, ◌-◌, ◌≤◌, Bool, true, false, if◌then◌else◌, cond, List, [], ◌∷◌, ◌++◌, length, pos, Result, Ok, Err, Some, None}
use Rattle.std.proofs.Common.{arith, refl, ap, sym, ◌∙◌, subst}
use Rattle.std.proofs.lemmas.List.{length-append}
use Rattle.gf_frac.specs.Fraction.{Fraction, over, ◌+ℚ◌, neg_ℚ, zero_ℚ, one_ℚ}
use Rattle.gf_frac.specs.declared.refusal.Overflow.{Overflow}
use Rattle.gf_frac.proofs.FractionLaws.{+ℚ-zero, zero-+ℚ, +ℚ_comm}
use Rattle.gf_exponents_theory.specs.Exponents.{Exponents, same}
use Rattle.gf_exponents_theory.specs.Orders.{deglex}
use Rattle.gf_poly.specs.declared.Term.{Term}
use Rattle.gf_poly.specs.declared.monomial.ExponentOverflow.{ExponentOverflow}
use Rattle.gf_poly.specs.Polynomial.{Terms, coefficient}
use Rattle.gf_poly.specs.Marking.{Each}
use Rattle.gf_poly.specs.Collecting.{like, sum_of_coefficients, IsLikeSumOverflow}
use Rattle.gf_text.specs.declared.tree.WrittenTerm.{WrittenTerm}
use Rattle.gf_text.specs.Combining.{signed_fraction, coefficient_of, exponents_of, with_coefficient, before_all, terms_written}
use Rattle.gf_binomials_theory.specs.Binomials.{indicator, IsBinomial}
use Rattle.gf_binomials_theory.proofs.WholeLaws.{IsSmallWhole, small-up, small-zero, small-one, small-neg, small-+, fits-add}
use Rattle.gf_binomials_theory.proofs.MonomialLaws.{neg-zero}
use Rattle.gf_binomial_calls_theory.specs.Written.{HasNoNumber, IsPlainlyWritten}

-- ---- the terms that are written

abbrev unit : Bool → Exponents → Term
unit b x = record { coef = signed_fraction b one_ℚ; mono = x }

one_term : (c : Fraction) (r : Result Exponents ExponentOverflow) (f : Terms) → before_all (with_coefficient c r) (Ok []) ≡ Ok f →
    (x : Exponents) × (f ≡ record { coef = c; mono = x } ∷ [])
one_term c (Ok x) f e = (x, let q : f ≡ record { coef = c; mono = x } ∷ [] = cc in q)
one_term c (Err o) f e = absurd (cc)

two_terms : (c d : Fraction) (r s : Result Exponents ExponentOverflow) (f : Terms) →
    before_all (with_coefficient c r) (before_all (with_coefficient d s) (Ok [])) ≡ Ok f →
    (x : Exponents) × (y : Exponents) × (f ≡ record { coef = c; mono = x } ∷ record { coef = d; mono = y } ∷ [])
two_terms c d (Ok x) (Ok y) f e = (x, y, let q : f ≡ record { coef = c; mono = x } ∷ record { coef = d; mono = y } ∷ [] = cc in q)
two_terms c d (Ok x) (Err o) f e = absurd (cc)
two_terms c d (Err o) (Ok y) f e = absurd (cc)
two_terms c d (Err o) (Err p) f e = absurd (cc)

unit_coefficient : (u : WrittenTerm) → HasNoNumber u → coefficient_of u ≡ signed_fraction u.minus one_ℚ
unit_coefficient u h = ap (λ z. signed_fraction u.minus (over (pos z) (u.denom - 1))) h.numerator ∙
    ap (λ z. signed_fraction u.minus (over (pos 1) (z - 1))) h.denominator

-- ---- what they mean

plus_at : (x e : Exponents) → coefficient (unit false x ∷ []) e ≡ indicator (Some x) e
plus_at x e = +ℚ-zero _

minus_at : (x e : Exponents) → coefficient (unit true x ∷ []) e ≡ neg_ℚ (indicator (Some x) e)
minus_at x e = +ℚ-zero _ ∙ at (same e x)
  where
    at : (b : Bool) → (if b then neg_ℚ one_ℚ else zero_ℚ) ≡ neg_ℚ (if b then one_ℚ else zero_ℚ)
    at true = refl
    at false = sym neg-zero

single : (b : Bool) (x : Exponents) → IsBinomial (unit b x ∷ [])
single false x = record {
  first = Some x;
  second = None;
  binomial = record { equation = λ e. plus_at x e ∙ sym (ap (λ z. indicator (Some x) e +ℚ z) neg-zero ∙ +ℚ-zero _) };
}
single true x = record { first = None; second = Some x; binomial = record { equation = λ e. minus_at x e ∙ sym (zero-+ℚ _) } }

double : (b c : Bool) (x y : Exponents) → b ≢ c → IsBinomial (unit b x ∷ unit c y ∷ [])
double false false x y n = absurd (n refl)
double true true x y n = absurd (n refl)
double false true x y n = record { first = Some x; second = Some y; binomial = record { equation = λ e. ap (λ z. indicator (Some x) e +ℚ z) (minus_at y e) } }
double true false x y n = record {
  first = Some y;
  second = Some x;
  binomial = record {
    equation = λ e.
        ap (λ z. z +ℚ coefficient (unit false y ∷ []) e) (sym (+ℚ-zero _) ∙ minus_at x e) ∙ ap (λ z. neg_ℚ (indicator (Some x) e) +ℚ z) (plus_at y e) ∙
        +ℚ_comm _ _;
  };
}

pub plain_binomial : (n : ℕ) (us : List WrittenTerm) (f : Terms) → IsPlainlyWritten us → terms_written n us ≡ Ok f → IsBinomial f
plain_binomial n [] f h e = absurd h
plain_binomial n (u ∷ []) f h e =
    let t = one_term (coefficient_of u) (exponents_of n u) f e in
    subst IsBinomial (sym (t.1 ∙ ap (λ c. record { coef = c; mono = t.0 } ∷ []) (unit_coefficient u h))) (single u.minus t.0)
plain_binomial n (u ∷ v ∷ []) f h e =
    let t = two_terms (coefficient_of u) (coefficient_of v) (exponents_of n u) (exponents_of n v) f e in
    subst IsBinomial (sym (t.2 ∙ ap (λ c. record { coef = c; mono = t.0 } ∷ record { coef = coefficient_of v; mono = t.1 } ∷ []) (unit_coefficient u h.0)
    ∙ ap (λ c. unit u.minus t.0 ∷ record { coef = c; mono = t.1 } ∷ []) (unit_coefficient v h.1))) (double u.minus v.minus t.0 t.1 h.2)
plain_binomial n (u ∷ v ∷ w ∷ us) f h e = absurd h

-- ---- sums of like terms

abbrev AreUnits : Terms → Type 0
AreUnits f = Each (λ (t : Term). IsSmallWhole 1 t.coef) f

small_unit : (b : Bool) → IsSmallWhole 1 (signed_fraction b one_ℚ)
small_unit true = small-neg 1 one_ℚ small-one
small_unit false = small-one

small_sum : (f : Terms) → AreUnits f → IsSmallWhole (length f) (sum_of_coefficients f)
small_sum [] h = small-zero
small_sum (t ∷ f) h = small-up (1 + length f) (length (t ∷ f)) _ (omega arith) (small-+ 1 (length f) t.coef (sum_of_coefficients f) h.0 (small_sum f h.1))

like_units : (x : Exponents) (f : Terms) → AreUnits f → AreUnits (like x f)
like_units x [] h = tt
like_units x (t ∷ f) h = at (is_eq (deglex x t.mono)) (like_units x f h.1)
  where
    at : (b : Bool) → AreUnits (like x f) → AreUnits (cond b (t ∷ like x f) (like x f))
    at true k = (h.0, k)
    at false k = k

like_length : (x : Exponents) (f : Terms) → length (like x f) ≤ length f
like_length x [] = omega arith
like_length x (t ∷ f) = at (is_eq (deglex x t.mono)) (like_length x f)
  where
    at : (b : Bool) → length (like x f) ≤ length f → length (cond b (t ∷ like x f) (like x f)) ≤ length (t ∷ f)
    at true k = omega (arith, k)
    at false k = omega (arith, k)

front_units : (f : Terms) (t : Term) (g : Terms) → AreUnits (f ++ t ∷ g) → AreUnits f × IsSmallWhole 1 t.coef
front_units [] t g h = (tt, h.0)
front_units (s ∷ f) t g h = let r = front_units f t g h.1 in ((h.0, r.0), r.1)

few_units : (f : Terms) (o : Overflow) → AreUnits f → length f ≤ 2 → IsLikeSumOverflow f o → ⊥
few_units f o h l w =
    let k = front_units w.earlier w.last w.later (subst AreUnits w.split (like_units w.at f h)) in
    let m : length w.earlier ≤ 2 = omega (arith, like_length w.at f, l, ap length w.split, length-append w.earlier (w.last ∷ w.later)) in
    w.leaves (fits-add (length w.earlier) 1 o.left o.right (omega (arith, m)) (omega arith) (subst (IsSmallWhole (length w.earlier)) (sym w.left)
    (small_sum w.earlier k.0)) (subst (IsSmallWhole 1) (sym w.right) k.1))

small_term : (u : WrittenTerm) → HasNoNumber u → IsSmallWhole 1 (coefficient_of u)
small_term u h = subst (IsSmallWhole 1) (sym (unit_coefficient u h)) (small_unit u.minus)

pub plain_sums : (n : ℕ) (us : List WrittenTerm) (f : Terms) (o : Overflow) → IsPlainlyWritten us → terms_written n us ≡ Ok f → IsLikeSumOverflow f o → ⊥
plain_sums n [] f o h e w = h
plain_sums n (u ∷ []) f o h e w =
    let t = one_term (coefficient_of u) (exponents_of n u) f e in
    few_units f o (subst AreUnits (sym t.1) (small_term u h, tt)) (omega (arith, ap length t.1)) w
plain_sums n (u ∷ v ∷ []) f o h e w =
    let t = two_terms (coefficient_of u) (coefficient_of v) (exponents_of n u) (exponents_of n v) f e in
    few_units f o (subst AreUnits (sym t.2) (small_term u h.0, (small_term v h.1, tt))) (omega (arith, ap length t.2)) w
plain_sums n (u ∷ v ∷ x ∷ us) f o h e w = h
