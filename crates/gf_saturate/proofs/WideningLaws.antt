-- Polynomials in one more variable: what stays as it is.
use Rattle.std.specs.Prelude.{◌≡◌, ℕ, zero, suc, ◌+◌, ◌^◌, ◌<◌, ◌≤◌, [], ◌∷◌, ◌++◌, length, take, map, replicate, if◌then◌else◌}
use Rattle.std.specs.Ordering.{nat_cmp, ordering_then}
use Rattle.std.specs.Cmp.Lexicographic.{slice_cmp}
use Rattle.std.specs.Ordering.{MatchOrdering}
use Rattle.std.specs.declared.cmp.Ordering.{Ordering}
use Rattle.std.specs.declared.cmp.Ordering.TheVariants.{Less, Equal, Greater}
use Rattle.std.proofs.lemmas.Cmp.{ranked}
use Rattle.std.proofs.Common.{arith, refl, sym, ap, ◌∙◌, set, length-append}
use Rattle.std.proofs.lemmas.List.{take-replicate, length-replicate}
use Rattle.gf_exponents_theory.specs.Exponents.{Exponents, entry, same, degree}
use Rattle.gf_exponents_theory.specs.Orders.{deglex, lex}
use Rattle.gf_poly.specs.declared.Term.{Term}
use Rattle.gf_poly.specs.Polynomial.{Terms, coefficient, SamePolynomial, IsAbove, IsDescending, HasVariables}
use Rattle.gf_exponents_theory.proofs.ExponentsLaws.{same-sym, same_along, same_by_entries}
use Rattle.gf_frac.specs.Fraction.{Fraction, ◌+ℚ◌, zero_ℚ, one_ℚ, neg_ℚ}
use Rattle.gf_poly.specs.Marking.{Each}
use Rattle.gf_frac.proofs.FractionLaws.{+ℚ-neg_ℚ, +ℚ-zero}
use Rattle.gf_ideal_theory.proofs.Identities.{one_not_zero}
use Rattle.gf_poly.specs.Monomial.{IsMonomial}
use Rattle.gf_poly.proofs.MonomialLaws.{limit_by_entries, entry-ones, degree-ones}
use Rattle.gf_poly.specs.declared.TheConstants.{ROOM}
use Rattle.gf_saturate.specs.Widening.{widened_term, narrowed_term, rabinowitsch_terms, variable_at}

degree-push : (x : Exponents) → degree (x ++ 0 ∷ []) ≡ degree x
degree-push [] = refl
degree-push (a ∷ x) = ap (λ z. a + z) (degree-push x)

lex-push : (x y : Exponents) → length x ≡ length y → slice_cmp nat_cmp (x ++ 0 ∷ []) (y ++ 0 ∷ []) ≡ slice_cmp nat_cmp x y
lex-push [] [] l = refl
lex-push [] (b ∷ y) l = absurd (omega arith)
lex-push (a ∷ x) [] l = absurd (omega arith)
lex-push (a ∷ x) (b ∷ y) l = ap (ordering_then (nat_cmp a b)) (lex-push x y (omega arith))

pub deglex-push : (x y : Exponents) → length x ≡ length y → deglex (x ++ 0 ∷ []) (y ++ 0 ∷ []) ≡ deglex x y
deglex-push x y l = ap (λ d. ordering_then (nat_cmp d (degree (y ++ 0 ∷ []))) (lex (x ++ 0 ∷ []) (y ++ 0 ∷ []))) (degree-push x) ∙
    ap (λ d. ordering_then (nat_cmp (degree x) d) (lex (x ++ 0 ∷ []) (y ++ 0 ∷ []))) (degree-push y) ∙ ap (ordering_then (nat_cmp (degree x) (degree y)))
    (lex-push x y l)

above-widened : (n : ℕ) (x : Exponents) (f : Terms) → length x ≡ n → HasVariables n f → IsAbove x f → IsAbove (x ++ 0 ∷ []) (map widened_term f)
above-widened n x [] l v a = tt
above-widened n x (t ∷ f) l v a = (deglex-push x t.mono (l ∙ sym v.0) ∙ a.0, above-widened n x f l v.1 a.1)

pub descending-widened : (n : ℕ) (f : Terms) → HasVariables n f → IsDescending f → IsDescending (map widened_term f)
descending-widened n [] v d = tt
descending-widened n (t ∷ f) v d = (d.0, above-widened n t.mono f v.0 v.1 d.1, descending-widened n f v.1 d.2)

above-narrowed : (n : ℕ) (x : Exponents) (f : Terms) → length x ≡ n → HasVariables n f → IsAbove (x ++ 0 ∷ []) (map widened_term f) → IsAbove x f
above-narrowed n x [] l v a = tt
above-narrowed n x (t ∷ f) l v a = (sym (deglex-push x t.mono (l ∙ sym v.0)) ∙ a.0, above-narrowed n x f l v.1 a.1)

pub descending-narrowed : (n : ℕ) (f : Terms) → HasVariables n f → IsDescending (map widened_term f) → IsDescending f
descending-narrowed n [] v d = tt
descending-narrowed n (t ∷ f) v d = (d.0, above-narrowed n t.mono f v.0 v.1 d.1, descending-narrowed n f v.1 d.2)

pub variables-widened : (n : ℕ) (f : Terms) → HasVariables n f → HasVariables (n + 1) (map widened_term f)
variables-widened n [] v = tt
variables-widened n (t ∷ f) v = (omega (arith, length-append t.mono (0 ∷ []), v.0), variables-widened n f v.1)

-- ---- the relation

degree-last : (u : Exponents) (e : ℕ) → degree (u ++ e ∷ []) ≡ degree u + e
degree-last [] e = omega arith
degree-last (a ∷ u) e = omega (arith, degree-last u e)

pub product-above : (u : Exponents) → deglex (u ++ 1 ∷ []) (replicate (length u + 1) 0) ≡ Greater
product-above u = at (degree (u ++ 1 ∷ [])) (degree (replicate (length u + 1) 0)) (degree-last u 1) (degree-ones (length u + 1))
  where
    at : (d e : ℕ) → d ≡ degree u + 1 → e ≡ 0 → ordering_then (nat_cmp d e) (lex (u ++ 1 ∷ []) (replicate (length u + 1) 0)) ≡ Greater
    at d e p q = ap (λ o. ordering_then o (lex (u ++ 1 ∷ []) (replicate (length u + 1) 0))) (above d e (omega arith))
      where
        above : (d e : ℕ) → e < d → nat_cmp d e ≡ Greater
        above d e l = by (nat_cmp d e) (ranked d e _ refl)
          where
            by : (o : Ordering) → MatchOrdering o (d < e) (d ≡ e) (e < d) → o ≡ Greater
            by Less m = absurd (omega arith)
            by Equal m = absurd (omega arith)
            by Greater m = refl

pub relation-descending : (u : Exponents) → IsDescending (rabinowitsch_terms u)
relation-descending u = (
  one_not_zero,
  (product-above u, tt),
  (
    (λ z. one_not_zero (sym (+ℚ-zero one_ℚ) ∙ ap (λ c. one_ℚ +ℚ c) (sym z) ∙ +ℚ-neg_ℚ one_ℚ)),
    tt,
    tt,
  ),
)

pub relation-made : (u : Exponents) (xs ys zs : Terms) (c d : Fraction) (x y : Exponents) → xs ≡ [] → ys ≡ xs ++ record { coef = c; mono = x } ∷ [] →
    zs ≡ ys ++ record { coef = d; mono = y } ∷ [] → c ≡ one_ℚ → x ≡ u ++ 1 ∷ [] → d ≡ neg_ℚ one_ℚ → y ≡ replicate (length u + 1) 0 → zs ≡ rabinowitsch_terms u
relation-made u xs ys zs c d x y e f g h i j k =
    g ∙ ap (λ (t : Terms). t ++ record { coef = d; mono = y } ∷ []) (f ∙ ap (λ (t : Terms). t ++ record { coef = c; mono = x } ∷ []) e)
    ∙ ap (λ z. record { coef = z; mono = x } ∷ record { coef = d; mono = y } ∷ []) h
    ∙ ap (λ z. record { coef = one_ℚ; mono = z } ∷ record { coef = d; mono = y } ∷ []) i
    ∙ ap (λ z. record { coef = one_ℚ; mono = u ++ 1 ∷ [] } ∷ record { coef = z; mono = y } ∷ []) j
    ∙ ap (λ z. record { coef = one_ℚ; mono = u ++ 1 ∷ [] } ∷ record { coef = neg_ℚ one_ℚ; mono = z } ∷ []) k

-- ---- the first n variables

take-long : (n : ℕ) (x : Exponents) → n ≤ length x → length (take n x) ≡ n
take-long zero x l = refl
take-long (suc n) [] l = absurd (omega arith)
take-long (suc n) (a ∷ x) l = omega (arith, take-long n x (omega arith))

pub variables-narrowed : (n : ℕ) (f : Terms) → HasVariables (n + 1) f → HasVariables n (map (narrowed_term n) f)
variables-narrowed n [] v = tt
variables-narrowed n (t ∷ f) v = (take-long n t.mono (omega (arith, v.0)), variables-narrowed n f v.1)

-- a last exponent that is 0 may go
take-back : (n : ℕ) (x : Exponents) → length x ≡ n + 1 → entry x n ≡ 0 → take n x ++ 0 ∷ [] ≡ x
take-back zero [] l z = absurd (omega arith)
take-back zero (a ∷ []) l z = ap (λ k. k ∷ []) (sym z)
take-back zero (a ∷ b ∷ x) l z = absurd (omega arith)
take-back (suc n) [] l z = absurd (omega arith)
take-back (suc n) (a ∷ x) l z = ap (λ y. a ∷ y) (take-back n x (omega arith) z)

pub narrowed-back : (n : ℕ) (f : Terms) → HasVariables (n + 1) f → Each (λ (t : Term). entry t.mono n ≡ 0) f → map widened_term (map (narrowed_term n) f) ≡ f
narrowed-back n [] v h = refl
narrowed-back n (t ∷ f) v h =
    ap (λ x. record { coef = t.coef; mono = x } ∷ map widened_term (map (narrowed_term n) f)) (take-back n t.mono v.0 h.0)
    ∙ ap (λ z. t ∷ z) (narrowed-back n f v.1 h.1)

-- the same polynomial
same-push_zero : (x y : Exponents) → same x (y ++ 0 ∷ []) ≡ same x y
same-push_zero x y = same-sym x (y ++ 0 ∷ []) ∙ same_along (y ++ 0 ∷ []) y x (same_by_entries (y ++ 0 ∷ []) y (at y)) ∙ same-sym y x
  where
    at : (y : Exponents) (i : ℕ) → entry (y ++ 0 ∷ []) i ≡ entry y i
    at [] zero = refl
    at [] (suc i) = refl
    at (b ∷ y) zero = refl
    at (b ∷ y) (suc i) = at y i

pub same-widened : (f : Terms) → SamePolynomial f (map widened_term f)
same-widened [] e = refl
same-widened (t ∷ f) e =
    ap (λ b. (if b then t.coef else zero_ℚ) +ℚ coefficient f e) (sym (same-push_zero e t.mono))
    ∙ ap (λ z. (if same e (t.mono ++ 0 ∷ []) then t.coef else zero_ℚ) +ℚ z) (same-widened f e)

-- ---- the variable

pub variable-take : (n k m : ℕ) → k < n → n ≤ m → take n (set (replicate m 0) k 1) ≡ variable_at n k
variable-take zero k m l h = absurd (omega arith)
variable-take (suc n) k zero l h = absurd (omega arith)
variable-take (suc n) zero (suc m) l h = ap (λ (z : Exponents). 1 ∷ z) (take-replicate n m 0 (omega arith))
variable-take (suc n) (suc k) (suc m) l h = ap (λ (z : Exponents). 0 ∷ z) (variable-take n k m (omega arith) (omega arith))

pub length-variable : (n k : ℕ) → k < n → length (variable_at n k) ≡ n
length-variable zero k l = absurd (omega arith)
length-variable (suc n) zero l = omega (arith, length-replicate {A = ℕ} n 0)
length-variable (suc n) (suc k) l = omega (arith, length-variable n k (omega arith))

pub variable-monomial : (n k : ℕ) → n ≤ ROOM → k < n → IsMonomial (variable_at n k)
variable-monomial n k h l = record { room = omega (arith, length-variable n k l); limit = limit_by_entries (variable_at n k) (λ i. small n k i) }
  where
    small : (n k i : ℕ) → entry (variable_at n k) i < 2 ^ 31
    small zero k i = omega arith
    small (suc n) zero zero = omega arith
    small (suc n) zero (suc i) = omega (arith, entry-ones n i)
    small (suc n) (suc k) zero = omega arith
    small (suc n) (suc k) (suc i) = small n k i

-- ---- the product of the variables

pub long_ones : (n m : ℕ) (x : Exponents) → n ≤ m → x ≡ take n (replicate m 1) → length x ≡ n
long_ones n m x l e = ap length (e ∙ take-replicate n m 1 l) ∙ length-replicate n 1

pub all_ones : (n m : ℕ) (x : Exponents) → n ≤ m → x ≡ take n (replicate m 1) → (k : ℕ) → k < n → entry x k ≡ 1
all_ones n m x l e k i = ap (λ (y : Exponents). entry y k) (e ∙ take-replicate n m 1 l) ∙ at n k i
  where
    at : (n k : ℕ) → k < n → entry (replicate n 1) k ≡ 1
    at zero k i = absurd (omega arith)
    at (suc n) zero i = refl
    at (suc n) (suc k) i = at n k (omega arith)
