-- The numbers, one step further; the generators are differences of two monomials in four variables, and none of them is zero.
-- To cite: number_none, number_more, next_below, small, in_order-descends, generators_are_binomials. The rest are steps.
use Rattle.std.specs.Prelude.{◌≡◌, ◌≢◌, ℕ, zero, suc, ◌+◌, ◌<◌, ◌≤◌, ◌^◌, Bool, true, false, if◌then◌else◌, [], ◌∷◌, length, Some, None}
use Rattle.std.specs.declared.cmp.Ordering.{Ordering}
use Rattle.std.specs.declared.cmp.Ordering.TheVariants.{Less, Equal, Greater}
use Rattle.std.proofs.Common.{arith, refl, sym, ap, ◌∙◌}
use Rattle.gf_frac.specs.Fraction.{◌+ℚ◌, neg_ℚ, zero_ℚ, one_ℚ}
use Rattle.gf_frac.proofs.FractionLaws.{+ℚ-zero, +ℚ-neg_ℚ, +ℚ_comm}
use Rattle.gf_exponents_theory.specs.Exponents.{Exponents, entry, same}
use Rattle.gf_exponents_theory.specs.Orders.{deglex}
use Rattle.gf_poly.specs.declared.Term.{Term}
use Rattle.gf_poly.specs.Monomial.{IsMonomial}
use Rattle.gf_poly.specs.Polynomial.{coefficient, HasVariables, IsDescending}
use Rattle.gf_poly.specs.Marking.{Each}
use Rattle.gf_poly.proofs.DescendingLaws.{less_greater, equal_same}
use Rattle.gf_poly.proofs.MonomialLaws.{limit_by_entries}
use Rattle.gf_ideal_theory.proofs.Identities.{one_not_zero}
use Rattle.gf_ideal_theory.proofs.ListLaws.{contained_each}
use Rattle.gf_binomials_theory.specs.Binomials.{indicator, IsBinomial}
use Rattle.gf_binomials_theory.proofs.MonomialLaws.{neg-zero}
use Rattle.gf_generated.specs.Generated.{next, number_after, rest_by_three, in_order, difference, generated_set}
use Rattle.gf_generated.specs.Laws.{GeneratorsAreBinomials}

-- ---- numbers

number_zero : (k : ℕ) → number_after k 0 ≡ k
unfolding number_after
number_zero k = refl

number_suc : (k i : ℕ) → number_after k (suc i) ≡ next (number_after k i)
unfolding number_after
number_suc k i = refl

pub number_none : (k t i : ℕ) → t ≡ k → i ≡ 0 → t ≡ number_after k i
number_none k t i e z = e ∙ sym (number_zero k) ∙ ap (number_after k) (sym z)

pub number_more : (k i t u : ℕ) → t ≡ number_after k i → u ≡ next t → u ≡ number_after k (i + 1)
number_more k i t u e q = let s : suc i ≡ i + 1 = omega arith in q ∙ ap next e ∙ sym (number_suc k i) ∙ ap (number_after k) s

pub next_below : (t : ℕ) → next t < 2147483647
next_below t = omega arith

-- ---- exponents

small_entries : (a b c d : ℕ) → a ≤ 3 → b ≤ 3 → c ≤ 3 → d ≤ 3 → (i : ℕ) → entry (a ∷ b ∷ c ∷ d ∷ []) i < 2 ^ 31
small_entries a b c d p q r s zero = omega (arith, p)
small_entries a b c d p q r s (suc zero) = omega (arith, q)
small_entries a b c d p q r s (suc (suc zero)) = omega (arith, r)
small_entries a b c d p q r s (suc (suc (suc zero))) = omega (arith, s)
small_entries a b c d p q r s (suc (suc (suc (suc i)))) = omega arith

pub small : (a b c d : ℕ) → a ≤ 3 → b ≤ 3 → c ≤ 3 → d ≤ 3 → IsMonomial (a ∷ b ∷ c ∷ d ∷ [])
small a b c d p q r s = record { room = omega arith; limit = limit_by_entries (a ∷ b ∷ c ∷ d ∷ []) (small_entries a b c d p q r s) }

-- ---- two terms

abbrev plus_term : Exponents → Term
plus_term x = record { coef = one_ℚ; mono = x }

abbrev minus_term : Exponents → Term
minus_term y = record { coef = neg_ℚ one_ℚ; mono = y }

minus_one : neg_ℚ one_ℚ ≢ zero_ℚ
minus_one e = one_not_zero (sym (+ℚ-zero one_ℚ) ∙ ap (λ z. one_ℚ +ℚ z) (sym e) ∙ +ℚ-neg_ℚ one_ℚ)

pub in_order-descends : (o : Ordering) (x y : Exponents) → deglex x y ≡ o → IsDescending (in_order o (plus_term x) (minus_term y))
in_order-descends Less x y e = (minus_one, (less_greater x y e, tt), (one_not_zero, tt, tt))
in_order-descends Equal x y e = tt
in_order-descends Greater x y e = (one_not_zero, (e, tt), (minus_one, tt, tt))

in_order-variables : (o : Ordering) (n : ℕ) (x y : Exponents) → length x ≡ n → length y ≡ n → HasVariables n (in_order o (plus_term x) (minus_term y))
in_order-variables Less n x y p q = (q, (p, tt))
in_order-variables Equal n x y p q = tt
in_order-variables Greater n x y p q = (p, (q, tt))

in_order-nonzero : (o : Ordering) (s t : Term) → (o ≡ Equal → ⊥) → in_order o s t ≢ []
in_order-nonzero Less s t n e = cc
in_order-nonzero Equal s t n e = n refl
in_order-nonzero Greater s t n e = cc

-- what two terms are
plus_at : (x e : Exponents) → coefficient (plus_term x ∷ []) e ≡ indicator (Some x) e
plus_at x e = +ℚ-zero _

minus_at : (x e : Exponents) → coefficient (minus_term x ∷ []) e ≡ neg_ℚ (indicator (Some x) e)
minus_at x e = +ℚ-zero _ ∙ at (same e x)
  where
    at : (b : Bool) → (if b then neg_ℚ one_ℚ else zero_ℚ) ≡ neg_ℚ (if b then one_ℚ else zero_ℚ)
    at true = refl
    at false = sym neg-zero

in_order-binomial : (o : Ordering) (x y : Exponents) → IsBinomial (in_order o (plus_term x) (minus_term y))
in_order-binomial Less x y = record {
  first = Some x;
  second = Some y;
  binomial = record {
    equation = λ e.
        ap (λ z. z +ℚ coefficient (plus_term x ∷ []) e) (sym (+ℚ-zero _) ∙ minus_at y e) ∙ ap (λ z. neg_ℚ (indicator (Some y) e) +ℚ z) (plus_at x e) ∙
        +ℚ_comm _ _;
  };
}
in_order-binomial Equal x y = record { first = None; second = None; binomial = record { equation = λ e. sym (+ℚ-neg_ℚ _) } }
in_order-binomial Greater x y = record {
  first = Some x;
  second = Some y;
  binomial = record { equation = λ e. ap (λ z. indicator (Some x) e +ℚ z) (minus_at y e) };
}

-- ---- the generators

difference-nonzero : (x y : Exponents) (i : ℕ) → entry x i ≢ entry y i → difference x y ≢ []
difference-nonzero x y i n = in_order-nonzero (deglex x y) (plus_term x) (minus_term y) (λ e. n (ap (λ z. entry z i) (equal_same x y e)))

each_binomial : (k : ℕ) → Each IsBinomial (generated_set k)
each_binomial k = (in_order-binomial _ _ _, (in_order-binomial _ _ _, (in_order-binomial _ _ _, tt)))

each_variables : (k : ℕ) → Each (HasVariables 4) (generated_set k)
each_variables k = (in_order-variables _ 4 _ _ refl refl, (in_order-variables _ 4 _ _ refl refl, (in_order-variables _ 4 _ _ refl refl, tt)))

-- the first monomial of each has a variable that the second hasn't
some_more : (a : ℕ) → 1 + a ≢ 0
some_more a e = omega (arith, e)

each_nonzero : (k : ℕ) → Each (λ f. f ≢ []) (generated_set k)
each_nonzero k = (
  difference-nonzero ((1 + rest_by_three k 1) ∷ 0 ∷ rest_by_three k 2 ∷ rest_by_three k 3 ∷ []) (0 ∷ (1 + rest_by_three k 4) ∷ 0 ∷ 0 ∷ []) 0
      (some_more (rest_by_three k 1)),
  (
    difference-nonzero (rest_by_three k 7 ∷ (1 + rest_by_three k 5) ∷ 0 ∷ rest_by_three k 6 ∷ []) (0 ∷ 0 ∷ (1 + rest_by_three k 8) ∷ 0 ∷ []) 1
        (some_more (rest_by_three k 5)),
    (
      difference-nonzero (rest_by_three k 10 ∷ rest_by_three k 11 ∷ (1 + rest_by_three k 9) ∷ 0 ∷ []) (0 ∷ 0 ∷ 0 ∷ (1 + rest_by_three k 12) ∷ []) 2
          (some_more (rest_by_three k 9)),
      tt,
    ),
  ),
)

-- ---- two of them

zero_stands_for : generated_set 0 ≡
    difference (1 ∷ 0 ∷ 0 ∷ 0 ∷ []) (0 ∷ 1 ∷ 0 ∷ 0 ∷ []) ∷ difference (0 ∷ 1 ∷ 0 ∷ 0 ∷ []) (0 ∷ 0 ∷ 1 ∷ 0 ∷ []) ∷
    difference (0 ∷ 0 ∷ 1 ∷ 0 ∷ []) (0 ∷ 0 ∷ 0 ∷ 1 ∷ []) ∷ []
unfolding number_after
zero_stands_for = refl

one_stands_for : generated_set 1 ≡
    difference (2 ∷ 0 ∷ 0 ∷ 0 ∷ []) (0 ∷ 2 ∷ 0 ∷ 0 ∷ []) ∷ difference (2 ∷ 2 ∷ 0 ∷ 2 ∷ []) (0 ∷ 0 ∷ 3 ∷ 0 ∷ []) ∷
    difference (2 ∷ 1 ∷ 3 ∷ 0 ∷ []) (0 ∷ 0 ∷ 0 ∷ 3 ∷ []) ∷ []
unfolding number_after
one_stands_for = refl

pub generators_are_binomials : GeneratorsAreBinomials
generators_are_binomials = record {
  binomials = λ k f c. contained_each IsBinomial (generated_set k) (each_binomial k) f c;
  variables = λ k f c. contained_each (HasVariables 4) (generated_set k) (each_variables k) f c;
  nonzero = λ k f c. contained_each (λ f. f ≢ []) (generated_set k) (each_nonzero k) f c;
  zero = zero_stands_for;
  one = one_stands_for;
}
