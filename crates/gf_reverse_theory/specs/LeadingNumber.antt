-- Leading monomials up to a weight, read as a binary number whose first digits are the least monomials.
-- Laws: proofs/LeadingNumberLaws.antt.
use Rattle.std.specs.Prelude.{if◌then◌else◌, ℕ, zero, suc, ◌+◌, ◌-◌, ◌*◌, ◌^◌, ◌==◌, Bool, false, ◌||◌, List, [], ◌∷◌, ◌++◌, map, length}
use Rattle.gf_exponents_theory.specs.Exponents.{Exponents, same, plus, minus}
use Rattle.gf_poly.specs.Marking.{MarkedPolynomial}

-- ---- the monomials up to a weight

-- by the exponent of the first variable, below k: that exponent before each of those of the weight that is left
abbrev pub by_first : (ℕ → List Exponents) → ℕ → ℕ → ℕ → List Exponents
by_first others r d zero = []
by_first others r d (suc k) = by_first others r d k ++ (if (r * k - d) == 0 then map (λ (x : Exponents). k ∷ x) (others (d - r * k)) else [])

-- those of weight d by r, ascending by lex
abbrev pub of_weight : List ℕ → ℕ → List Exponents
of_weight [] zero = [] ∷ []
of_weight [] (suc d) = []
of_weight (r ∷ rs) d = by_first (of_weight rs) r d (suc d)

-- those of a weight below d, ascending by the weight and then by lex
abbrev pub below_weight : List ℕ → ℕ → List Exponents
below_weight r zero = []
below_weight r (suc d) = below_weight r d ++ of_weight r d

-- ---- the number

-- a binary number, its first digit first
abbrev pub binary : List Bool → ℕ
binary [] = 0
binary (b ∷ bs) = (if b then 2 ^ length bs else 0) + binary bs

-- some mark divides x
abbrev pub is_led : List MarkedPolynomial → Exponents → Bool
is_led [] x = false
is_led (b ∷ bs) x = same x (plus (minus x b.head) b.head) || is_led bs x

-- of the monomials of a weight below d by r, which are multiples of a mark
unfoldable pub leading_number : List ℕ → ℕ → List MarkedPolynomial → ℕ
leading_number r d bs = binary (map (is_led bs) (below_weight r d))
