-- The generators that a number stands for: three differences of two monomials in four variables a, b, c, d.
-- Laws: proofs/GeneratedLaws.antt. Source of the numbers: Park, Miller, Random number generators: good ones are hard to find; with the factor
-- that the same authors came to recommend.
use Rattle.std.specs.Prelude.{ℕ, zero, suc, ◌+◌, ◌*◌, ◌%◌, List, [], ◌∷◌}
use Rattle.std.specs.declared.cmp.Ordering.{Ordering}
use Rattle.std.specs.declared.cmp.Ordering.TheVariants.{Less, Equal, Greater}
use Rattle.gf_frac.specs.Fraction.{neg_ℚ, one_ℚ}
use Rattle.gf_exponents_theory.specs.Exponents.{Exponents}
use Rattle.gf_exponents_theory.specs.Orders.{deglex}
use Rattle.gf_poly.specs.declared.Term.{Term}
use Rattle.gf_poly.specs.Polynomial.{Terms}

-- the number behind t
abbrev pub next : ℕ → ℕ
next t = 48271 * t % 2147483647

-- the number so many steps behind k
unfoldable pub number_after : ℕ → ℕ → ℕ
number_after k zero = k
number_after k (suc i) = next (number_after k i)

-- its rest by 3
abbrev pub rest_by_three : ℕ → ℕ → ℕ
rest_by_three k i = number_after k i % 3

-- two terms, the greater monomial first; none where the monomials are the same
abbrev pub in_order : Ordering → Term → Term → Terms
in_order Less plus minus = minus ∷ plus ∷ []
in_order Equal plus minus = []
in_order Greater plus minus = plus ∷ minus ∷ []

-- the monomial x less the monomial y
abbrev pub difference : Exponents → Exponents → Terms
difference x y = in_order (deglex x y) (record { coef = one_ℚ; mono = x }) (record { coef = neg_ℚ one_ℚ; mono = y })

-- with u_i the rest of the i-th number behind k: a^(1+u_1)*c^(u_2)*d^(u_3) - b^(1+u_4), b^(1+u_5)*d^(u_6)*a^(u_7) - c^(1+u_8) and
-- c^(1+u_9)*a^(u_10)*b^(u_11) - d^(1+u_12)
abbrev pub generated_set : ℕ → List Terms
generated_set k =
    difference ((1 + rest_by_three k 1) ∷ 0 ∷ rest_by_three k 2 ∷ rest_by_three k 3 ∷ []) (0 ∷ (1 + rest_by_three k 4) ∷ 0 ∷ 0 ∷ [])
    ∷ difference (rest_by_three k 7 ∷ (1 + rest_by_three k 5) ∷ 0 ∷ rest_by_three k 6 ∷ []) (0 ∷ 0 ∷ (1 + rest_by_three k 8) ∷ 0 ∷ [])
    ∷ difference (rest_by_three k 10 ∷ rest_by_three k 11 ∷ (1 + rest_by_three k 9) ∷ 0 ∷ []) (0 ∷ 0 ∷ 0 ∷ (1 + rest_by_three k 12) ∷ [])
    ∷ []
