-- Polynomials as lists in one more variable, and in one less.
use Rattle.std.specs.Prelude.{ℕ, zero, suc, ◌+◌, ◌==◌, if◌then◌else◌, List, [], ◌∷◌, ◌++◌, map, take, length, replicate}
use Rattle.gf_frac.specs.Fraction.{neg_ℚ, one_ℚ}
use Rattle.gf_poly.specs.declared.Term.{Term}
use Rattle.gf_poly.specs.Polynomial.{Terms}
use Rattle.gf_poly.specs.Marking.{MarkedPolynomial}
use Rattle.gf_exponents_theory.specs.Exponents.{Exponents, entry}

-- a last variable more, which doesn't occur
abbrev pub widened_term : Term → Term
widened_term t = record { coef = t.coef; mono = t.mono ++ 0 ∷ [] }

-- the first n variables alone
abbrev pub narrowed_term : ℕ → Term → Term
narrowed_term n t = record { coef = t.coef; mono = take n t.mono }

-- u times one more variable, less 1, as it is kept
abbrev pub rabinowitsch_terms : Exponents → Terms
rabinowitsch_terms u = record { coef = one_ℚ; mono = u ++ 1 ∷ [] } ∷ record { coef = neg_ℚ one_ℚ; mono = replicate (length u + 1) 0 } ∷ []

-- the generators as they are kept: those of fs in one more variable, then that one
abbrev pub extended_list : Exponents → List Terms → List Terms
extended_list u fs = map (map widened_term) fs ++ rabinowitsch_terms u ∷ []

-- the members whose marks have nothing of the variable after the first n, in the first n variables
abbrev pub left_over : ℕ → List MarkedPolynomial → List Terms
left_over n [] = []
left_over n (b ∷ bs) = (if entry b.head n == 0 then (map (narrowed_term n) b.poly ∷ []) else []) ++ left_over n bs

-- the variable at index k, from 0, of n
abbrev pub variable_at : ℕ → ℕ → Exponents
variable_at zero k = []
variable_at (suc n) zero = 1 ∷ replicate n 0
variable_at (suc n) (suc k) = 0 ∷ variable_at n k
