-- A weight above the monomials of lists of marked polynomials.
use Rattle.std.specs.Prelude.{ℕ, suc, List, [], ◌∷◌, max}
use Rattle.gf_exponents_theory.specs.Exponents.{weight}
use Rattle.gf_poly.specs.Polynomial.{Terms}
use Rattle.gf_poly.specs.Marking.{MarkedPolynomial}

-- above the weight of each term
abbrev pub above_terms : List ℕ → Terms → ℕ
above_terms r [] = 0
above_terms r (t ∷ f) = max (suc (weight r t.mono)) (above_terms r f)

-- above the weight of each term of each member
abbrev pub above_members : List ℕ → List MarkedPolynomial → ℕ
above_members r [] = 0
above_members r (b ∷ bs) = max (above_terms r b.poly) (above_members r bs)

-- the same for a list of bases
abbrev pub above_bases : List ℕ → List (List MarkedPolynomial) → ℕ
above_bases r [] = 0
above_bases r (bs ∷ rest) = max (above_members r bs) (above_bases r rest)
