-- Total degrees of polynomials.
use Rattle.std.specs.Prelude.{ℕ, List, [], ◌∷◌, max}
use Rattle.gf_exponents_theory.specs.Exponents.{degree}
use Rattle.gf_poly.specs.Polynomial.{Terms}

-- the greatest of these numbers; 0 if there are none
abbrev pub greatest : List ℕ → ℕ
greatest [] = 0
greatest (k ∷ ks) = max k (greatest ks)

-- the total degree of a polynomial: the greatest degree of its terms; 0 if it has none
abbrev pub total_degree : Terms → ℕ
total_degree [] = 0
total_degree (t ∷ f) = max (degree t.mono) (total_degree f)
