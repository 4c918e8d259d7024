-- Unit vectors, and the system of a marked list: its rows and the unit vectors.
-- A vector on which each row of the system is positive is a positive weight that sets each mark above the rest.
-- Laws: proofs/UnitLaws.antt, proofs/SystemLaws.antt. Source: Sturmfels, Gröbner Bases and Convex Polytopes, 2.
use Rattle.std.specs.Prelude.{ℕ, zero, suc, List, [], ◌∷◌, ◌++◌, ℤ, pos}
use Rattle.gf_poly.specs.Marking.{MarkedPolynomial}
use Rattle.gf_vec.specs.Vector.{zeros}
use Rattle.gf_facets_theory.specs.Rows.{rows_of_polynomials}

-- the vector of n entries with 1 at index i and 0 at the others
abbrev pub unit : ℕ → ℕ → List ℤ
unit zero i = []
unit (suc n) zero = pos 1 ∷ zeros n
unit (suc n) (suc i) = pos 0 ∷ unit n i

-- the first k unit vectors
abbrev pub units : ℕ → ℕ → List (List ℤ)
units n zero = []
units n (suc k) = units n k ++ unit n k ∷ []

-- the rows, then the unit vectors
abbrev pub system_of : ℕ → List MarkedPolynomial → List (List ℤ)
system_of n bs = rows_of_polynomials bs ++ units n n
