-- What is printed of polynomials and sets.
-- The marked term stands first, then the others, descending in deglex.
use Rattle.std.specs.Prelude.{ℕ, List, [], ◌∷◌, ◌++◌, flat_map, bytes_eq, if◌then◌else◌}
use Rattle.gf_exponents_theory.specs.Exponents.{Exponents}
use Rattle.gf_poly.specs.declared.Term.{Term}
use Rattle.gf_poly.specs.Polynomial.{coefficient}
use Rattle.gf_poly.specs.Marking.{MarkedPolynomial}
use Rattle.gf_text.specs.declared.written.Written.{Written}
use Rattle.gf_text.specs.declared.written.Written.TheVariants as written
use Rattle.gf_text.specs.PrintedText.{first_text, later_text}

-- a term that isn't at the marked monomial
abbrev pub other_text : List (List ℕ) → Exponents → Term → List ℕ
other_text names head t = if bytes_eq t.mono head then [] else later_text names t.coef t.mono

-- the marked term, then the others
abbrev pub marked_text : List (List ℕ) → MarkedPolynomial → List ℕ
marked_text names m = first_text names (coefficient m.poly m.head) m.head ++ flat_map (other_text names m.head) m.poly

-- a polynomial; the zero polynomial is 0
abbrev pub polynomial_text : List (List ℕ) → Written → List ℕ
polynomial_text names written.Zero = 48 ∷ []
polynomial_text names (written.Nonzero m) = marked_text names m

-- polynomials with a comma and a line end between them
abbrev pub members_text : List (List ℕ) → List MarkedPolynomial → List ℕ
members_text names [] = []
members_text names (m ∷ ms) = marked_text names m ++ flat_map (λ k. 44 ∷ 10 ∷ marked_text names k) ms

-- a basis: a brace and a line end, its members, a brace
abbrev pub basis_text : List (List ℕ) → List MarkedPolynomial → List ℕ
basis_text names ms = 123 ∷ 10 ∷ (members_text names ms ++ 125 ∷ [])
