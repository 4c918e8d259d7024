-- What is printed for a basis in a session.
use Rattle.std.specs.Prelude.{ℕ, ◌+◌, List, [], ◌∷◌, ◌++◌, ℤ, codes, decimal}
use Rattle.gf_poly.specs.Marking.{MarkedPolynomial}
use Rattle.gf_text.specs.PrintedSets.{basis_text}
use Rattle.gf_text.specs.VectorText.{vector_text}

-- the line of a facet: its number, a space, its normal and a line end
abbrev pub facet_line : ℕ → List ℤ → List ℕ
facet_line number a = decimal number ++ 32 ∷ (vector_text a ++ 10 ∷ [])

-- the lines of facets, numbered from k on
abbrev pub facet_lines : ℕ → List (List ℤ) → List ℕ
facet_lines k [] = []
facet_lines k (a ∷ rest) = facet_line k a ++ facet_lines (k + 1) rest

-- the basis and a line end, the lines of the normals, and the number of crossings that were not undone
abbrev pub prompt_text : List (List ℕ) → List MarkedPolynomial → List (List ℤ) → ℕ → List ℕ
prompt_text names bs ns history = basis_text names bs ++ 10 ∷ (facet_lines 0 ns ++ (codes "history " ++ (decimal history ++ 10 ∷ [])))
