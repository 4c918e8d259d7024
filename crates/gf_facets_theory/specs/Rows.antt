-- The rows of a marked list: for each unmarked term, the marked exponents less its own.
-- A vector on which each row is positive sets each mark above the rest. Its normals are the rows, each divided by its
-- content. Laws: proofs/RowLaws.antt, proofs/NormalLaws.antt. Source: Sturmfels, Gröbner Bases and Convex Polytopes, 2;
-- Fukuda, Jensen, Thomas, Computing Gröbner fans, 2 and 4.
use Rattle.std.specs.Prelude.{if◌then◌else◌, List, [], ◌∷◌, ◌++◌, ℤ, pos, negsuc, ◌-ℤ◌, Contains}
use Rattle.gf_int_theory.specs.Content.{scaled}
use Rattle.gf_exponents_theory.specs.Exponents.{Exponents, same}
use Rattle.gf_poly.specs.Polynomial.{Terms}
use Rattle.gf_poly.specs.Marking.{MarkedPolynomial}
use Rattle.gf_vec.specs.Primitive.{IsPrimitivePart}

-- the exponents of x less those of y, of the shorter length
abbrev pub differences : Exponents → Exponents → List ℤ
differences [] y = []
differences (a ∷ x) [] = []
differences (a ∷ x) (b ∷ y) = (pos a -ℤ pos b) ∷ differences x y

-- the row of two monomials; none where they are the same
abbrev pub row_between : Exponents → Exponents → List (List ℤ)
row_between x y = if same x y then [] else (differences x y ∷ [])

-- the rows of the monomial x with each term, in their order
abbrev pub rows_of_terms : Exponents → Terms → List (List ℤ)
rows_of_terms x [] = []
rows_of_terms x (t ∷ f) = row_between x t.mono ++ rows_of_terms x f

-- the rows of each member, in their order
abbrev pub rows_of_polynomials : List MarkedPolynomial → List (List ℤ)
rows_of_polynomials [] = []
rows_of_polynomials (b ∷ bs) = rows_of_terms b.head b.poly ++ rows_of_polynomials bs

-- a is a row divided by its content
abbrev pub IsNormal : List MarkedPolynomial → List ℤ → Type 0
IsNormal bs a = (t : List ℤ) × Contains (rows_of_polynomials bs) t × IsPrimitivePart t a

-- the vector of the negatives
abbrev pub negated : List ℤ → List ℤ
negated a = scaled (negsuc 0) a
