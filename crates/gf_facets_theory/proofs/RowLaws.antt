-- Rows and monomials: the row of each unmarked term is one of the rows, and each row is such a one.
-- To cite: same_or_not, row-in, IsTermRow, row-from, term_of, monomial_of, length-differences, get-differences,
-- dot-differences, differs, rows-append, rows_by_terms.
use Rattle.std.proofs.Common.{◌≡◌, ◌⊎◌, ℕ, zero, suc, true, false, if◌then◌else◌, List, [], ◌∷◌, length, get_or, Contains, ℤ, pos, ◌+ℤ◌, ◌-ℤ◌, ◌*ℤ◌, arith}
use Rattle.std.proofs.Common.{refl, sym, ap, ◌∙◌, subst, inl, inr}
use Rattle.std.proofs.lemmas.Int.{ints}
use Rattle.std.proofs.lemmas.List.Elements.{Contains-append_left, Contains-append_right, Contains-append_cases}
use Rattle.gf_int_theory.proofs.RingLaws.{dv, ◌⊕◌, ◌⊖◌, ◌⊗◌, same as same_number}
use Rattle.gf_int_theory.proofs.ListLaws.{Contains-here}
use Rattle.gf_vec.specs.Vector.{dot}
use Rattle.gf_exponents_theory.specs.Exponents.{Exponents, entry, same, whole_weight}
use Rattle.gf_exponents_theory.proofs.OrderLaws.{lex-total}
use Rattle.gf_poly.specs.declared.Term.{Term}
use Rattle.gf_poly.specs.Polynomial.{Terms}
use Rattle.gf_poly.specs.Marking.{MarkedPolynomial}
use Rattle.gf_ideal_theory.specs.Membership.{HasMonomial}
use Rattle.gf_ideal_theory.specs.Bases.{IsCanonical}
use Rattle.gf_ideal_theory.proofs.ListLaws.{Contains-there, Contains-cases, each_contained}
use Rattle.gf_ideal_theory.proofs.ListedTerms.{listed}
use Rattle.gf_ideal_theory.proofs.KeptForms.{term_there}
use Rattle.gf_facets_theory.specs.Rows.{differences, row_between, rows_of_terms, rows_of_polynomials}
use Rattle.gf_poly.proofs.InitialFormLaws.{same_or_not}

-- ---- the members' rows

pub row-is : (x y : Exponents) → same x y ≡ false → row_between x y ≡ differences x y ∷ []
row-is x y e = ap (λ b. if b then [] else (differences x y ∷ [])) e

row-none : (x y : Exponents) → same x y ≡ true → row_between x y ≡ []
row-none x y e = ap (λ b. if b then [] else (differences x y ∷ [])) e

term-row : (x : Exponents) (f : Terms) (t : Term) → Contains f t → same x t.mono ≡ false →
    Contains (rows_of_terms x f) (differences x t.mono)
term-row x [] t c n = absurd (omega (arith, c.1))
term-row x (s ∷ f) t c n = at (Contains-cases s t f c) (λ k. term-row x f t k n)
  where
    at : (s ≡ t) ⊎ Contains f t → (Contains f t → Contains (rows_of_terms x f) (differences x t.mono)) →
        Contains (rows_of_terms x (s ∷ f)) (differences x t.mono)
    at (inl e) r = Contains-append_left (row_between x s.mono) (rows_of_terms x f) (differences x t.mono)
        (subst (λ (u : Term). Contains (row_between x u.mono) (differences x t.mono)) (sym e) (subst (λ (z : List (List ℤ)). Contains z (differences x t.mono))
        (sym (row-is x t.mono n)) (Contains-here (differences x t.mono) [])))
    at (inr k) r = Contains-append_right (row_between x s.mono) (rows_of_terms x f) (differences x t.mono) (r k)

-- the row of an unmarked term is one of the rows
pub row-in : (bs : List MarkedPolynomial) (b : MarkedPolynomial) (t : Term) → Contains bs b → Contains b.poly t →
    same b.head t.mono ≡ false → Contains (rows_of_polynomials bs) (differences b.head t.mono)
row-in [] b t c k n = absurd (omega (arith, c.1))
row-in (d ∷ bs) b t c k n = at (Contains-cases d b bs c) (λ l. row-in bs b t l k n)
  where
    at : (d ≡ b) ⊎ Contains bs b → (Contains bs b → Contains (rows_of_polynomials bs) (differences b.head t.mono)) →
        Contains (rows_of_polynomials (d ∷ bs)) (differences b.head t.mono)
    at (inl e) r = Contains-append_left (rows_of_terms d.head d.poly) (rows_of_polynomials bs) (differences b.head t.mono)
        (subst (λ (z : MarkedPolynomial). Contains (rows_of_terms z.head z.poly) (differences b.head t.mono)) (sym e) (term-row b.head b.poly t k n))
    at (inr l) r = Contains-append_right (rows_of_terms d.head d.poly) (rows_of_polynomials bs) (differences b.head t.mono) (r l)

-- the term that a row comes from
pub record IsTermRow (x : Exponents) (f : Terms) (r : List ℤ) : Type 0 where
  pub term : Term
  pub inside : Contains f term
  pub other : same x term.mono ≡ false
  pub row : r ≡ differences x term.mono

row-term : (x : Exponents) (f : Terms) (r : List ℤ) → Contains (rows_of_terms x f) r → IsTermRow x f r
row-term x [] r c = absurd (omega (arith, c.1))
row-term x (t ∷ f) r c = at (Contains-append_cases (row_between x t.mono) (rows_of_terms x f) r c) (same_or_not x t.mono) (λ k. row-term x f r k)
  where
    at : Contains (row_between x t.mono) r ⊎ Contains (rows_of_terms x f) r → (same x t.mono ≡ true) ⊎ (same x t.mono ≡ false) →
        (Contains (rows_of_terms x f) r → IsTermRow x f r) → IsTermRow x (t ∷ f) r
    at (inr k) s rec = let q = rec k in record { term = q.term; inside = Contains-there t q.term f q.inside; other = q.other; row = q.row }
    at (inl k) (inl s) rec = let n : Contains [] r = subst (λ (z : List (List ℤ)). Contains z r) (row-none x t.mono s) k in absurd (omega (arith, n.1))
    at (inl k) (inr s) rec = one (Contains-cases (differences x t.mono) r [] (subst (λ (z : List (List ℤ)). Contains z r) (row-is x t.mono s) k))
      where
        one : (differences x t.mono ≡ r) ⊎ Contains [] r → IsTermRow x (t ∷ f) r
        one (inl e) = record { term = t; inside = Contains-here t f; other = s; row = sym e }
        one (inr n) = absurd (omega (arith, n.1))

-- each row is that of an unmarked term of a member
pub row-from : (bs : List MarkedPolynomial) (r : List ℤ) → Contains (rows_of_polynomials bs) r →
    (b : MarkedPolynomial) × Contains bs b × IsTermRow b.head b.poly r
row-from [] r c = absurd (omega (arith, c.1))
row-from (b ∷ bs) r c = at (Contains-append_cases (rows_of_terms b.head b.poly) (rows_of_polynomials bs) r c) (λ k. row-from bs r k)
  where
    at : Contains (rows_of_terms b.head b.poly) r ⊎ Contains (rows_of_polynomials bs) r →
        (Contains (rows_of_polynomials bs) r → (d : MarkedPolynomial) × Contains bs d × IsTermRow d.head d.poly r) →
        (d : MarkedPolynomial) × Contains (b ∷ bs) d × IsTermRow d.head d.poly r
    at (inl k) rec = (b, Contains-here b bs, row-term b.head b.poly r k)
    at (inr k) rec = let q = rec k in (q.0, Contains-there b q.0 bs q.1, q.2)

-- ---- terms and monomials of kept polynomials

-- a monomial is that of a term
pub term_of : (f : Terms) (x : Exponents) → HasMonomial f x → (t : Term) × Contains f t × (same x t.mono ≡ true)
term_of f x n = listed (λ (t : Term). Contains f t) f x (each_contained (λ (t : Term). Contains f t) f (λ t c. c)) n

-- a term has a monomial
pub monomial_of : (n : ℕ) (b : MarkedPolynomial) (t : Term) → IsCanonical n b → Contains b.poly t → HasMonomial b.poly t.mono
monomial_of n b t k c = term_there n b.poly t k.variables k.descending c

-- ---- differences

pub length-differences : (x y : Exponents) → length x ≡ length y → length (differences x y) ≡ length x
length-differences [] y e = refl
length-differences (a ∷ x) [] e = absurd (omega arith)
length-differences (a ∷ x) (b ∷ y) e = ap suc (length-differences x y (omega arith))

-- the entries of a row
pub get-differences : (x y : Exponents) (i : ℕ) → length x ≡ length y →
    get_or (differences x y) i (pos 0) ≡ pos (entry x i) -ℤ pos (entry y i)
get-differences [] [] i e = omega (arith, ints)
get-differences [] (b ∷ y) i e = absurd (omega arith)
get-differences (a ∷ x) [] i e = absurd (omega arith)
get-differences (a ∷ x) (b ∷ y) zero e = refl
get-differences (a ∷ x) (b ∷ y) (suc i) e = get-differences x y i (omega arith)

exchange : (w a b p q : ℤ) → (a -ℤ b) *ℤ w +ℤ (p -ℤ q) ≡ (w *ℤ a +ℤ p) -ℤ (w *ℤ b +ℤ q)
exchange w a b p q = same_number ((dv a ⊖ dv b) ⊗ dv w ⊕ (dv p ⊖ dv q)) ((dv w ⊗ dv a ⊕ dv p) ⊖ (dv w ⊗ dv b ⊕ dv q)) (omega arith)

-- what a row gives on a vector
pub dot-differences : (v : List ℤ) (x y : Exponents) → length x ≡ length y →
    dot (differences x y) v ≡ whole_weight v x -ℤ whole_weight v y
dot-differences [] [] y e = omega (arith, ints)
dot-differences [] (a ∷ x) [] e = absurd (omega arith)
dot-differences [] (a ∷ x) (b ∷ y) e = omega (arith, ints)
dot-differences (w ∷ v) [] [] e = omega (arith, ints)
dot-differences (w ∷ v) [] (b ∷ y) e = absurd (omega arith)
dot-differences (w ∷ v) (a ∷ x) [] e = absurd (omega arith)
dot-differences (w ∷ v) (a ∷ x) (b ∷ y) e = ap (λ z. (pos a -ℤ pos b) *ℤ w +ℤ z) (dot-differences v x y (omega arith)) ∙ exchange w (pos a) (pos b)
    (whole_weight v x) (whole_weight v y)

-- monomials that differ do so in some variable
pub differs : (x y : Exponents) → same x y ≡ false → (i : ℕ) × (entry x i ≡ entry y i → ⊥)
differs x y n = elim (lex-total x y) [
  | inl l ↦ (l.at, λ e. absurd (omega (arith, e, l.here)))
  | inr r ↦ elim r [
    | inl s ↦ absurd (cc)
    | inr l ↦ (l.at, λ e. absurd (omega (arith, e, l.here)))
  ]
]
