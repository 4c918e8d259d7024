-- Marked polynomials under a comparison of monomials, and sums of their multiples.
-- A list of members is often given by a predicate `by`, as `Contains bs`, so that longer lists need no indices.
-- Laws: proofs/PieceLaws.antt, proofs/MarkWeights.antt. Source: Sturmfels, Gröbner Bases and Convex Polytopes, 1 and 3.
use Rattle.std.specs.Prelude.{◌≡◌, ◌⊎◌, ℕ, ◌<◌, ◌≤◌, true, List, [], ◌∷◌, ◌++◌, Contains}
use Rattle.gf_frac.specs.Fraction.{Fraction, one_ℚ}
use Rattle.gf_exponents_theory.specs.Exponents.{Exponents, entry, same, plus}
use Rattle.gf_exponents_theory.specs.Orders.{lighter}
use Rattle.gf_poly.specs.Polynomial.{Terms, coefficient, SamePolynomial, times}
use Rattle.gf_poly.specs.Marking.{MarkedPolynomial, Each}
use Rattle.gf_ideal_theory.specs.Membership.{HasMonomial}

-- b is monic, and its other monomials are below the marked one
pub record IsMarked (below : Exponents → Exponents → Type 0) (b : MarkedPolynomial) : Type 0 where
  pub monic : coefficient b.poly b.head ≡ one_ℚ
  pub tail : (x : Exponents) → HasMonomial b.poly x → (same x b.head ≡ true) ⊎ below x b.head

-- each polynomial is monic, and its other monomials are below the marked one
abbrev pub AreMarked : (Exponents → Exponents → Type 0) → List MarkedPolynomial → Type 0
AreMarked below bs = (b : MarkedPolynomial) → Contains bs b → IsMarked below b

-- each of the first n weights is at least 1
abbrev pub IsPositive : ℕ → List ℕ → Type 0
IsPositive n w = (i : ℕ) → i < n → 1 ≤ entry w i

-- some positive weight sets each mark above the rest of its monic polynomial
abbrev pub HasPositiveWeight : ℕ → List MarkedPolynomial → Type 0
HasPositiveWeight n bs = (w : List ℕ) × IsPositive n w × AreMarked (lighter w) bs

-- the weight w sets the mark of b, a monomial of it with any coefficient, above the rest
pub record IsRealisedBy (w : List ℕ) (b : MarkedPolynomial) : Type 0 where
  pub there : HasMonomial b.poly b.head
  pub tail : (x : Exponents) → HasMonomial b.poly x → (same x b.head ≡ true) ⊎ lighter w x b.head

-- some positive weight sets each mark above the rest, whatever the marked coefficients are
abbrev pub IsRealisable : ℕ → List MarkedPolynomial → Type 0
IsRealisable n bs = (w : List ℕ) × IsPositive n w × ((b : MarkedPolynomial) → Contains bs b → IsRealisedBy w b)

-- ---- sums of multiples

-- a fraction times a monomial times a marked polynomial
pub record Piece : Type 0 where
  pub factor : Fraction
  pub shift : Exponents
  pub of : MarkedPolynomial

-- the monomial that its mark comes to
abbrev pub level : Piece → Exponents
level p = plus p.shift p.of.head

-- the sum of the pieces
abbrev pub value : List Piece → Terms
value [] = []
value (p ∷ ps) = times p.factor p.shift p.of.poly ++ value ps

-- f is a sum of multiples of members
pub record IsCombined (by : MarkedPolynomial → Type 0) (f : Terms) : Type 0 where
  pub pieces : List Piece
  pub members : Each (λ (p : Piece). by p.of) pieces
  pub equal : SamePolynomial f (value pieces)
