-- When the pair of two marked polynomials is settled: its S-polynomial is a sum of multiples of members below the least
-- common multiple of the marks. `IsSettledPair` is the form that a reader checks, in whole numbers and in the ring's
-- variables; the working forms have fractions, any variables, and the two polynomials on two sides of an equation.
-- Laws: proofs/SettledLaws.antt, proofs/CriteriaLaws.antt. Source: Becker, Weispfenning, Gröbner Bases
-- (t-representations); Cox, Little, O'Shea, Ideals, Varieties, and Algorithms, chapter 2 (lcm representations).
use Rattle.std.specs.Prelude.{◌≡◌, ℕ, ◌<◌, ℤ, pos, true, List, [], ◌∷◌, ◌++◌, length, Contains, slice_index_or}
use Rattle.gf_frac.specs.Fraction.{whole, ◌+ℚ◌, ◌*ℚ◌, one_ℚ}
use Rattle.gf_exponents_theory.specs.Exponents.{Exponents, same, plus, join, IsInRing}
use Rattle.gf_poly.specs.Polynomial.{Terms, coefficient, times}
use Rattle.gf_poly.specs.Marking.{MarkedPolynomial, Each}
use Rattle.gf_ideal_theory.specs.Marks.{Piece, level, value}
use Rattle.gf_ideal_theory.specs.Reduction.{IsSPolynomial}

-- ---- in whole numbers

-- a whole number times a monomial times a marked polynomial
pub record IntegerPiece : Type 0 where
  pub factor : ℤ
  pub shift : Exponents
  pub of : MarkedPolynomial

-- the sum of the pieces
abbrev pub integer_value : List IntegerPiece → Terms
integer_value [] = []
integer_value (p ∷ ps) = times (whole p.factor) p.shift p.of.poly ++ integer_value ps

-- a multiple of a member by a monomial in n variables, whose greatest monomial is below x
pub record IsMultipleBelow (n : ℕ) (bs : List MarkedPolynomial) (below : Exponents → Exponents → Type 0) (x : Exponents) (p : IntegerPiece) : Type 0 where
  pub contained : Contains bs p.of
  pub in_ring : IsInRing n p.shift
  pub lower : below (plus p.shift p.of.head) x

-- some d times the S-polynomial, d at least 1, is a sum of such multiples below the least common multiple of the marks
pub record IsSettledPair (n : ℕ) (bs : List MarkedPolynomial) (below : Exponents → Exponents → Type 0) (b c : MarkedPolynomial) : Type 0 where
  pub s : Terms
  pub is_s : IsSPolynomial b c s
  pub factor : ℕ
  pub positive : 0 < factor
  pub multiples : List IntegerPiece
  pub lower : Each (IsMultipleBelow n bs below (join b.head c.head)) multiples
  pub equation : (x : Exponents) → whole (pos factor) *ℚ coefficient s x ≡ coefficient (integer_value multiples) x

-- b is the member at index i
pub record IsAt (bs : List MarkedPolynomial) (i : ℕ) (b : MarkedPolynomial) : Type 0 where
  pub within : i < length bs
  pub is : slice_index_or bs i b ≡ b

-- so is the pair of any two indices
abbrev pub ArePairsSettled : ℕ → List MarkedPolynomial → (Exponents → Exponents → Type 0) → Type 0
ArePairsSettled n bs below = (i j : ℕ) (b c : MarkedPolynomial) → i < j → IsAt bs i b → IsAt bs j c →
    IsSettledPair n bs below b c

-- ---- the working forms

-- a multiple of a member whose mark comes to a monomial below x
pub record IsPieceBelow (by : MarkedPolynomial → Type 0) (below : Exponents → Exponents → Type 0) (x : Exponents) (p : Piece) : Type 0 where
  pub member : by p.of
  pub lower : below (level p) x

-- x^u b is x^v c and multiples of members below x^u times the mark of b
pub record IsBridged (by : MarkedPolynomial → Type 0) (below : Exponents → Exponents → Type 0) (b c : MarkedPolynomial) (u v : Exponents) : Type 0 where
  pub pieces : List Piece
  pub lower : Each (IsPieceBelow by below (plus u b.head)) pieces
  pub equation : (x : Exponents) →
      coefficient (times one_ℚ u b.poly) x ≡ coefficient (times one_ℚ v c.poly) x +ℚ coefficient (value pieces) x

-- so it is at each common multiple of the marks
abbrev pub IsSettledEverywhere : (MarkedPolynomial → Type 0) → (Exponents → Exponents → Type 0) → MarkedPolynomial →
    MarkedPolynomial → Type 0
IsSettledEverywhere by below b c = (u v : Exponents) → same (plus u b.head) (plus v c.head) ≡ true →
    IsBridged by below b c u v

-- so it is at the least common multiple of the marks
pub record IsSettledAtJoin (by : MarkedPolynomial → Type 0) (below : Exponents → Exponents → Type 0) (b c : MarkedPolynomial) : Type 0 where
  pub left : Exponents
  pub right : Exponents
  pub of_left : same (plus left b.head) (join b.head c.head) ≡ true
  pub of_right : same (plus right c.head) (join b.head c.head) ≡ true
  pub bridge : IsBridged by below b c left right
