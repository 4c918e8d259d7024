-- Marked polynomials divided by the power of a variable that their marks have.
-- Source: Bayer, Stillman, A criterion for detecting m-regularity; Sturmfels, Gröbner Bases and Convex Polytopes, Lemma 12.1.
use Rattle.std.specs.Prelude.{◌≡◌, ℕ, zero, suc, ◌*◌, ◌-◌, ◌≤◌, true, List, [], ◌∷◌, Contains}
use Rattle.gf_frac.specs.Fraction.{one_ℚ}
use Rattle.gf_exponents_theory.specs.Exponents.{Exponents, entry, same, plus, IsInRing}
use Rattle.gf_poly.specs.Polynomial.{Terms, SamePolynomial, times}
use Rattle.gf_poly.specs.Marking.{MarkedPolynomial}
use Rattle.gf_ideal_theory.specs.Membership.{HasMonomial}
use Rattle.gf_saturation_theory.specs.Saturations.{powered, next_variable}

-- no monomial of b has less of the variable at index k than its mark
abbrev pub HasLeastAtMark : ℕ → MarkedPolynomial → Type 0
HasLeastAtMark k b = (x : Exponents) → HasMonomial b.poly x → entry b.head k ≤ entry x k

-- b is d times a power of the variable at index k, of which the mark of d has nothing
pub record IsQuotient (k : ℕ) (b d : MarkedPolynomial) : Type 0 where
  pub power : ℕ
  pub head : same b.head (plus (powered power (next_variable k)) d.head) ≡ true
  pub poly : SamePolynomial b.poly (times one_ℚ (powered power (next_variable k)) d.poly)
  pub free : entry d.head k ≡ 0

-- each member of the one has a quotient in the other, and that has no others
pub record AreQuotients (k : ℕ) (bs ds : List MarkedPolynomial) : Type 0 where
  pub each : (b : MarkedPolynomial) → Contains bs b → (d : MarkedPolynomial) × Contains ds d × IsQuotient k b d
  pub only : (d : MarkedPolynomial) → Contains ds d → (b : MarkedPolynomial) × Contains bs b × IsQuotient k b d

-- twice the grade
abbrev pub doubled : List ℕ → List ℕ
doubled [] = []
doubled (g ∷ gs) = (2 * g) ∷ doubled gs

-- twice the grade, less 1 at index k
abbrev pub lowered : ℕ → List ℕ → List ℕ
lowered k [] = []
lowered zero (g ∷ gs) = (2 * g - 1) ∷ doubled gs
lowered (suc k) (g ∷ gs) = (2 * g) ∷ lowered k gs

-- b is h times a monomial that has at least as much of the variable at index k as the mark of b
pub record IsStripped (n k : ℕ) (b : MarkedPolynomial) (h : Terms) : Type 0 where
  pub by : Exponents
  pub ring : IsInRing n by
  pub poly : SamePolynomial b.poly (times one_ℚ by h)
  pub enough : entry b.head k ≤ entry by k

-- each member of the one is so divided in the other, and that has no others
pub record AreStripped (n k : ℕ) (bs : List MarkedPolynomial) (hs : List Terms) : Type 0 where
  pub each : (b : MarkedPolynomial) → Contains bs b → (h : Terms) × Contains hs h × IsStripped n k b h
  pub only : (h : Terms) → Contains hs h → (b : MarkedPolynomial) × Contains bs b × IsStripped n k b h
