-- What Buchberger's algorithm asks for: polynomials in n variables, and an order that is good on them.
-- A term order is good on all polynomials. Another one of the six is good on polynomials that are homogeneous by a
-- positive grading: revlex by the total degree, the order along a facet by a weight that is orthogonal to its normal.
-- Laws: proofs/TaskLaws.antt. Source: Cox, Little, O'Shea, Ideals, Varieties, and Algorithms, 2.2; Sturmfels, Gröbner
-- Bases and Convex Polytopes, 1.
use Rattle.std.specs.Prelude.{◌≡◌, ℕ, List, Contains, All, ℤ, pos, ◌≤ℤ◌}
use Rattle.gf_exponents_theory.specs.Exponents.{Exponents, degree, whole_weight}
use Rattle.gf_exponents_theory.specs.Orders.{gains, negated_row_of}
use Rattle.gf_exponents_theory.specs.SixOrders.{MonomialOrder}
use Rattle.gf_order.specs.Comparisons.{HasEntries}
use Rattle.gf_poly.specs.Polynomial.{Terms, HasVariables}
use Rattle.gf_ideal_theory.specs.Membership.{HasMonomial}
use Rattle.gf_ideal_theory.specs.Marks.{IsPositive}
use Rattle.gf_ideal_theory.specs.MonomialOrders.{IsAdmissible}
use Rattle.gf_ideal_theory.specs.OrderTable.{AreMultipleApart}
use Rattle.gf_ideal_theory.specs.LawsOfBases.{AreHomogeneous}

-- the polynomials have n variables
pub record HaveRingVariables (n : ℕ) (fs : List Terms) : Type 0 where
  pub each : (f : Terms) → Contains fs f → HasVariables n f

-- by some grading the polynomials are homogeneous, and the order is good on such polynomials of n variables
pub record IsSuited (order : MonomialOrder) (n : ℕ) (fs : List Terms) : Type 0 where
  pub grade : List ℕ
  pub admissible : IsAdmissible order n grade
  pub homogeneous : AreHomogeneous n grade fs

-- the polynomials have n variables, the weight of the order, where it has one, n entries, and the order is good on them
pub record IsBasisTask (order : MonomialOrder) (n : ℕ) (fs : List Terms) : Type 0 where
  pub ring : HaveRingVariables n fs
  pub entries : HasEntries n order
  pub suited : IsSuited order n fs

-- they are so in some number of variables
pub record IsSomeBasisTask (order : MonomialOrder) (fs : List Terms) : Type 0 where
  pub n : ℕ
  pub task : IsBasisTask order n fs

-- ---- case by case

-- all monomials of each polynomial have one degree
abbrev pub HaveOneDegree : List Terms → Type 0
HaveOneDegree fs = (f : Terms) → Contains fs f → (x y : Exponents) → HasMonomial f x → HasMonomial f y → degree x ≡ degree y

-- the exponents of each polynomial are multiples of a apart
abbrev pub AreMultiplesApart : List ℤ → List Terms → Type 0
AreMultiplesApart a fs = (f : Terms) → Contains fs f → (x y : Exponents) → HasMonomial f x → HasMonomial f y → AreMultipleApart a x y

-- lex, deglex, a weight before lex, and a positive weight before revlex: for all polynomials; revlex: for homogeneous
-- ones; the order along a facet with normal a: for polynomials whose exponents are multiples of a apart, where a
-- positive v is orthogonal to a, and for all polynomials where no entry of a is positive
pub record OrdersThatSuit : Type 0 where
  pub lex : (n : ℕ) (fs : List Terms) → HaveRingVariables n fs → IsSuited MonomialOrder.lex n fs
  pub deglex : (n : ℕ) (fs : List Terms) → HaveRingVariables n fs → IsSuited MonomialOrder.deglex n fs
  pub weighted : (n : ℕ) (w : List ℕ) (fs : List Terms) → HaveRingVariables n fs → IsSuited (MonomialOrder.weighted w) n fs
  pub weighted_revlex : (n : ℕ) (w : List ℤ) (fs : List Terms) → HaveRingVariables n fs → All (λ k. pos 1 ≤ℤ k) w →
      HasEntries n (MonomialOrder.weighted_revlex (gains w)) → IsSuited (MonomialOrder.weighted_revlex (gains w)) n fs
  pub revlex : (n : ℕ) (fs : List Terms) → HaveRingVariables n fs → HaveOneDegree fs → IsSuited MonomialOrder.revlex n fs
  pub facet : (n : ℕ) (a : List ℤ) (v : List ℕ) (fs : List Terms) → HaveRingVariables n fs → IsPositive n v →
      whole_weight a v ≡ pos 0 → AreMultiplesApart a fs → IsSuited (MonomialOrder.facet (negated_row_of a)) n fs
  pub facet_downward : (n : ℕ) (a : List ℤ) (fs : List Terms) → HaveRingVariables n fs → All (λ k. k ≤ℤ pos 0) a →
      IsSuited (MonomialOrder.facet (negated_row_of a)) n fs
