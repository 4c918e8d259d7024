-- On which polynomials each of the six orders may be used, and what marks are compared by.
-- An order that isn't a term order is good on polynomials that are homogeneous by a positive grading. So each case
-- names a grading: the weights `grade` and the number n of variables; with no weights every polynomial is homogeneous.
-- Laws: proofs/OrderWeights.antt. Source: Cox, Little, O'Shea, Ideals, Varieties, and Algorithms, 2.2; Sturmfels,
-- Gröbner Bases and Convex Polytopes, 1 (weights in place of orders).
use Rattle.std.specs.Prelude.{◌≡◌, ◌⊎◌, ℕ, ◌≤◌, List}
use Rattle.gf_exponents_theory.specs.Exponents.{Exponents, entry, weight}
use Rattle.gf_exponents_theory.specs.Orders.{WeightRow, lighter}
pub use Rattle.gf_exponents_theory.specs.SixOrders.{MonomialOrder, below_of}
use Rattle.gf_poly.specs.Polynomial.{Terms}
use Rattle.gf_poly.specs.Marking.{Each}
use Rattle.gf_ideal_theory.specs.Membership.{HasMonomial}
use Rattle.gf_ideal_theory.specs.Marks.{IsPositive}

-- x and y have one grade, and agree past the first n variables
abbrev pub IsOfGrade : ℕ → List ℕ → Exponents → Exponents → Type 0
IsOfGrade n grade x y = (weight grade x ≡ weight grade y) × ((i : ℕ) → n ≤ i → entry x i ≡ entry y i)

-- all monomials of f have one grade, and agree past the first n variables
abbrev pub IsHomogeneous : ℕ → List ℕ → Terms → Type 0
IsHomogeneous n grade f = (x y : Exponents) → HasMonomial f x → HasMonomial f y → IsOfGrade n grade x y

-- the row takes nothing away: the order by it is a weighted one
abbrev pub HasNoLoss : WeightRow → Type 0
HasNoLoss r = (i : ℕ) → entry r.loss i ≡ 0

-- the order is good on polynomials of n variables that are homogeneous by the grade
abbrev pub IsAdmissible : MonomialOrder → ℕ → List ℕ → Type 0
IsAdmissible MonomialOrder.lex n grade = Unit {0}
IsAdmissible MonomialOrder.deglex n grade = Unit {0}
IsAdmissible MonomialOrder.revlex n grade = IsPositive n grade
IsAdmissible (MonomialOrder.weighted w) n grade = Unit {0}
IsAdmissible (MonomialOrder.weighted_revlex w) n grade = IsPositive n w
IsAdmissible (MonomialOrder.facet r) n grade = IsPositive n grade ⊎ HasNoLoss r

-- the first of each pair stands in the relation to the second
abbrev pub ArePairs : (Exponents → Exponents → Type 0) → List (Exponents × Exponents) → Type 0
ArePairs related ps = Each (λ (p : Exponents × Exponents). related p.0 p.1) ps

-- ---- a weight alone, or one of the orders

-- what marks may be compared by
pub data Comparison : Type 0 where
  by_weight : List ℕ → Comparison
  by_order : MonomialOrder → Comparison

-- x is below y by the comparison
abbrev pub compared_by : Comparison → Exponents → Exponents → Type 0
compared_by (Comparison.by_weight w) = lighter w
compared_by (Comparison.by_order o) = below_of o
