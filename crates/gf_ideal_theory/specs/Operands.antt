-- The operations of steps: which two numbers a step adds, subtracts, multiplies or divides.
-- A program that refuses since one of them leaves its range shows by these that the operation was one of a step, and
-- which: each names the polynomial, the member, and the monomials that the two numbers belong to. A product's two
-- numbers may come in either order.
use Rattle.std.specs.Prelude.{◌≡◌, ◌⊎◌, ℕ, true}
use Rattle.gf_frac.specs.Fraction.{Fraction, ◌*ℚ◌, one_ℚ}
use Rattle.gf_frac.specs.declared.refusal.Op.{Op}
use Rattle.gf_frac.specs.declared.refusal.Op.TheVariants.{Add, Sub, Mul, Div}
use Rattle.gf_exponents_theory.specs.Exponents.{Exponents, entry, same, plus, join}
use Rattle.gf_poly.specs.Polynomial.{Terms, coefficient, times}
use Rattle.gf_poly.specs.Marking.{MarkedPolynomial}
use Rattle.gf_ideal_theory.specs.Membership.{HasMonomial}
use Rattle.gf_ideal_theory.specs.Reduction.{Reached}

-- where a step may be taken: a monomial of f, and a member whose mark, times `rest`, is that monomial
pub record IsIndex (by : MarkedPolynomial → Type 0) (f : Terms) (at : Exponents) (member : MarkedPolynomial) (rest : Exponents) : Type 0 where
  pub contained : by member
  pub there : HasMonomial f at
  pub divides : same at (plus rest member.head) ≡ true

-- the two numbers, in one order or the other
abbrev pub AreThese : {A : Type 0} → A → A → A → A → Type 0
AreThese x y left right = ((left ≡ x) × (right ≡ y)) ⊎ ((left ≡ y) × (right ≡ x))

-- ---- coefficients

-- at the monomial `at` of f: the coefficient that is taken away, times one of the member
pub record IsStepProduct (by : MarkedPolynomial → Type 0) (f : Terms) (at : Exponents) (left right : Fraction) : Type 0 where
  pub member : MarkedPolynomial
  pub rest : Exponents
  pub index : IsIndex by f at member rest
  pub exponents : Exponents
  pub operands : AreThese (coefficient f at) (coefficient member.poly exponents) left right

-- at the monomial `at` of f: a coefficient of f, less such a product that belongs to the same monomial
pub record IsStepDifference (by : MarkedPolynomial → Type 0) (f : Terms) (at : Exponents) (left right : Fraction) : Type 0 where
  pub member : MarkedPolynomial
  pub rest : Exponents
  pub index : IsIndex by f at member rest
  pub exponents : Exponents
  pub is_left : left ≡ coefficient f (plus rest exponents)
  pub is_right : right ≡ coefficient f at *ℚ coefficient member.poly exponents

-- an operation of one step from f at the monomial `at`
abbrev pub IsStepOperation : (MarkedPolynomial → Type 0) → Terms → Exponents → Op → Fraction → Fraction → Type 0
IsStepOperation by f at Add left right = ⊥
IsStepOperation by f at Sub left right = IsStepDifference by f at left right
IsStepOperation by f at Mul left right = IsStepProduct by f at left right
IsStepOperation by f at Div left right = ⊥

-- an operation of a reduction of f: of one step from a polynomial that f reaches
pub record IsReductionOperation (by : MarkedPolynomial → Type 0) (f : Terms) (op : Op) (left right : Fraction) : Type 0 where
  pub from : Terms
  pub reached : Reached by f from
  pub at : Exponents
  pub operation : IsStepOperation by from at op left right

-- in the S-polynomial of monic b and c: the difference of two coefficients at one monomial
pub record IsSPolynomialOperation (b c : MarkedPolynomial) (op : Op) (left right : Fraction) : Type 0 where
  pub is_op : op ≡ Sub
  pub of_b : Exponents
  pub of_c : Exponents
  pub shift_b : same (plus of_b b.head) (join b.head c.head) ≡ true
  pub shift_c : same (plus of_c c.head) (join b.head c.head) ≡ true
  pub exponents : Exponents
  pub is_left : left ≡ coefficient (times one_ℚ of_b b.poly) exponents
  pub is_right : right ≡ coefficient (times one_ℚ of_c c.poly) exponents

-- in making f monic at x: a coefficient of f by the one at x
pub record IsMonicOperation (f : Terms) (x : Exponents) (op : Op) (left right : Fraction) : Type 0 where
  pub is_op : op ≡ Div
  pub there : HasMonomial f x
  pub exponents : Exponents
  pub is_left : left ≡ coefficient f exponents
  pub is_right : right ≡ coefficient f x

-- ---- exponents

-- the exponents of one variable in the shift and in a monomial of f
pub record IsShiftOperation (shift : Exponents) (f : Terms) (left right : ℕ) : Type 0 where
  pub monomial : Exponents
  pub there : HasMonomial f monomial
  pub variable : ℕ
  pub operands : AreThese (entry shift variable) (entry monomial variable) left right

-- an exponent sum of one step from f at the monomial `at`, to which the member is raised
pub record IsStepExponents (by : MarkedPolynomial → Type 0) (f : Terms) (at : Exponents) (left right : ℕ) : Type 0 where
  pub member : MarkedPolynomial
  pub rest : Exponents
  pub index : IsIndex by f at member rest
  pub sum : IsShiftOperation rest member.poly left right

-- an exponent sum of a reduction of f: of one step from a polynomial that f reaches
pub record IsReductionExponents (by : MarkedPolynomial → Type 0) (f : Terms) (left right : ℕ) : Type 0 where
  pub from : Terms
  pub reached : Reached by f from
  pub at : Exponents
  pub sum : IsStepExponents by from at left right

-- an exponent sum of an S-polynomial: b or c is raised to the least common multiple of the marks
pub record IsSPolynomialExponents (b c : MarkedPolynomial) (left right : ℕ) : Type 0 where
  pub of_b : Exponents
  pub of_c : Exponents
  pub shift_b : same (plus of_b b.head) (join b.head c.head) ≡ true
  pub shift_c : same (plus of_c c.head) (join b.head c.head) ≡ true
  pub sum : IsShiftOperation of_b b.poly left right ⊎ IsShiftOperation of_c c.poly left right
