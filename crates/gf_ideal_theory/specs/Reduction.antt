-- Steps of reduction by marked polynomials, what no step changes, S-polynomials.
-- Laws: proofs/StepLaws.antt. Source: Cox, Little, O'Shea, Ideals, Varieties, and Algorithms, 2.3 and 2.6.
use Rattle.std.specs.Prelude.{◌≡◌, ◌⊎◌, true, List, [], ◌∷◌, ◌++◌}
use Rattle.gf_frac.specs.Fraction.{◌*ℚ◌, neg_ℚ, one_ℚ}
use Rattle.gf_exponents_theory.specs.Exponents.{Exponents, same, plus, join}
use Rattle.gf_poly.specs.Polynomial.{Terms, coefficient, SamePolynomial, times}
use Rattle.gf_poly.specs.Marking.{MarkedPolynomial}
use Rattle.gf_ideal_theory.specs.Membership.{HasMonomial}

-- the mark of a member divides x
pub record IsDivisible (by : MarkedPolynomial → Type 0) (x : Exponents) : Type 0 where
  pub member : MarkedPolynomial
  pub contained : by member
  pub rest : Exponents
  pub divides : same x (plus rest member.head) ≡ true

-- no mark divides a monomial of f
abbrev pub IsIrreducible : (MarkedPolynomial → Type 0) → Terms → Type 0
IsIrreducible by f = (x : Exponents) → HasMonomial f x → IsDivisible by x → ⊥

-- one step: g is f without its term at a monomial x that a mark divides, less that term times x/mark times the member
pub record IsStep (by : MarkedPolynomial → Type 0) (f g : Terms) : Type 0 where
  pub at : Exponents
  pub member : MarkedPolynomial
  pub rest : Exponents
  pub contained : by member
  pub there : HasMonomial f at
  pub divides : same at (plus rest member.head) ≡ true
  pub equal : SamePolynomial g (f ++ times (neg_ℚ (coefficient f at)) rest member.poly)

-- finitely many steps, up to equal polynomials
pub data Reached (by : MarkedPolynomial → Type 0) (f : Terms) : Terms → Type 0 where
  here : (g : Terms) → SamePolynomial f g → Reached by f g
  next : (g h : Terms) → Reached by f g → IsStep by g h → Reached by f h

-- s is the S-polynomial of two monic polynomials: both raised to the least common multiple of the marks, the
-- second taken from the first
pub record IsSPolynomial (b c : MarkedPolynomial) (s : Terms) : Type 0 where
  pub left : Exponents
  pub right : Exponents
  pub of_left : same (plus left b.head) (join b.head c.head) ≡ true
  pub of_right : same (plus right c.head) (join b.head c.head) ≡ true
  pub equal : SamePolynomial s (times one_ℚ left b.poly ++ times (neg_ℚ one_ℚ) right c.poly)

-- b is f divided by its coefficient at the mark of b, which isn't 0
pub record IsMonicForm (f : Terms) (b : MarkedPolynomial) : Type 0 where
  pub there : HasMonomial f b.head
  pub equation : (x : Exponents) → coefficient f b.head *ℚ coefficient b.poly x ≡ coefficient f x

-- index by index: c is the monic form of b, with the mark of b
abbrev pub AreMonicForms : List MarkedPolynomial → List MarkedPolynomial → Type 0
AreMonicForms [] [] = Unit {0}
AreMonicForms [] (c ∷ cs) = ⊥
AreMonicForms (b ∷ bs) [] = ⊥
AreMonicForms (b ∷ bs) (c ∷ cs) = IsMonicForm b.poly c × (same c.head b.head ≡ true) × AreMonicForms bs cs

-- r is zero, or its monic form is a member
abbrev pub IsKept : (MarkedPolynomial → Type 0) → Terms → Type 0
IsKept by r = SamePolynomial r [] ⊎ ((b : MarkedPolynomial) × by b × IsMonicForm r b)

-- b has no monomial but the marked one
abbrev pub HasOneMonomial : MarkedPolynomial → Type 0
HasOneMonomial b = (x : Exponents) → HasMonomial b.poly x → same x b.head ≡ true
