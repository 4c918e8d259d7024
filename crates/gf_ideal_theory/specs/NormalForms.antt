-- The normal form by a rule that leaves no choice: each step takes the greatest monomial by deglex that a mark divides,
-- by the first member whose mark divides it.
-- Laws: proofs/NormalFormLaws.antt. Source: Cox, Little, O'Shea, Ideals, Varieties, and Algorithms, 2.3 (the division
-- algorithm, which takes the first divisor).
use Rattle.std.specs.Prelude.{◌≡◌, ◌⊎◌, ℕ, ◌<◌, true, List, ◌++◌, Contains}
use Rattle.gf_frac.specs.Fraction.{neg_ℚ}
use Rattle.gf_exponents_theory.specs.Exponents.{Exponents, same, plus, NoMultiple}
use Rattle.gf_exponents_theory.specs.Orders.{IsDeglexBelow}
use Rattle.gf_poly.specs.Polynomial.{Terms, coefficient, SamePolynomial, times}
use Rattle.gf_poly.specs.Marking.{MarkedPolynomial}
use Rattle.gf_ideal_theory.specs.Membership.{HasMonomial}
use Rattle.gf_ideal_theory.specs.Reduction.{IsDivisible, IsIrreducible}
use Rattle.gf_ideal_theory.specs.Settled.{IsAt}

-- g is f after the step that the rule takes
pub record IsRuleStep (bs : List MarkedPolynomial) (f g : Terms) : Type 0 where
  pub at : Exponents
  pub index : ℕ
  pub member : MarkedPolynomial
  pub rest : Exponents
  pub contained : IsAt bs index member
  pub there : HasMonomial f at
  pub divides : same at (plus rest member.head) ≡ true
  pub first : (i : ℕ) (b : MarkedPolynomial) → i < index → IsAt bs i b → NoMultiple b.head at
  pub greatest : (x : Exponents) → HasMonomial f x → IsDivisible (Contains bs) x →
      (same x at ≡ true) ⊎ IsDeglexBelow x at
  pub equal : SamePolynomial g (f ++ times (neg_ℚ (coefficient f at)) rest member.poly)

-- finitely many such steps, up to equal polynomials
pub data IsRuleReached (bs : List MarkedPolynomial) (f : Terms) : Terms → Type 0 where
  here : (g : Terms) → SamePolynomial f g → IsRuleReached bs f g
  next : (g h : Terms) → IsRuleReached bs f g → IsRuleStep bs g h → IsRuleReached bs f h

-- r is the normal form of f: it is reached by the rule, and no mark divides a monomial of it
pub record IsNormalForm (bs : List MarkedPolynomial) (f r : Terms) : Type 0 where
  pub reached : IsRuleReached bs f r
  pub irreducible : IsIrreducible (Contains bs) r
