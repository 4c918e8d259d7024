-- Steps of reduction by a marked polynomial: what a step gives, and why steps are refused.
-- A refusal names two numbers on which a step works, and which don't fit: they are told with the step that they belong to.
-- Laws: proofs/StepLaws.antt. Source: Cox, Little, O'Shea, Ideals, Varieties, and Algorithms, 2.3.
use Rattle.std.specs.Prelude.{◌≡◌, true, List, ◌++◌, Contains}
use Rattle.gf_frac.specs.Fraction.{neg_ℚ}
use Rattle.gf_exponents_theory.specs.Exponents.{Exponents, same, plus}
use Rattle.gf_poly.specs.declared.error.PolyError.{PolyError}
use Rattle.gf_poly.specs.Refusals.{IsRefusedBy}
use Rattle.gf_poly.specs.Polynomial.{Terms, coefficient, SamePolynomial, times}
use Rattle.gf_poly.specs.Marking.{MarkedPolynomial}
use Rattle.gf_ideal_theory.specs.Membership.{HasMonomial}
use Rattle.gf_ideal_theory.specs.Operands.{IsStepOperation, IsStepExponents, IsReductionOperation, IsReductionExponents}

-- ---- one step

-- g is f after the step at its monomial x by b: the coefficient at x, times x/mark, times b is taken away
pub record StepsTo (f : Terms) (b : MarkedPolynomial) (x : Exponents) (g : Terms) : Type 0 where
  pub rest : Exponents
  pub divides : same x (plus rest b.head) ≡ true
  pub there : HasMonomial f x
  pub equal : SamePolynomial g (f ++ times (neg_ℚ (coefficient f x)) rest b.poly)

-- why the step from f at x by b is refused: two numbers of this step don't fit
abbrev pub IsStepRefusal : Terms → MarkedPolynomial → Exponents → PolyError → Type 0
IsStepRefusal f b x = IsRefusedBy (IsStepOperation (λ c. c ≡ b) f x) (IsStepExponents (λ c. c ≡ b) f x)

-- ---- many steps

-- why a reduction of f by members of bs is refused: two numbers of a step from a polynomial that f reaches don't fit
abbrev pub IsReductionRefusal : List MarkedPolynomial → Terms → PolyError → Type 0
IsReductionRefusal bs f = IsRefusedBy (IsReductionOperation (Contains bs) f) (IsReductionExponents (Contains bs) f)
