-- What a saturation is answered with: the reduced basis by deglex, or why there is none.
-- Laws: proofs/StageLaws.antt. Source: Cox, Little, O'Shea, Ideals, Varieties, and Algorithms, 3.1 and 4.4.
use Rattle.std.specs.Prelude.{◌≡◌, ◌⊎◌, ◌↔◌, ℕ, zero, suc, ◌+◌, ◌<◌, List, Contains, length, IfSome}
use Rattle.gf_exponents_theory.specs.Exponents.{entry}
use Rattle.gf_exponents_theory.specs.Orders.{IsDeglexBelow, IsWeightedBelow}
use Rattle.gf_exponents_theory.specs.SixOrders.{MonomialOrder}
use Rattle.gf_poly.specs.Polynomial.{Terms, HasVariables, IsDescending}
use Rattle.gf_poly.specs.Marking.{MarkedPolynomial, MarkedPolynomials, polys}
use Rattle.gf_ideal_theory.specs.Marks.{AreMarked}
use Rattle.gf_ideal_theory.specs.Membership.{IsMember}
use Rattle.gf_ideal_theory.specs.Bases.{IsReducedBasisFor, AreArranged}
use Rattle.gf_buchberger.specs.Tasks.{HaveRingVariables}
use Rattle.gf_buchberger.specs.declared.bases.BasisError.{BasisError}
use Rattle.gf_buchberger.specs.declared.queue.Strategy.TheVariants.{Degree}
use Rattle.gf_buchberger.specs.Ruled.{AreRuledRunsWithinLimits}
use Rattle.gf_buchberger.specs.Bases.{IsArrangedBasis, IsBasisRefusal, IsWantOfMemory}
use Rattle.gf_saturation_theory.specs.Saturations.{IsSaturatedBy, IsSaturated, next_variable, last_weight}
use Rattle.gf_saturate.specs.declared.stages.Stage.{Stage}
use Rattle.gf_saturate.specs.Widening.{extended_list, left_over, variable_at}

-- ---- the answer

-- s is the reduced basis by deglex of the saturation of fs by the product of n variables, arranged
pub record IsSaturation (n : ℕ) (fs : List Terms) (s : MarkedPolynomials) : Type 0 where
  pub variables : s.variables ≡ n
  pub members : (f : Terms) → IsMember n (polys s.items) f ↔ IsSaturated n fs f
  pub reduced : IsReducedBasisFor n (polys s.items) IsDeglexBelow s.items
  pub arranged : AreArranged n s.items

-- ---- the sets on the way

-- by what the bases of a step are made: the weight of the variable after the first n, then lex
abbrev pub step_order : ℕ → MonomialOrder
step_order n = MonomialOrder.weighted (last_weight n)

-- what a step works on: fs, and the inverse of the variable at index k
abbrev pub step_list : ℕ → ℕ → List Terms → List Terms
step_list n k fs = extended_list (variable_at n k) fs

-- saturating the ideal of fs by the variable at index k adds nothing
abbrev pub AddsNothing : ℕ → ℕ → List Terms → Type 0
AddsNothing n k fs = (f : Terms) → IsSaturatedBy n fs (next_variable k) f → IsMember n fs f

-- hs is what the reduced basis of such a list has without the last variable
pub record IsVariableStep (n k : ℕ) (fs hs : List Terms) : Type 0 where
  pub basis : MarkedPolynomials
  pub is_basis : IsArrangedBasis (step_order n) (n + 1) (step_list n k fs) basis
  pub is : hs ≡ left_over n basis.items

-- hs may stand for the saturation by the first k variables: by none of them fs, or its reduced basis by deglex; by one more
-- what a step leaves, or the same where that variable adds nothing
abbrev pub IsOnTheWay : ℕ → List Terms → ℕ → List Terms → Type 0
IsOnTheWay n fs zero hs = (hs ≡ fs) ⊎ ((s : MarkedPolynomials) × IsArrangedBasis MonomialOrder.deglex n fs s × (hs ≡ polys s.items))
IsOnTheWay n fs (suc k) hs = (gs : List Terms) × IsOnTheWay n fs k gs × (IsVariableStep n k gs hs ⊎ (AddsNothing n k gs × (hs ≡ gs)))

-- the polynomials are in n variables, those variables add nothing that don't occur in the monomial beside them, and a basis
-- that is there is the reduced one by deglex
pub record IsStage (n : ℕ) (s : Stage) : Type 0 where
  pub ring : HaveRingVariables n s.polys.items
  pub long : length s.marks ≡ n
  pub spared : (k : ℕ) → k < n → entry s.marks k ≡ 0 → AddsNothing n k s.polys.items
  pub known : IfSome s.basis (IsArrangedBasis MonomialOrder.deglex n s.polys.items)

-- ---- refusals

-- why there is no basis of fs by the order; where the run by the rule of the program stays within its limits, for want of memory alone
abbrev pub IsToldRefusal : MonomialOrder → ℕ → List Terms → ℕ → BasisError → Type 0
IsToldRefusal order n fs budget e = IsBasisRefusal order n fs budget e × (AreRuledRunsWithinLimits Degree order fs budget → IsWantOfMemory e)

-- why a step has no basis
abbrev pub IsVariableStepRefusal : ℕ → ℕ → List Terms → ℕ → BasisError → Type 0
IsVariableStepRefusal n k fs budget e = IsToldRefusal (step_order n) (n + 1) (step_list n k fs) budget e

-- why there is no saturation: no basis of a step by a variable, none by deglex of what stands for the saturation by all, or no memory
pub data IsSaturateRefusal (n : ℕ) (fs : List Terms) (budget : ℕ) (e : BasisError) : Type 0 where
  at_step : (k : ℕ) (hs : List Terms) → k < n → IsOnTheWay n fs k hs → IsVariableStepRefusal n k hs budget e → IsSaturateRefusal n fs budget e
  at_end : (hs : List Terms) → IsOnTheWay n fs n hs → IsToldRefusal MonomialOrder.deglex n hs budget e → IsSaturateRefusal n fs budget e
  no_memory : IsWantOfMemory e → IsSaturateRefusal n fs budget e

-- the run by the rule of the program leaves its limits on none of these sets
pub record AreStepsWithinLimits (n : ℕ) (fs : List Terms) (budget : ℕ) : Type 0 where
  pub steps : (k : ℕ) (hs : List Terms) → k < n → IsOnTheWay n fs k hs → AreRuledRunsWithinLimits Degree (step_order n) (step_list n k hs) budget
  pub last : (hs : List Terms) → IsOnTheWay n fs n hs → AreRuledRunsWithinLimits Degree MonomialOrder.deglex hs budget

-- ---- what is left over

-- what is needed to take what is left over: members in n + 1 variables that descend, marked by the weight of the last variable before lex
pub record IsToEliminate (n : ℕ) (bs : List MarkedPolynomial) : Type 0 where
  pub variables : (b : MarkedPolynomial) → Contains bs b → HasVariables (n + 1) b.poly
  pub descending : (b : MarkedPolynomial) → Contains bs b → IsDescending b.poly
  pub heads : (b : MarkedPolynomial) → Contains bs b → length b.head ≡ n + 1
  pub marked : AreMarked (IsWeightedBelow (last_weight n)) bs
