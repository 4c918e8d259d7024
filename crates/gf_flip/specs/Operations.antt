-- The operations of a flip: which two numbers a flip may add, subtract, multiply or divide; and why it is refused.
-- They are those of a run on the parts, of taking the remainders by the basis from the members of the basis of the parts,
-- and of autoreducing the lifts. Laws: proofs/RefusalSteps.antt.
-- Source: Fukuda, Jensen, Thomas, Computing Gröbner fans, 4.2.
use Rattle.std.specs.Prelude.{ℕ, ◌+◌, ◌<◌, ◌≤◌, ◌^◌, List, ℤ, length}
use Rattle.gf_frac.specs.Fraction.{Fraction}
use Rattle.gf_frac.specs.Fits.{Fits}
use Rattle.gf_frac.specs.declared.refusal.Op.{Op}
use Rattle.gf_exponents_theory.specs.Orders.{IsFacetBelow, negated_row_of}
use Rattle.gf_exponents_theory.specs.SixOrders.{MonomialOrder}
use Rattle.gf_poly.specs.Polynomial.{Terms}
use Rattle.gf_poly.specs.Marking.{MarkedPolynomial, MarkedPolynomials}
use Rattle.gf_ideal_theory.specs.WorkLists.{IsWorkList, IsRunOperation, IsRunExponents}
use Rattle.gf_division.specs.Autoreduction.{AreNeededForms, IsNeededOperation, IsTailOperation, IsTailExponents}
use Rattle.gf_buchberger.specs.declared.bases.BasisError.{BasisError}
use Rattle.gf_buchberger.specs.declared.bases.BasisError.TheVariants as errors
use Rattle.gf_buchberger.specs.Pairs.{pairs_below}
use Rattle.gf_buchberger.specs.Bases.{IsBudgetSpent}
use Rattle.gf_initial_theory.specs.Lifts.{AreLifts}
use Rattle.gf_strands.specs.Along.{AreAlong, IsBasisOfParts}
use Rattle.gf_lifts.specs.LiftRefusals.{IsLiftsOperation, IsLiftsExponents}

-- the operation is one of a run on the parts, of lifting a member of their basis, of making a lift monic, or of a step at
-- an unmarked term of a tail by the lifts
pub data IsFlipOperation (n : ℕ) (bs : List MarkedPolynomial) (a : List ℤ) (op : Op) (left right : Fraction) : Type 0 where
  parts : (fs : List Terms) → AreAlong a bs fs → IsRunOperation fs (IsFacetBelow (negated_row_of a)) op left right →
      IsFlipOperation n bs a op left right
  lift : (hs : List MarkedPolynomial) → IsBasisOfParts n bs a hs → IsLiftsOperation bs hs op left right →
      IsFlipOperation n bs a op left right
  monic : (hs ls : List MarkedPolynomial) → IsBasisOfParts n bs a hs → AreLifts bs hs ls → IsNeededOperation ls op left right →
      IsFlipOperation n bs a op left right
  tail : (hs ls ks : List MarkedPolynomial) → IsBasisOfParts n bs a hs → AreLifts bs hs ls → AreNeededForms ls ks →
      IsTailOperation ks op left right → IsFlipOperation n bs a op left right

-- the exponents are added in such a run, in lifting a member, or in such a step
pub data IsFlipExponents (n : ℕ) (bs : List MarkedPolynomial) (a : List ℤ) (left right : ℕ) : Type 0 where
  parts : (fs : List Terms) → AreAlong a bs fs → IsRunExponents fs (IsFacetBelow (negated_row_of a)) left right →
      IsFlipExponents n bs a left right
  lift : (hs : List MarkedPolynomial) → IsBasisOfParts n bs a hs → IsLiftsExponents bs hs left right → IsFlipExponents n bs a left right
  tail : (hs ls ks : List MarkedPolynomial) → IsBasisOfParts n bs a hs → AreLifts bs hs ls → AreNeededForms ls ks →
      IsTailExponents ks left right → IsFlipExponents n bs a left right

-- the budget was spent on the parts
pub record IsBudgetSpentOnParts (n : ℕ) (bs : List MarkedPolynomial) (a : List ℤ) (budget : ℕ) (s : MarkedPolynomials) (unsettled : List (ℕ × ℕ)) : Type 0 where
  pub generators : List Terms
  pub along : AreAlong a bs generators
  pub spent : IsBudgetSpent (MonomialOrder.facet (negated_row_of a)) n generators budget s unsettled

-- why bs isn't flipped along a: the operands of an operation of this flip, which don't fit; or a spent budget
abbrev pub IsFlipRefusal : ℕ → List MarkedPolynomial → List ℤ → ℕ → BasisError → Type 0
IsFlipRefusal n bs a budget (errors.Overflow o) = IsFlipOperation n bs a o.op o.left o.right × ¬ (Fits o.op o.left o.right)
IsFlipRefusal n bs a budget (errors.Exponent o) = IsFlipExponents n bs a o.left o.right × (2 ^ 31 ≤ o.left + o.right)
IsFlipRefusal n bs a budget (errors.PairBudget s unsettled) = IsBudgetSpentOnParts n bs a budget s unsettled
IsFlipRefusal n bs a budget errors.Memory = Unit {0}

-- no flip of bs along a has an operation whose operands don't fit, and no list of a run on the parts has more pairs than the budget
pub record IsFlipWithinLimits (n : ℕ) (bs : List MarkedPolynomial) (a : List ℤ) (budget : ℕ) : Type 0 where
  pub operations : (op : Op) (left right : Fraction) → IsFlipOperation n bs a op left right → Fits op left right
  pub exponents : (left right : ℕ) → IsFlipExponents n bs a left right → left + right < 2 ^ 31
  pub pairs : (fs : List Terms) (cs : List MarkedPolynomial) → AreAlong a bs fs → IsWorkList fs (IsFacetBelow (negated_row_of a)) cs →
      pairs_below (length cs) ≤ budget
