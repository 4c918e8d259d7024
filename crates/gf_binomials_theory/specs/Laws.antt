-- The theorems on differences of two monomials that functions of this crate name.
use Rattle.std.specs.Prelude.{ℕ, ◌+◌, ◌<◌, ◌≤◌, ◌^◌, List, [], ◌∷◌, length, Contains}
use Rattle.gf_frac.specs.Fraction.{Fraction}
use Rattle.gf_frac.specs.Fits.{Fits}
use Rattle.gf_frac.specs.declared.refusal.Op.{Op}
use Rattle.gf_exponents_theory.specs.Exponents.{Exponents}
use Rattle.gf_exponents_theory.specs.SixOrders.{MonomialOrder, below_of}
use Rattle.gf_poly.specs.Polynomial.{Terms}
use Rattle.gf_poly.specs.Marking.{MarkedPolynomial}
use Rattle.gf_ideal_theory.specs.Bases.{IsBasis, HasReducedTails, AreApart}
use Rattle.gf_ideal_theory.specs.Membership.{IsInVariables}
use Rattle.gf_ideal_theory.specs.Reduction.{Reached, IsSPolynomial, IsMonicForm}
use Rattle.gf_ideal_theory.specs.Operands.{IsReductionOperation, IsSPolynomialOperation, IsMonicOperation, IsStepOperation}
use Rattle.gf_ideal_theory.specs.WorkLists.{IsWorkList, IsTail, IsRunOperation, IsRunExponents}
use Rattle.gf_binomials_theory.specs.Antichains.{IsAntichain, HasShortExponents}
use Rattle.gf_binomials_theory.specs.Binomials.{IsBinomial, AreBinomials, IsMarkedBinomial, AreMarkedBinomials}

-- what reductions, S-polynomials and monic forms make of them are such differences; so are the members of each list that
-- Buchberger's algorithm may have on its way, and their tails
pub record BinomialsStayBinomials : Type 0 where
  pub reduction : (bs : List MarkedPolynomial) (f g : Terms) → AreMarkedBinomials (Contains bs) → IsBinomial f → Reached (Contains bs) f g → IsBinomial g
  pub s_polynomial : (b c : MarkedPolynomial) (s : Terms) → IsMarkedBinomial b → IsMarkedBinomial c → IsSPolynomial b c s → IsBinomial s
  pub monic_form : (f : Terms) (b : MarkedPolynomial) → IsBinomial f → IsMonicForm f b → IsMarkedBinomial b
  pub list : (fs : List Terms) (order : MonomialOrder) (bs : List MarkedPolynomial) → AreBinomials fs →
      IsWorkList fs (below_of order) bs → AreMarkedBinomials (Contains bs)
  pub tail : (bs : List MarkedPolynomial) (b : MarkedPolynomial) → AreMarkedBinomials (Contains bs) → IsTail bs b → IsBinomial b.poly

-- none of their operations leaves its range
pub record OperationsOnBinomialsFit : Type 0 where
  pub reduction : (bs : List MarkedPolynomial) (f : Terms) (op : Op) (left right : Fraction) → AreMarkedBinomials (Contains bs) → IsBinomial f →
      IsReductionOperation (Contains bs) f op left right → Fits op left right
  pub s_polynomial : (b c : MarkedPolynomial) (op : Op) (left right : Fraction) → IsMarkedBinomial b → IsMarkedBinomial c →
      IsSPolynomialOperation b c op left right → Fits op left right
  pub monic_form : (f : Terms) (x : Exponents) (op : Op) (left right : Fraction) → IsBinomial f → IsMonicOperation f x op left right →
      Fits op left right
  pub tail : (bs : List MarkedPolynomial) (b : MarkedPolynomial) (at : Exponents) (op : Op) (left right : Fraction) →
      AreMarkedBinomials (Contains bs) → IsTail bs b → IsStepOperation (Contains bs) b.poly at op left right → Fits op left right
  pub run : (fs : List Terms) (order : MonomialOrder) (op : Op) (left right : Fraction) → AreBinomials fs →
      IsRunOperation fs (below_of order) op left right → Fits op left right

-- a run, by any order, on one polynomial none of whose monomials divides another has one member at most, and adds only exponents
-- of the polynomial to 0
pub record PrincipalRunsAreShort : Type 0 where
  pub exponents : (order : MonomialOrder) (f : Terms) (left right : ℕ) → IsAntichain f → HasShortExponents f →
      IsRunExponents (f ∷ []) (below_of order) left right → left + right < 2 ^ 31
  pub members : (order : MonomialOrder) (f : Terms) (bs : List MarkedPolynomial) → IsAntichain f →
      IsWorkList (f ∷ []) (below_of order) bs → length bs ≤ 1

-- a reduced basis of an ideal with one generator has one member at most, which is a monic form of the generator
pub record PrincipalBasesAreForms : Type 0 where
  pub forms : (n : ℕ) (f : Terms) (hs : List MarkedPolynomial) → IsInVariables n f → IsBasis n (f ∷ []) hs → HasReducedTails hs →
      AreApart hs → (h : MarkedPolynomial) → Contains hs h → IsMonicForm f h
  pub members : (n : ℕ) (f : Terms) (hs : List MarkedPolynomial) → IsInVariables n f → IsBasis n (f ∷ []) hs → HasReducedTails hs →
      AreApart hs → length hs ≤ 1
