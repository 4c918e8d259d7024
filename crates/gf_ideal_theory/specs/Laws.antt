-- The laws of ideals, steps and marks that functions of this crate name.
use Rattle.std.specs.Prelude.{ℕ, ◌<◌, List, [], ◌∷◌, ◌++◌, Contains}
use Rattle.gf_frac.specs.Fraction.{Fraction, neg_ℚ, one_ℚ}
use Rattle.gf_exponents_theory.specs.Exponents.{Exponents, IsInRing}
use Rattle.gf_exponents_theory.specs.Orders.{lighter, IsLexBelow, IsDeglexBelow, IsWeightedBelow}
use Rattle.gf_poly.specs.Polynomial.{Terms, SamePolynomial, times}
use Rattle.gf_poly.specs.Marking.{MarkedPolynomial, polys}
use Rattle.gf_ideal_theory.specs.Membership.{HasMonomial, IsInVariables, AreInVariables, IsMember, AreSameIdeal, Spans}
use Rattle.gf_ideal_theory.specs.Marks.{AreMarked, IsPositive, HasPositiveWeight, IsRealisable}
use Rattle.gf_ideal_theory.specs.Reduction.{IsStep, Reached, IsSPolynomial, IsMonicForm, AreMonicForms}
use Rattle.gf_ideal_theory.specs.Bases.{AreMembers}
use Rattle.gf_ideal_theory.specs.MonomialOrders.{MonomialOrder, below_of, IsOfGrade, IsHomogeneous, IsAdmissible, ArePairs}
use Rattle.gf_ideal_theory.specs.Measure.{IsInBox, FitsBox, work_left}

-- the ideal of generators in n variables: the polynomials in n variables that are sums of multiples of them
pub record MembersAreSpanned : Type 0 where
  pub spanned : (n : ℕ) (fs : List Terms) (f : Terms) → IsMember n fs f → Spans fs f
  pub in_variables : (n : ℕ) (fs : List Terms) (f : Terms) → AreInVariables n fs → IsMember n fs f → IsInVariables n f
  pub back : (n : ℕ) (fs : List Terms) (f : Terms) → AreInVariables n fs → IsInVariables n f → Spans fs f →
      IsMember n fs f

-- an ideal holds its generators, and is closed under sums, differences and multiples; what members generate is in it
pub record IdealsAreClosed : Type 0 where
  pub zero : (n : ℕ) (fs : List Terms) → IsMember n fs []
  pub generator : (n : ℕ) (fs : List Terms) (f : Terms) → Contains fs f → IsMember n fs f
  pub equal : (n : ℕ) (fs : List Terms) (f g : Terms) → SamePolynomial f g → IsMember n fs f → IsMember n fs g
  pub sum : (n : ℕ) (fs : List Terms) (f g : Terms) → IsMember n fs f → IsMember n fs g → IsMember n fs (f ++ g)
  pub difference : (n : ℕ) (fs : List Terms) (f g : Terms) → IsMember n fs f → IsMember n fs g →
      IsMember n fs (f ++ times (neg_ℚ one_ℚ) [] g)
  pub multiple : (n : ℕ) (fs : List Terms) (f : Terms) (c : Fraction) (u : Exponents) → IsInRing n u →
      IsMember n fs f → IsMember n fs (times c u f)
  pub generated : (n : ℕ) (fs gs : List Terms) (f : Terms) → AreInVariables n fs →
      ((g : Terms) → Contains gs g → IsMember n fs g) → IsMember n gs f → IsMember n fs f

-- steps by members lead from members to members, and from no other polynomial to one
pub record StepsKeepTheIdeal : Type 0 where
  pub forward : (n : ℕ) (fs : List Terms) (bs : List MarkedPolynomial) (f g : Terms) → AreInVariables n fs →
      AreMembers n fs bs → Reached (Contains bs) f g → IsMember n fs f → IsMember n fs g
  pub back : (n : ℕ) (fs : List Terms) (bs : List MarkedPolynomial) (f g : Terms) → AreInVariables n fs →
      IsInVariables n f → AreMembers n fs bs → Reached (Contains bs) f g → IsMember n fs g → IsMember n fs f
  pub s_polynomial : (n : ℕ) (fs : List Terms) (b c : MarkedPolynomial) (s : Terms) → AreInVariables n fs →
      HasMonomial b.poly b.head → HasMonomial c.poly c.head → IsMember n fs b.poly → IsMember n fs c.poly →
      IsSPolynomial b c s → IsMember n fs s
  pub monic : (n : ℕ) (fs : List Terms) (f : Terms) (b : MarkedPolynomial) → AreInVariables n fs → IsMonicForm f b →
      IsMember n fs f → IsMember n fs b.poly

-- a generator that reduces to zero by members of the others' ideal may go; it may be exchanged for what it reduces to
-- by such members, and for its monic form; and all may be made monic
pub record GeneratorsMayBeExchanged : Type 0 where
  pub dropped : (n : ℕ) (xs ys : List Terms) (f : Terms) (bs : List MarkedPolynomial) →
      AreInVariables n (xs ++ f ∷ ys) → AreMembers n (xs ++ ys) bs → Reached (Contains bs) f [] →
      AreSameIdeal n (xs ++ f ∷ ys) (xs ++ ys)
  pub reduced : (n : ℕ) (xs ys : List Terms) (f r : Terms) (bs : List MarkedPolynomial) →
      AreInVariables n (xs ++ f ∷ ys) → AreMembers n (xs ++ ys) bs → Reached (Contains bs) f r →
      AreSameIdeal n (xs ++ f ∷ ys) (xs ++ r ∷ ys)
  pub monic : (n : ℕ) (xs ys : List Terms) (f : Terms) (b : MarkedPolynomial) → AreInVariables n (xs ++ f ∷ ys) →
      IsMonicForm f b → AreSameIdeal n (xs ++ f ∷ ys) (xs ++ b.poly ∷ ys)
  pub all_monic : (n : ℕ) (bs cs : List MarkedPolynomial) → AreInVariables n (polys bs) → AreMonicForms bs cs →
      AreSameIdeal n (polys bs) (polys cs)

-- division ends: a step leaves less work, wherever some positive weight sets each mark above the rest, and the monomial
-- that the step takes away, or each monomial of f, is within the limits
pub record StepsLeaveLessWork : Type 0 where
  pub step : (limit m n : ℕ) (bs : List MarkedPolynomial) (f g : Terms) → HasPositiveWeight n bs →
      (s : IsStep (Contains bs) f g) → IsInBox limit m s.at → work_left limit m bs g < work_left limit m bs f
  pub fitting : (limit m n : ℕ) (bs : List MarkedPolynomial) (f g : Terms) → HasPositiveWeight n bs →
      FitsBox limit m f → IsStep (Contains bs) f g → work_left limit m bs g < work_left limit m bs f

-- an order is a weight on finitely many comparisons
abbrev pub OrdersAreWeights : Type 0
OrdersAreWeights = (o : MonomialOrder) (n : ℕ) (grade : List ℕ) (ps : List (Exponents × Exponents)) →
    IsAdmissible o n grade → ArePairs (IsOfGrade n grade) ps → ArePairs (below_of o) ps →
    (w : List ℕ) × IsPositive n w × ArePairs (lighter w) ps

-- marks that an order gives are given by a positive weight; so are the marks of monic forms, where they were of the list
pub record MarksHaveWeights : Type 0 where
  pub by_lex : (n : ℕ) (bs : List MarkedPolynomial) → AreMarked IsLexBelow bs → HasPositiveWeight n bs
  pub by_deglex : (n : ℕ) (bs : List MarkedPolynomial) → AreMarked IsDeglexBelow bs → HasPositiveWeight n bs
  pub by_weighted : (n : ℕ) (w : List ℕ) (bs : List MarkedPolynomial) → AreMarked (IsWeightedBelow w) bs →
      HasPositiveWeight n bs
  pub by_order : (o : MonomialOrder) (n : ℕ) (grade : List ℕ) (bs : List MarkedPolynomial) → IsAdmissible o n grade →
      AreMarked (below_of o) bs → ((b : MarkedPolynomial) → Contains bs b → IsHomogeneous n grade b.poly) →
      HasPositiveWeight n bs
  pub of_monic_forms : (n : ℕ) (bs cs : List MarkedPolynomial) → IsRealisable n bs → AreMonicForms bs cs →
      HasPositiveWeight n cs
