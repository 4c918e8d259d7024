-- The lists that Buchberger's algorithm may have on its way, the tails of their members, and the operations of such a
-- run. These are relations: they hold of all lists that some choice of pairs and reductions leads to.
-- Laws: proofs/WorkLaws.antt. Source: Cox, Little, O'Shea, Ideals, Varieties, and Algorithms, 2.7.
use Rattle.std.specs.Prelude.{◌≡◌, ◌⊎◌, ℕ, true, false, List, [], ◌∷◌, ◌++◌, Contains}
use Rattle.gf_frac.specs.Fraction.{Fraction}
use Rattle.gf_frac.specs.declared.refusal.Op.{Op}
use Rattle.gf_exponents_theory.specs.Exponents.{Exponents, same}
use Rattle.gf_poly.specs.Polynomial.{Terms}
use Rattle.gf_poly.specs.Marking.{MarkedPolynomial}
use Rattle.gf_ideal_theory.specs.Membership.{HasMonomial}
use Rattle.gf_ideal_theory.specs.Marks.{IsMarked}
use Rattle.gf_ideal_theory.specs.Reduction.{IsDivisible, IsStep, Reached, IsSPolynomial, IsMonicForm}
use Rattle.gf_ideal_theory.specs.Operands.{IsStepOperation, IsReductionOperation, IsSPolynomialOperation, IsMonicOperation, IsStepExponents}
use Rattle.gf_ideal_theory.specs.Operands.{IsReductionExponents, IsSPolynomialExponents}
use Rattle.gf_ideal_theory.specs.Bases.{IsGreatest}

-- what a reduction starts from: a generator, or the S-polynomial of two members
abbrev pub IsOrigin : List Terms → List MarkedPolynomial → Terms → Type 0
IsOrigin fs bs f = Contains fs f ⊎ ((b : MarkedPolynomial) × (c : MarkedPolynomial) × Contains bs b × Contains bs c × IsSPolynomial b c f)

-- the empty list; and a list followed by the monic form, marked at its greatest monomial, of a polynomial that the list
-- reaches from an origin and of which no mark divides the greatest monomial
pub data IsWorkList (fs : List Terms) (below : Exponents → Exponents → Type 0) : List MarkedPolynomial → Type 0 where
  start : IsWorkList fs below []
  more : (bs : List MarkedPolynomial) (f g : Terms) (b : MarkedPolynomial) → IsWorkList fs below bs →
      IsOrigin fs bs f → Reached (Contains bs) f g → IsMonicForm g b → IsMarked below b →
      (IsDivisible (Contains bs) b.head → ⊥) → IsWorkList fs below (bs ++ b ∷ [])

-- the members of the list, and what steps by them at unmarked terms lead to
pub data IsTail (bs : List MarkedPolynomial) : MarkedPolynomial → Type 0 where
  member : (b : MarkedPolynomial) → Contains bs b → IsTail bs b
  step : (b c : MarkedPolynomial) → IsTail bs b → same b.head c.head ≡ true →
      (s : IsStep (Contains bs) b.poly c.poly) → same s.at b.head ≡ false → IsTail bs c

-- c is k with its tail reduced by bs: the same mark, reached by steps at unmarked terms, and no mark of bs divides an
-- unmarked monomial of it
pub record IsReducedTail (bs : List MarkedPolynomial) (k c : MarkedPolynomial) : Type 0 where
  pub tail : IsTail bs c
  pub head : same k.head c.head ≡ true
  pub irreducible : (x : Exponents) → HasMonomial c.poly x → IsDivisible (Contains bs) x → same x c.head ≡ true

-- index by index
abbrev pub AreReducedTails : List MarkedPolynomial → List MarkedPolynomial → List MarkedPolynomial → Type 0
AreReducedTails bs [] [] = Unit {0}
AreReducedTails bs [] (c ∷ cs) = ⊥
AreReducedTails bs (k ∷ ks) [] = ⊥
AreReducedTails bs (k ∷ ks) (c ∷ cs) = IsReducedTail bs k c × AreReducedTails bs ks cs

-- ---- the operations of a run

-- the operation `op left right` is one that a run on fs by the order may have: of the reduction of an
-- origin, of an S-polynomial of two members, of making what was reached monic, or of a step at an unmarked term of a tail
pub data IsRunOperation (fs : List Terms) (below : Exponents → Exponents → Type 0) (op : Op) (left right : Fraction) : Type 0 where
  step : (bs : List MarkedPolynomial) (f : Terms) → IsWorkList fs below bs → IsOrigin fs bs f →
      IsReductionOperation (Contains bs) f op left right → IsRunOperation fs below op left right
  s_polynomial : (bs : List MarkedPolynomial) (b c : MarkedPolynomial) → IsWorkList fs below bs → Contains bs b →
      Contains bs c → IsSPolynomialOperation b c op left right → IsRunOperation fs below op left right
  monic : (bs : List MarkedPolynomial) (f g : Terms) (at : Exponents) → IsWorkList fs below bs → IsOrigin fs bs f →
      Reached (Contains bs) f g → IsGreatest below g at → (IsDivisible (Contains bs) at → ⊥) →
      IsMonicOperation g at op left right → IsRunOperation fs below op left right
  tail : (bs : List MarkedPolynomial) (b : MarkedPolynomial) (at : Exponents) → IsWorkList fs below bs → IsTail bs b →
      same at b.head ≡ false → IsStepOperation (Contains bs) b.poly at op left right →
      IsRunOperation fs below op left right

-- the exponents `left` and `right` are added in such a run: in the reduction of an origin, in an S-polynomial of two
-- members, or in a step at an unmarked term of a tail
pub data IsRunExponents (fs : List Terms) (below : Exponents → Exponents → Type 0) (left right : ℕ) : Type 0 where
  step : (bs : List MarkedPolynomial) (f : Terms) → IsWorkList fs below bs → IsOrigin fs bs f →
      IsReductionExponents (Contains bs) f left right → IsRunExponents fs below left right
  s_polynomial : (bs : List MarkedPolynomial) (b c : MarkedPolynomial) → IsWorkList fs below bs → Contains bs b →
      Contains bs c → IsSPolynomialExponents b c left right → IsRunExponents fs below left right
  tail : (bs : List MarkedPolynomial) (b : MarkedPolynomial) (at : Exponents) → IsWorkList fs below bs → IsTail bs b →
      same at b.head ≡ false → IsStepExponents (Contains bs) b.poly at left right →
      IsRunExponents fs below left right
