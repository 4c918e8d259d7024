-- What a normal form asks for: members that some weight marks, in the variables of the polynomial.
-- The normal form itself, by a rule that leaves no choice, is a definition of the theory of ideals.
use Rattle.std.specs.Prelude.{ℕ, List}
use Rattle.gf_exponents_theory.specs.Orders.{lighter}
use Rattle.gf_poly.specs.Polynomial.{Terms, HasVariables}
use Rattle.gf_poly.specs.Marking.{MarkedPolynomial, HaveVariables}
use Rattle.gf_ideal_theory.specs.Marks.{AreMarked}

-- the members are monic, and some weight sets each mark above the rest
abbrev pub HasSomeWeight : List MarkedPolynomial → Type 0
HasSomeWeight bs = (w : List ℕ) × AreMarked (lighter w) bs

-- the polynomial and the members have the same variables
pub record HaveSameVariables (f : Terms) (bs : List MarkedPolynomial) : Type 0 where
  pub n : ℕ
  pub poly : HasVariables n f
  pub members : HaveVariables n bs
