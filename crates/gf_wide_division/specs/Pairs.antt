-- What is left of the S-polynomial of two members.
use Rattle.std.specs.Prelude.{ℕ, List}
use Rattle.gf_poly.specs.Polynomial.{Terms, KeepsVariables}
use Rattle.gf_poly.specs.Marking.{MarkedPolynomial, HaveVariables}
use Rattle.gf_ideal_theory.specs.NormalForms.{IsNormalForm}
use Rattle.gf_ideal_theory.specs.Reduction.{IsSPolynomial}
use Rattle.gf_division.specs.Remainders.{IsRemainder}
use Rattle.gf_division.specs.SPolynomials.{ArePairOf, KeepsPairVariables}

-- r is the normal form of the S-polynomial of b and c by the members
pub record IsPairRemainder (bs : List MarkedPolynomial) (b c : MarkedPolynomial) (r : Terms) : Type 0 where
  pub s : Terms
  pub is_s : IsSPolynomial b c s
  pub variables : KeepsPairVariables b c s
  pub remainder : IsRemainder bs s r
  pub normal_form : IsNormalForm bs s r
  pub kept : KeepsVariables s r

-- b, c and the members have the same variables
pub record SharePairMembers (bs : List MarkedPolynomial) (b c : MarkedPolynomial) : Type 0 where
  pub n : ℕ
  pub pair : ArePairOf n b c
  pub members : HaveVariables n bs
