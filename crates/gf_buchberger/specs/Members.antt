-- The members of a run.
use Rattle.std.specs.Prelude.{List}
use Rattle.gf_poly.specs.Marking.{MarkedPolynomial}

-- marked polynomials in a row
pub record MemberList : Type 0 where
  pub items : List MarkedPolynomial
