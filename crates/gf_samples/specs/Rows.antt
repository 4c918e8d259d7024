-- Sets made of rows.
use Rattle.std.specs.Prelude.{◌≡◌, ℕ}
use Rattle.gf_poly.specs.Marking.{MarkedPolynomials, HaveVariables}

-- a set in n variables, as its members are
pub record IsSetIn (n : ℕ) (s : MarkedPolynomials) : Type 0 where
  pub variables : s.variables ≡ n
  pub members : HaveVariables n s.items
