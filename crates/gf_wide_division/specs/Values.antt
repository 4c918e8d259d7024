-- Terms with wide coefficients, as the polynomials that they stand for.
use Rattle.std.specs.Prelude.{List, map}
use Rattle.gf_poly.specs.declared.Term.{Term}
use Rattle.gf_poly.specs.Polynomial.{Terms}
use Rattle.gf_wide_division.specs.declared.terms.WideTerm.{WideTerm}

-- the term that it stands for
abbrev pub term_value : WideTerm → Term
term_value t = record { coef = t.coef; mono = t.mono }

-- the polynomial
abbrev pub value_terms : List WideTerm → Terms
value_terms f = map term_value f
