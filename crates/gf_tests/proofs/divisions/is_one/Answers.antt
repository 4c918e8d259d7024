use Rattle.std.specs.Prelude.{◌≡◌, Bool, true}
use Rattle.std.proofs.Common.{sym, ◌∙◌}
use Rattle.gf_frac.specs.Fraction.{Fraction, one_ℚ}
use Rattle.gf_frac.specs.Equality.{fraction_eq}
use Rattle.gf_frac.proofs.FractionLaws.{Decides-fraction_eq}
use Rattle.gf_poly.specs.Polynomial.{coefficient}
use Rattle.gf_poly.specs.Marking.{MarkedPolynomial, HasMark, HasMarkedTerm}
use Rattle.gf_poly.proofs.CoefficientLaws.{term_coefficient}
use Rattle.gf_division.specs.MonicForms.{HasSomeVariables}
use Rattle.gf_tests.proofs.divisions.is_one.Goals as goal

one_by_test : (b : MarkedPolynomial) (k l : Fraction) (r : Bool) → HasSomeVariables b → HasMarkedTerm b → HasMark b k → l ≡ one_ℚ → r ≡ fraction_eq k l →
    r ≡ true → coefficient b.poly b.head ≡ one_ℚ
one_by_test b k l r v m h o e t = term_coefficient v.n b.poly (record { coef = k; mono = b.head }) v.each m.descending h ∙ (Decides-fraction_eq k l).0
    (sym e ∙ t) ∙ o

pub returns : goal.returns
returns c = λ t. one_by_test c.args.b.now c.coefficient.result c.one.result c.eq.result c.requires c.head.ensures.marked c.coefficient.ensures.term
    c.one.ensures c.eq.ensures t
