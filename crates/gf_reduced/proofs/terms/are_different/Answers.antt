use Rattle.std.proofs.Common.{Some, refl, sym}
use Rattle.gf_exponents_theory.specs.Exponents.{same}
use Rattle.gf_division.proofs.ReducerLaws.{beside_by_test, not_beside_by_test}
use Rattle.gf_reduced.proofs.TermLaws.{not_false}
use Rattle.gf_reduced.proofs.terms.are_different.Goals as goal

pub returns-clause-yes : goal.returns-clause-yes
returns-clause-yes c = beside_by_test (Some c.args.y.now) c.args.x.now c.args.y.now _ _ c.ne.result refl (sym c.requires)
    c.exponents.ensures.value c.exponents-2.ensures.value c.ne.ensures

pub returns-clause-no : goal.returns-clause-no
returns-clause-no c = λ f. not_false (same c.args.x.now c.args.y.now) (not_beside_by_test (Some c.args.y.now) c.args.x.now c.args.y.now _ _ c.ne.result refl
    c.exponents.ensures.value c.exponents-2.ensures.value c.ne.ensures f)
