use Rattle.std.proofs.Common.{subst}
use Rattle.std.proofs.lemmas.List.{take_all}
use Rattle.gf_poly.specs.Polynomial.{HasVariables}
use Rattle.gf_whole_division.proofs.ReductionLaws.{more_variables}
use Rattle.gf_whole_division.proofs.remainders.have_variables.Goals as goal

pub terms-preserved : goal.terms-preserved
terms-preserved c =
    more_variables c.args.n c.args.terms.now c.terms.i c.index-terms-i.result c.exponents.result.now c.terms-test.true c.index-terms-i.is
    c.exponents.ensures.value c.if-exponents-n.false
    c.terms.invariant

pub returns : goal.returns
returns c = λ _. subst (HasVariables c.args.n) (take_all c.terms.i c.args.terms.now c.terms-test.false) c.terms.invariant
