use Rattle.std.proofs.Common.{sym, subst, ap, ◌∙◌, length}
use Rattle.gf_exponents_theory.specs.Exponents.{Exponents}
use Rattle.gf_poly.specs.Polynomial.{HasVariables}
use Rattle.gf_poly.specs.Marking.{Each}
use Rattle.gf_poly.proofs.ProductLaws.{HasVariables-at}
use Rattle.gf_division.proofs.StepLaws.{head_length}
use Rattle.gf_division.proofs.WeighedMarks.{IsWithin, each-all, realised_by_terms}
use Rattle.gf_tests.proofs.divisions.sets_above.Goals as goal

pub is_within-requires-clause-same_variables : goal.is_within-requires-clause-same_variables
is_within-requires-clause-same_variables c = HasVariables-at (length c.args.weight.now) c.terms-terms.result.now c.terms.i c.index-terms-i.result
    c.terms-test.true c.index-terms-i.is (subst (HasVariables (length c.args.weight.now))
    (sym (c.terms-terms.ensures.value ∙ c.poly.ensures)) c.requires.variables)

pub is_within-requires-clause-of_head : goal.is_within-requires-clause-of_head
is_within-requires-clause-of_head c = ap length c.head-head.ensures.value ∙ head_length (length c.args.weight.now) c.args.b.now c.requires.variables
    c.head-head.ensures.marked

pub returns : goal.returns
returns c = λ _. realised_by_terms (length c.args.weight.now) c.args.weight.now c.args.b.now c.requires.variables c.head-head.ensures.marked
    (subst (λ (x : Exponents). Each (IsWithin c.args.weight.now x) c.args.b.now.poly) c.head-head.ensures.value
    (subst (Each (IsWithin c.args.weight.now c.head-head.result.now)) (c.terms-terms.ensures.value ∙ c.poly.ensures)
    (each-all (IsWithin c.args.weight.now c.head-head.result.now) c.terms-terms.result.now c.terms.i c.terms-test.false c.terms.invariant)))
