use Rattle.std.proofs.Common.{◌≢◌, ◌∙◌, [], All, None, sym, subst}
use Rattle.std.proofs.lemmas.Result.{err_from_is_err_and}
use Rattle.gf_poly.specs.Polynomial.{Terms, HasVariables}
use Rattle.gf_buchberger.specs.Tasks.{HaveOneDegree}
use Rattle.gf_frame.specs.Commands.{IsUnanswered}
use Rattle.gfan_fans.specs.BasisTest.{basis_test_command}
use Rattle.gfan_fans.proofs.BasisTestLaws.{ring_of_all, verdict_answered, test_unanswered, degree_unanswered}
use Rattle.gfan_fans.proofs.basis_test.text_of.Goals as goal

pub returns-in_err-check_degrees-clause-err : goal.returns-in_err-check_degrees-clause-err
returns-in_err-check_degrees-clause-err g c =
    let p = err_from_is_err_and c.from_residual-in_err-check_degrees.result c.from_residual-in_err-check_degrees.ensures.1 in
    rw (p.1, p.2) (degree_unanswered c.args.ring.now c.args.set.items c.deref.result.now c.in_err-check_degrees.field-0.0
    (c.deref.ensures.value ∙ c.in_ok-list.ensures.value) c.in_ok-list.ensures.formed c.in_err-check_degrees.ensures.err)

pub tropical_basis-requires-clause-variables : goal.tropical_basis-requires-clause-variables
tropical_basis-requires-clause-variables g c κs within =
    ring_of_all c.len-n.result c.deref-2.result.now (subst (All (HasVariables c.len-n.result)) (sym c.deref-2.ensures.value) c.in_ok-list.ensures.variables)

pub tropical_basis-requires-clause-degree : goal.tropical_basis-requires-clause-degree
tropical_basis-requires-clause-degree g c κs within = subst HaveOneDegree (c.deref.ensures.value ∙ sym c.deref-2.ensures.value) c.in_ok-check_degrees.ensures.ok

pub returns-in-Err-clause-err : goal.returns-in-Err-clause-err
returns-in-Err-clause-err g c =
    subst (IsUnanswered basis_test_command (c.args.ring.now, (c.args.set.items, None))) (sym c.of_basis_test.ensures)
    (test_unanswered c.len-n.result c.args.ring.now c.args.set.items c.deref-2.result.now c.in-Err.error c.len-n.ensures.value
    (c.deref-2.ensures.value ∙ c.in_ok-list.ensures.value) c.in_ok-list.ensures.formed
    (subst HaveOneDegree (c.deref.ensures.value ∙ sym c.deref-2.ensures.value) c.in_ok-check_degrees.ensures.ok)
    (subst (All (λ (f : Terms). f ≢ [])) (sym c.deref-2.ensures.value) c.in_ok-list.ensures.some) c.in-Err.ensures.err)

pub returns-clause-ok : goal.returns-clause-ok
returns-clause-ok g c =
    verdict_answered c.len-n.result c.args.ring.now c.args.set.items c.deref-2.result.now c.in-Ok.verdict c.in_ok-text.text.items c.len-n.ensures.value
    (c.deref-2.ensures.value ∙ c.in_ok-list.ensures.value) c.in_ok-list.ensures.formed
    (subst HaveOneDegree (c.deref.ensures.value ∙ sym c.deref-2.ensures.value) c.in_ok-check_degrees.ensures.ok) c.in-Ok.ensures.verdict c.in-Ok.ensures.first
    c.in_ok-text.ensures
