use Rattle.std.proofs.Common.{subst, sym}
use Rattle.gf_poly.specs.Marking.{MarkedPolynomial, HaveVariables}
use Rattle.gf_text.specs.WrittenText.{IsKeptMarked}
use Rattle.gf_text.proofs.KeptLaws.{kept_next, variables_of}
use Rattle.gf_text.proofs.printer.marked_sets_are_kept.Goals as goal

pub items-preserved : goal.items-preserved
items-preserved c =
    let n = c.args.set.now.variables in
    let all = c.items-marked-items.result.now in
    let variables = subst (HaveVariables n) (sym c.items-marked-items.ensures.value) c.items-marked-items.ensures.variables in
    let here = variables_of n all c.items.marked-index c.marked-item.result variables c.items-test.true in
    let one = subst (λ (m : MarkedPolynomial). IsKeptMarked n m) c.marked-item.is (c.marked_is_kept.ensures n (rw c.marked-item.is here)) in
    kept_next n all c.items.marked-index c.marked-item.result c.items-test.true c.items.invariant one
