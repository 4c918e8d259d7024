use Rattle.std.proofs.Common.{List, sym, subst}
use Rattle.std.specs.List.{AllZip}
use Rattle.gf_poly.specs.Marking.{MarkedPolynomials}
use Rattle.gfan_common.specs.ReducedSets.{IsReducedAsRead}
use Rattle.gfan_sets.proofs.WeightVectorLaws.{weights_joined, set_unweighed, weight_unweighed}
use Rattle.gfan_sets.proofs.weight_vector.weighed.Goals as goal

pub returns-in-Err-clause-err : goal.returns-in-Err-clause-err
returns-in-Err-clause-err c = set_unweighed c.args.sets.now c.in-Err.error c.of_check.result c.in-Err.ensures.err c.of_check.ensures

pub returns-in-Ok-weights_of-clause-ok : goal.returns-in-Ok-weights_of-clause-ok
returns-in-Ok-weights_of-clause-ok c =
    let bases = subst (λ (ts : List MarkedPolynomials). AllZip IsReducedAsRead c.args.sets.now ts) (sym c.deref.ensures.value) c.in-Ok.ensures.ok in
    weights_joined c.args.sets.now c.deref.result.now c.in-Ok-weights_of.weights.items bases c.in-Ok-weights_of.ensures.ok

pub returns-clause-err : goal.returns-clause-err
returns-clause-err c =
    let bases = subst (λ (ts : List MarkedPolynomials). AllZip IsReducedAsRead c.args.sets.now ts) (sym c.deref.ensures.value) c.in-Ok.ensures.ok in
    weight_unweighed c.args.sets.now c.deref.result.now c.in-Err-weights_of.error c.of_weight_error.result bases c.in-Err-weights_of.ensures.err
    c.of_weight_error.ensures
