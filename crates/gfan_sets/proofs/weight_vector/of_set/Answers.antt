use Rattle.std.proofs.Common.{[], List, refl, subst}
use Rattle.std.proofs.lemmas.Result.{err_from_is_err_and}
use Rattle.gf_poly.specs.Marking.{MarkedPolynomials}
use Rattle.gf_items.specs.Kinds.{a_marked_set}
use Rattle.gf_frame.specs.Commands.{IsRefusedOn}
use Rattle.gfan_sets.specs.WeightVector.{IsUnweighed}
use Rattle.gfan_common.proofs.CheckedSetLaws.{of_this_ring}
use Rattle.gfan_sets.proofs.WeightVectorLaws.{one_unweighed, named_one}
use Rattle.gfan_sets.proofs.weight_vector.of_set.Goals as goal

pub returns-in_err-read-clause-err : goal.returns-in_err-read-clause-err
returns-in_err-read-clause-err c =
    let p = err_from_is_err_and c.from_residual.result c.from_residual.ensures.1 in
    rw (p.1, p.2) (IsRefusedOn.in_text c.in_err-read.field-0.0 c.in_err-read.ensures.err refl)

pub returns-in-Err-clause-err : goal.returns-in-Err-clause-err
returns-in-Err-clause-err c =
    let sets = subst (λ (ss : List MarkedPolynomials). IsUnweighed ss c.in-Err.refusal) c.from_ref.ensures.value c.in-Err.ensures.err in
    one_unweighed c.args.echoed c.args.source.now c.in_ok-read.read.ring c.in_ok-read.read.set c.in-Err.refusal c.in_ok-read.ensures.ok sets

pub returns-in-Err-clause-told : goal.returns-in-Err-clause-told
returns-in-Err-clause-told c =
    let sets = subst (λ (ss : List MarkedPolynomials). IsUnweighed ss c.in-Err.refusal) c.from_ref.ensures.value c.in-Err.ensures.err in
    of_this_ring a_marked_set [] c.args.source.now c.in_ok-read.read.ring c.in_ok-read.read.set _ c.in-Err.refusal c.in_ok-read.ensures.ok refl refl
    (named_one c.args.source.now c.in_ok-read.read.ring c.in_ok-read.read.set c.in-Err.refusal c.in_ok-read.ensures.ok sets)
