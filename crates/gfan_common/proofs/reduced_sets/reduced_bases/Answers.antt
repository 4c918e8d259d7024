use Rattle.std.proofs.Common.{inl}
use Rattle.std.proofs.lemmas.Result.{err_from_is_err_and}
use Rattle.gfan_common.specs.ReducedSets.{IsReducedAsRead}
use Rattle.gfan_common.proofs.ZipLaws.{zip_more}
use Rattle.gfan_common.proofs.ReducedListLaws.{first_refused}
use Rattle.gfan_common.proofs.reduced_sets.reduced_bases.Goals as goal

pub returns-in_err-basis-clause-err : goal.returns-in_err-basis-clause-err
returns-in_err-basis-clause-err c =
    let p = err_from_is_err_and c.from_residual.result c.from_residual.ensures.1 in
    rw (p.1, p.2) (inl (first_refused c.sets.i c.args.sets.now c.sets.bases.items c.index-sets-i.result c.in_err-basis.field-0.0 c.sets-test.true
    c.index-sets-i.is c.sets.invariant c.in_err-basis.ensures.err))

pub sets-preserved : goal.sets-preserved
sets-preserved c = zip_more IsReducedAsRead c.args.sets.now c.sets.bases.items c.push.new.self.items c.sets.i c.index-sets-i.result c.in_ok-basis.basis
    c.sets-test.true c.index-sets-i.is c.in_ok-basis.ensures.ok c.in_ok-push.ensures.items c.sets.invariant
