use Rattle.gf_strands.specs.Along.{AreSmall}
use Rattle.std.proofs.Common.{sym, subst}
use Rattle.std.proofs.lemmas.Result.{err_from_is_err_and}
use Rattle.gf_flip.proofs.SmallNormals.{small_bounded}
use Rattle.gf_flip.proofs.FlipSteps.{facet_at, facet_entries, job_at, parts_at, parts_variables, parts_refused_at}
use Rattle.gf_flip.proofs.flips.basis_of_parts.Goals as goal

pub facet-order-requires : goal.facet-order-requires
facet-order-requires c = small_bounded c.in-Ok.along (subst AreSmall (sym c.in-Ok.ensures) c.requires.bounded)

pub basis_by_queue-requires : goal.basis_by_queue-requires
basis_by_queue-requires c = job_at c.args.set.now.variables c.variables.result c.args.set.now.items c.args.normal.now c.args.list.now c.facet-order.result
    c.requires.crossing c.requires.along c.variables.ensures
    (facet_at c.args.normal.now c.in-Ok.along c.facet-order.result c.in-Ok.ensures c.facet-order.ensures.order)
    (facet_entries c.args.normal.now c.in-Ok.along c.facet-order.result c.in-Ok.ensures c.facet-order.ensures.entries)

pub returns-clause-value : goal.returns-clause-value
returns-clause-value c = parts_at c.args.set.now.variables c.variables.result c.args.set.now.items c.args.normal.now c.args.list.now c.facet-order.result
    c.in_ok-below.below c.requires.along c.variables.ensures
    (facet_at c.args.normal.now c.in-Ok.along c.facet-order.result c.in-Ok.ensures c.facet-order.ensures.order) c.in_ok-below.ensures.value

pub returns-clause-variables : goal.returns-clause-variables
returns-clause-variables c = parts_variables c.args.set.now.variables c.variables.result c.args.list.now c.facet-order.result c.in_ok-below.below
    c.variables.ensures c.in_ok-below.ensures.value c.items.ensures.variables

pub returns-in_err-below-clause-cause : goal.returns-in_err-below-clause-cause
returns-in_err-below-clause-cause c =
    let p = err_from_is_err_and c.from_residual.result c.from_residual.ensures.1 in
    rw (p.1, p.2) (parts_refused_at c.args.set.now.variables c.variables.result c.args.set.now.items c.args.normal.now c.args.list.now c.facet-order.result
    c.args.pairs _ c.requires.along c.variables.ensures (facet_at c.args.normal.now c.in-Ok.along c.facet-order.result c.in-Ok.ensures
    c.facet-order.ensures.order) c.in_err-below.ensures.cause)
