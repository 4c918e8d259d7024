use Rattle.std.proofs.Common.{refl, ap, ◌∙◌}
use Rattle.gf_reduced.specs.declared.error.CheckError.TheVariants as check_errors
use Rattle.gfan_common.specs.CheckedSets.{of_check}
use Rattle.gfan_lists.specs.GivenBasis.{IsReducingRefusal}
use Rattle.gfan_lists.proofs.GivenBasisLaws.{reducible, reduced_from, reduced_own}
use Rattle.gfan_lists.proofs.given_basis.reduced_of.Goals as goal

pub returns-then-items-clause-err : goal.returns-then-items-clause-err
returns-then-items-clause-err c = IsReducingRefusal.at_check check_errors.Memory tt refl

pub returns-in-Err-clause-err : goal.returns-in-Err-clause-err
returns-in-Err-clause-err c = IsReducingRefusal.at_check c.in-Err.error c.in-Err.ensures.err c.of_check.ensures

pub autoreduce-requires : goal.autoreduce-requires
autoreduce-requires c = reducible c.args.marked.now c.in-Ok.basis c.items.ensures.variables c.in-Ok.ensures.value c.in-Ok.ensures.basis

pub returns-in-Ok-autoreduce-clause-reduced : goal.returns-in-Ok-autoreduce-clause-reduced
returns-in-Ok-autoreduce-clause-reduced c =
    reduced_from c.args.marked.now c.in-Ok.basis c.items.ensures.variables c.in-Ok.ensures.value c.in-Ok.ensures.basis c.in-Ok-autoreduce.reduced
    c.in-Ok-autoreduce.ensures.value c.in-Ok-autoreduce.ensures.arranged c.in-Ok-autoreduce.ensures.reduced

pub returns-in-Ok-autoreduce-clause-own : goal.returns-in-Ok-autoreduce-clause-own
returns-in-Ok-autoreduce-clause-own c =
    reduced_own c.args.marked.now c.in-Ok.basis c.items.ensures.variables c.in-Ok.ensures.value c.in-Ok.ensures.basis c.in-Ok-autoreduce.reduced
    c.in-Ok-autoreduce.ensures.value c.in-Ok-autoreduce.ensures.arranged c.in-Ok-autoreduce.ensures.reduced

pub returns-clause-err : goal.returns-clause-err
returns-clause-err c =
    IsReducingRefusal.at_tails c.in-Ok.basis c.in-Err-autoreduce.error c.in-Ok.ensures.basis.marked c.in-Ok.ensures.value c.in-Err-autoreduce.ensures.cause
    (c.of_check-in-Err-autoreduce.ensures ∙ ap of_check c.from.ensures)
