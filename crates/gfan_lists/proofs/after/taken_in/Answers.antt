use Rattle.gf_reduced.specs.declared.error.CheckError.TheVariants as check_errors
use Rattle.gf_reduced.specs.Refusals.{IsReducedRefusalBeside}
use Rattle.gfan_lists.proofs.after.taken_in.Goals as goal

pub returns-then-items-clause-err : goal.returns-then-items-clause-err
returns-then-items-clause-err c = (check_errors.Memory, IsReducedRefusalBeside.at_weight tt, c.of_check.ensures)
