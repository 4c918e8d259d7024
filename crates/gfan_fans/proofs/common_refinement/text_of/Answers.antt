use Rattle.std.proofs.Common.{None, refl, sym, subst}
use Rattle.gfan_common.specs.Refused.{IsNamedBy}
use Rattle.gfan_fans.specs.CommonRefinement.{IsRefinementRefused}
use Rattle.gfan_fans.proofs.CommonRefinementLaws.{file_named, refine_named, writing_named, refinement_unwritten}
use Rattle.gfan_fans.proofs.common_refinement.text_of.Goals as goal

pub returns-in-Err-clause-err : goal.returns-in-Err-clause-err
returns-in-Err-clause-err g c = subst (IsRefinementRefused c.args.a.now c.args.b.now) (sym c.of_fan_file.ensures)
    (IsRefinementRefused.in_first c.in-Err.error c.in-Err.ensures.err refl)

pub returns-in-Err-clause-told : goal.returns-in-Err-clause-told
returns-in-Err-clause-told g c = subst (IsNamedBy None) (sym c.of_fan_file.ensures) (file_named c.in-Err.error)

pub returns-in-Err-read-clause-err : goal.returns-in-Err-read-clause-err
returns-in-Err-read-clause-err g c =
    subst (IsRefinementRefused c.args.a.now c.args.b.now) (sym c.of_fan_file-in-Err-read.ensures)
    (IsRefinementRefused.in_second c.in-Ok.fan c.in-Err-read.error c.in-Ok.ensures.fan c.in-Err-read.ensures.err refl)

pub returns-in-Err-read-clause-told : goal.returns-in-Err-read-clause-told
returns-in-Err-read-clause-told g c = subst (IsNamedBy None) (sym c.of_fan_file-in-Err-read.ensures) (file_named c.in-Err-read.error)

pub returns-in-Err-common-clause-err : goal.returns-in-Err-common-clause-err
returns-in-Err-common-clause-err g c =
    subst (IsRefinementRefused c.args.a.now c.args.b.now) (sym c.of_refine.ensures)
    (IsRefinementRefused.in_work c.in-Ok.fan c.in-Ok-read.fan c.in-Err-common.error c.in-Ok.ensures.fan c.in-Ok-read.ensures.fan c.in-Err-common.ensures.err
    refl)

pub returns-in-Err-common-clause-told : goal.returns-in-Err-common-clause-told
returns-in-Err-common-clause-told g c = subst (IsNamedBy None) (sym c.of_refine.ensures) (refine_named c.in-Err-common.error)

pub returns-clause-err : goal.returns-clause-err
returns-clause-err g c =
    subst (IsRefinementRefused c.args.a.now c.args.b.now) (sym c.of_writing.ensures)
    (refinement_unwritten c.args.a.now c.args.b.now c.in-Ok.fan c.in-Ok-read.fan c.in-Ok-common.fan c.in-Err-write.error c.in-Ok.ensures.fan
    c.in-Ok-read.ensures.fan c.in-Ok-common.ensures.ok c.in-Err-write.ensures.wide)

pub returns-clause-told : goal.returns-clause-told
returns-clause-told g c = subst (IsNamedBy None) (sym c.of_writing.ensures) (writing_named c.in-Err-write.error)
