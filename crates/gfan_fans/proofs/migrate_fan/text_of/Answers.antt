use Rattle.std.proofs.Common.{◌∷◌, [], None, sym, subst}
use Rattle.gf_frame.specs.Commands.{IsRefusedOn}
use Rattle.gfan_common.specs.Refused.{IsNamedBy}
use Rattle.gfan_fans.specs.MigrateFan.{migrate_fan_command}
use Rattle.gfan_fans.proofs.CommonRefinementLaws.{file_named}
use Rattle.gfan_fans.proofs.MigrateFanLaws.{migration_answered, migration_refused}
use Rattle.gfan_fans.proofs.migrate_fan.text_of.Goals as goal

pub returns-in-Ok-clause-ok : goal.returns-in-Ok-clause-ok
returns-in-Ok-clause-ok c = migration_answered c.args.source.now c.in-Ok.text.items c.in-Ok.ensures.ok

pub returns-in-Err-clause-err : goal.returns-in-Err-clause-err
returns-in-Err-clause-err c = subst (IsRefusedOn migrate_fan_command (c.args.source.now ∷ [])) (sym c.of_fan_file.ensures)
    (migration_refused c.args.source.now c.in-Err.error c.in-Err.ensures.err)

pub returns-in-Err-clause-told : goal.returns-in-Err-clause-told
returns-in-Err-clause-told c = subst (IsNamedBy None) (sym c.of_fan_file.ensures) (file_named c.in-Err.error)
