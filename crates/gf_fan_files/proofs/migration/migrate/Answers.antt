use Rattle.std.proofs.lemmas.Result.{err_from_is_err_and}
use Rattle.gf_fan_files.specs.Migration.{unread}
use Rattle.gf_fan_files.proofs.MigrationLaws.{fan_positive, not_migrated}
use Rattle.gf_fan_files.proofs.migration.migrate.Goals as goal

pub returns-in_err-fan-clause-err : goal.returns-in_err-fan-clause-err
returns-in_err-fan-clause-err c =
    let p = err_from_is_err_and c.from_residual.result c.from_residual.ensures.1 in
    rw (p.1, p.2) (unread c.in_err-fan.ensures.err)

pub returns-in_err-text-clause-err : goal.returns-in_err-text-clause-err
returns-in_err-text-clause-err c =
    let p = err_from_is_err_and c.from_residual-in_err-text.result c.from_residual-in_err-text.ensures.1 in
    rw p.1 (not_migrated c.args.source.now c.in_ok-fan.fan c.in_err-text.field-0.0 p.0 c.in_ok-fan.ensures.fan c.in_err-text.ensures.wide p.2)

pub fan_is_read_again-requires-clause-positive : goal.fan_is_read_again-requires-clause-positive
fan_is_read_again-requires-clause-positive c = fan_positive c.args.source.now c.in_ok-fan.fan c.in_ok-fan.ensures.fan

pub returns-clause-ok : goal.returns-clause-ok
returns-clause-ok c =
    c.migrated_files_are_whole.ensures c.args.source.now c.in_ok-text.text.items
    (record { fan = c.in_ok-fan.fan; of_source = c.in_ok-fan.ensures.fan; writable = c.fan_is_read_again.ensures.writable; is_text = c.in_ok-text.ensures.ok })
