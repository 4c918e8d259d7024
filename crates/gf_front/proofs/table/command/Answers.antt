use Rattle.gf_front.proofs.TableLaws.{one_listed, still_local}
use Rattle.gf_front.proofs.table.command.Goals as goal

pub loop-id-preserved : goal.loop-id-preserved
loop-id-preserved c = (
  one_listed c.loop-id.command c.in_ok-command.command c.option.result c.args.name.now c.args.options.now c.loop-id.id-index _ c.loop-id-test.true
      c.in_ok-command.ensures c.option.ensures.local c.option.ensures.rule c.loop-id.invariant.0,
  still_local c.loop-id.command c.in_ok-command.command c.option.result c.in_ok-command.ensures c.option.ensures.local c.loop-id.invariant.1,
)
