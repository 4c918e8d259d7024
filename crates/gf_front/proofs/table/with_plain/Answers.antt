use Rattle.gf_front.proofs.TableLaws.{one_plain}
use Rattle.gf_front.proofs.table.with_plain.Goals as goal

pub loop-name-preserved : goal.loop-name-preserved
loop-name-preserved c = (
  one_plain _ _ _ c.args.commands.now c.loop-name.name-index _ c.loop-name-test.true c.loop-name.invariant.0 c.in_ok-program.ensures.app,
  c.in_ok-program.ensures.local,
)
