use Rattle.std.proofs.Common.{ap, length, ◌∙◌}
use Rattle.gf_saturate.proofs.ChoiceLaws.{enough_same, enough_twice}
use Rattle.gf_saturate.proofs.choice.closed.Goals as goal

pub rounds-init : goal.rounds-init
rounds-init c = (ap length c.copy-all.ensures ∙ c.requires.long, enough_same c.args.n c.args.set.now c.args.inside.now _ c.copy-all.ensures)

pub rounds-preserved : goal.rounds-preserved
rounds-preserved c = (
  c.followed_once-next.ensures.long,
  enough_twice c.args.n c.args.set.now c.args.inside.now c.rounds.all c.followed_once-next.result c.followed_once-next.ensures.enough c.rounds.invariant.1,
)
