use Rattle.std.proofs.Common.{ap, ◌∙◌, length}
use Rattle.gf_division.proofs.StepLaws.{head_length}
use Rattle.gf_lifts.proofs.tails.reduces.Goals as goal

pub divides-requires : goal.divides-requires
divides-requires c = ap length c.head.ensures.value ∙ head_length (length c.args.x.now) c.args.lift.now c.requires c.head.ensures.marked
