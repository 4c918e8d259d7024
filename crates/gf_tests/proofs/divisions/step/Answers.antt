use Rattle.std.proofs.Common.{ap, ◌∙◌, length}
use Rattle.gf_division.proofs.StepLaws.{head_length}
use Rattle.gf_tests.proofs.divisions.step.Goals as goal

pub divides-requires : goal.divides-requires
divides-requires c = ap length c.head.ensures.value ∙ head_length (length c.args.at.now) c.args.by.now c.requires.member c.head.ensures.marked
