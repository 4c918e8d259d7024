use Rattle.gf_groebner_walk.proofs.StepLaws.{not_crossed}
use Rattle.gf_groebner_walk.proofs.steps.leads.Goals as goal

pub returns-in-Ok-None : goal.returns-in-Ok-None
returns-in-Ok-None c = not_crossed c.args.weight.now c.args.cone.now c.args.index c.in-Ok-None.field-0 c.in-Ok-None.ensures.told c.in-Ok-None.field-0-is
