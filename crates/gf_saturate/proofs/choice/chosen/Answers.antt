use Rattle.gf_saturate.proofs.ChoiceLaws.{all_chosen}
use Rattle.gf_saturate.proofs.choice.chosen.Goals as goal

pub variables-init : goal.variables-init
variables-init c =
    all_chosen c.args.n c.args.set.now c.product-choice.result c.product-choice.ensures.long c.product-choice.ensures.all
