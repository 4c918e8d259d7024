use Rattle.gf_division.proofs.NormalFormLaws.{some_weight, same_variables}
use Rattle.gf_division.proofs.normal_forms.normal_form.Goals as goal

pub reduced-requires-clause-marked : goal.reduced-requires-clause-marked
reduced-requires-clause-marked c = some_weight _ _ _ c.items.ensures.value c.requires.marked

pub reduced-requires-clause-variables : goal.reduced-requires-clause-variables
reduced-requires-clause-variables c = same_variables _ _ _ _ _ c.in_ok-copy.ensures c.items.ensures.value c.requires.variables c.items.ensures.variables
