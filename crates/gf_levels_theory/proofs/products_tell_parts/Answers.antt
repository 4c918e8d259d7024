use Rattle.gf_levels_theory.proofs.LawsHold.{products_tell_parts}
use Rattle.gf_levels_theory.proofs.products_tell_parts.Goals as goal

pub returns : goal.returns
returns c = products_tell_parts
