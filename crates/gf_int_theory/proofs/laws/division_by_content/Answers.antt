use Rattle.gf_int_theory.proofs.ContentLaws.{times-quotients, IsPrimitive-quotients}
use Rattle.gf_int_theory.proofs.laws.division_by_content.Goals as goal

pub returns : goal.returns
returns c = λ xs b h. (times-quotients b xs h.divides, IsPrimitive-quotients xs b h)
