use Rattle.std.proofs.Common.{pos, length, ap, ◌∙◌}
use Rattle.std.proofs.lemmas.List.{length-set, length-replicate}
use Rattle.gf_vec.specs.Vector.{zeros}
use Rattle.gf_saturate.proofs.grades.unit.Goals as goal

pub returns : goal.returns
returns c =
    ap length c.from_vec.ensures ∙ ap length c.in_ok-entries.ensures.value ∙ length-set (zeros c.args.n) c.args.at (pos 1) ∙ length-replicate c.args.n (pos 0)
