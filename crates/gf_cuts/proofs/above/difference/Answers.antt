use Rattle.std.proofs.Common.{◌∙◌, ap, sym, length, negsuc}
use Rattle.gf_vec.specs.Vector.{vector_sum}
use Rattle.gf_vec.proofs.VectorLaws.{length-times}
use Rattle.gf_cuts.proofs.AboveLaws.{sum_turned}
use Rattle.gf_cuts.proofs.above.difference.Goals as goal

pub add-requires : goal.add-requires
add-requires c = c.requires ∙ sym (ap length c.in_ok-turned.ensures ∙ length-times (negsuc 0) c.args.y.now)

pub returns : goal.returns
returns c = c.in_ok-add.ensures.ok.0 ∙ ap (vector_sum c.args.x.now) c.in_ok-turned.ensures ∙ sum_turned c.args.x.now c.args.y.now
