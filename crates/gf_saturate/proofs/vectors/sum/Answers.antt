use Rattle.std.proofs.Common.{sym, ◌∙◌}
use Rattle.gf_saturate.proofs.ProposalLaws.{sum_inside, sum_long}
use Rattle.gf_saturate.proofs.vectors.sum.Goals as goal

pub divided-requires : goal.divided-requires
divided-requires c =
    sum_long c.args.n c.args.v.now.first c.args.x.now c.in-Ok.first c.requires.left.first c.requires.right.first c.in-Ok.ensures.product
    ∙ sym (sum_long c.args.n c.args.v.now.second c.args.y.now c.in-Ok-mul.second c.requires.left.second c.requires.right.second c.in-Ok-mul.ensures.product)

pub returns : goal.returns
returns c =
    sum_inside c.args.n c.args.set.now c.args.v.now.first c.args.v.now.second c.args.x.now c.args.y.now c.in-Ok.first c.in-Ok-mul.second c.divided.result
    c.requires.variables c.requires.left c.requires.right c.in-Ok.ensures.product c.in-Ok-mul.ensures.product
    (sum_long c.args.n c.args.v.now.first c.args.x.now c.in-Ok.first c.requires.left.first c.requires.right.first c.in-Ok.ensures.product)
    (sum_long c.args.n c.args.v.now.second c.args.y.now c.in-Ok-mul.second c.requires.left.second c.requires.right.second c.in-Ok-mul.ensures.product)
    c.divided.ensures
