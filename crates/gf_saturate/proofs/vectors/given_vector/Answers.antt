use Rattle.std.proofs.Common.{sym, ◌∙◌}
use Rattle.gf_saturate.proofs.ProposalLaws.{given_inside, divided_inside}
use Rattle.gf_saturate.proofs.vectors.given_vector.Goals as goal

pub divided-requires : goal.divided-requires
divided-requires c =
    let p = given_inside c.args.n c.args.set.now c.args.f.now c.in-Some.v c.requires.variables c.requires.inside c.in-Some.ensures in
    p.first ∙ sym p.second

pub returns : goal.returns
returns c =
    divided_inside c.args.n c.args.set.now c.in-Some.v.first c.in-Some.v.second c.divided.result c.requires.variables
    (given_inside c.args.n c.args.set.now c.args.f.now c.in-Some.v c.requires.variables c.requires.inside c.in-Some.ensures) c.divided.ensures
