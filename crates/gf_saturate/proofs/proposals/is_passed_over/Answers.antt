use Rattle.std.proofs.Common.{length, sym, ap, ◌∙◌}
use Rattle.gf_poly.proofs.MonomialLaws.{length-join}
use Rattle.gf_saturate.proofs.ProposalLaws.{proposal_at}
use Rattle.gf_saturate.proofs.proposals.is_passed_over.Goals as goal

pub divides-requires : goal.divides-requires
divides-requires c =
    let x = proposal_at c.args.n c.args.set.now c.args.members.now c.args.i c.index-members-i.result c.requires.members c.requires.first c.index-members-i.is in
    let y = proposal_at c.args.n c.args.set.now c.args.members.now c.args.j c.index-members-j.result c.requires.members c.requires.second
    c.index-members-j.is in
    let z = proposal_at c.args.n c.args.set.now c.args.members.now c.members.k c.index-members-k.result c.requires.members c.members-test.true
    c.index-members-k.is in
    z.first
    ∙ sym (ap length c.lcm-multiple.ensures ∙ length-join c.index-members-i.result.first c.index-members-j.result.first (x.first ∙ sym y.first) ∙ x.first)
