use Rattle.std.proofs.Common.{ℕ, length, sym, subst, ap, ◌∙◌}
use Rattle.gf_order.specs.Comparisons.{HasEntries}
use Rattle.gf_poly.proofs.MonomialLaws.{length-join}
use Rattle.gf_saturate.proofs.ProposalLaws.{proposal_at}
use Rattle.gf_saturate.proofs.proposals.push_pairs.Goals as goal

pub is_covered-requires-clause-multiple : goal.is_covered-requires-clause-multiple
is_covered-requires-clause-multiple c =
    let v = proposal_at c.args.n c.args.set.now c.args.members.now c.members.i c.index-members-i.result c.requires.members c.members-test.true
    c.index-members-i.is in
    ap length c.lcm-multiple.ensures ∙ length-join c.index-members-i.result.first c.args.head.now (v.first ∙ sym c.requires.head) ∙ v.first

pub level-requires-clause-weight : goal.level-requires-clause-weight
level-requires-clause-weight c =
    let v = proposal_at c.args.n c.args.set.now c.args.members.now c.members.i c.index-members-i.result c.requires.members c.members-test.true
    c.index-members-i.is in
    subst (λ (m : ℕ). HasEntries m c.args.order.now)
    (sym (ap length c.exponents.ensures.value ∙ ap length c.lcm-multiple.ensures
    ∙ length-join c.index-members-i.result.first c.args.head.now (v.first ∙ sym c.requires.head) ∙ v.first)) c.requires.entries
