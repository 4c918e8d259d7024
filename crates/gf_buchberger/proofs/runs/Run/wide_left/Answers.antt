use Rattle.std.proofs.Common.{sym, subst}
use Rattle.gf_division.specs.NormalForms.{HasSomeWeight}
use Rattle.gf_buchberger.specs.Runs.{state_of}
use Rattle.gf_buchberger.proofs.ReducedPairLaws.{are_read, pair_members, wide_comparable, if_wide_left}
use Rattle.gf_buchberger.proofs.runs.Run.wide_left.Goals as goal

pub wide_remainder_of_pair-requires-clause-marked : goal.wide_remainder_of_pair-requires-clause-marked
wide_remainder_of_pair-requires-clause-marked c = subst HasSomeWeight (sym c.marked.ensures) c.requires.reducers.weight

pub wide_remainder_of_pair-requires-clause-variables : goal.wide_remainder_of_pair-requires-clause-variables
wide_remainder_of_pair-requires-clause-variables c = pair_members c.requires.reducers.n c.args.self.now.members.items c.marked.result.now c.args.i c.args.j
    c.at.result.now c.at-2.result.now c.marked.ensures c.requires.reducers.each
    (are_read _ _ _ _ _ c.requires.first c.requires.second c.at.ensures c.at-2.ensures)

pub left_of_wide-requires : goal.left_of_wide-requires
left_of_wide-requires c = wide_comparable c.args.order.now c.requires.reducers.n c.args.self.now.members.items c.marked.result.now c.args.i c.args.j
    c.at.result.now c.at-2.result.now c.in_ok-r.r c.requires.reducers.each
    (are_read _ _ _ _ _ c.requires.first c.requires.second c.at.ensures c.at-2.ensures) c.requires.reducers.entries c.in_ok-r.ensures

pub returns : goal.returns
returns c = if_wide_left c.args.order.now (state_of c.args.self.now) c.marked.result.now c.args.i c.args.j c.at.result.now c.at-2.result.now c.in_ok-r.r
    c.left_of_wide.result c.marked.ensures (are_read _ _ _ _ _ c.requires.first c.requires.second c.at.ensures c.at-2.ensures)
    c.in_ok-r.ensures c.left_of_wide.ensures
