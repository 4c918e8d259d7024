use Rattle.std.proofs.Common.{subst, List}
use Rattle.gf_poly.specs.Marking.{MarkedPolynomial}
use Rattle.gf_whole_division.specs.Reductions.{IsPairRemainderMultiple}
use Rattle.gf_buchberger.proofs.ReducedPairLaws.{are_read}
use Rattle.gf_buchberger.proofs.WholeLaws.{pair_comparable, pair_left}
use Rattle.gf_buchberger.proofs.runs.left_by_multiples.Goals as goal

pub left_of-requires : goal.left_of-requires
left_of-requires c =
    pair_comparable c.args.order.now c.requires.reducers.n c.args.by.now.members.items c.args.i c.args.j c.index.result.now c.index-2.result.now c.in-Ok.r
    c.requires.reducers.each (are_read _ _ _ _ _ c.requires.first c.requires.second c.index.ensures c.index-2.ensures) c.requires.reducers.entries
    c.in-Ok.ensures.variables

pub returns-in-Ok-left_of : goal.returns-in-Ok-left_of
returns-in-Ok-left_of c =
    pair_left c.args.order.now c.args.by.now.members.items c.args.i c.args.j c.index.result.now c.index-2.result.now c.in-Ok.r c.in-Ok-left_of.left
    (are_read _ _ _ _ _ c.requires.first c.requires.second c.index.ensures c.index-2.ensures) c.requires.reducers.weight
    (subst (λ (ms : List MarkedPolynomial). IsPairRemainderMultiple ms c.index.result.now c.index-2.result.now c.in-Ok.r) c.deref.ensures.value
    c.in-Ok.ensures.value) c.in-Ok.ensures.variables c.in-Ok-left_of.ensures.ok
