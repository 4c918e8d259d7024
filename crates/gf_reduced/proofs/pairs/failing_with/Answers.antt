use Rattle.gf_reduced.proofs.PairLaws.{vanish_next}
use Rattle.gf_reduced.proofs.pairs.failing_with.Goals as goal

pub later-preserved : goal.later-preserved
later-preserved c = vanish_next c.args.by.now c.args.i c.later.j c.in_ok-rest.rest c.in_ok-rest.ensures.value (c.is_zero.ensures.0 c.if-not-is_zero.false)
    c.later.invariant
