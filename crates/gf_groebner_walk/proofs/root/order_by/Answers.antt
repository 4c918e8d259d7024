use Rattle.std.proofs.Common.{pos, arith}
use Rattle.std.proofs.lemmas.Int.{ints}
use Rattle.gf_groebner_walk.proofs.root.order_by.Goals as goal

-- no entry is negative
pub unreachable-requires : goal.unreachable-requires
unreachable-requires c =
    let b = c.in-Err.ensures.refused in
    let below = b.below in
    let above = c.requires.positive _ (pos 0) b.inside in
    omega (arith, ints, below, above)
