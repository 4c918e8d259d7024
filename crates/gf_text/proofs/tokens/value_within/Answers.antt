use Rattle.std.proofs.Common.{◌<◌, ◌*◌, ◌+◌, ◌-◌, get_or, arith}
use Rattle.gf_text.proofs.TokensLaws.{value-passes}
use Rattle.gf_text.proofs.tokens.value_within.Goals as goal

pub returns-then-n-tenth : goal.returns-then-n-tenth
returns-then-n-tenth c =
    let ds = c.args.digits.now in
    let past : c.args.most < 10 * c.loop-d.n + (get_or ds c.loop-d.d-index 0 - 48) = omega arith in
    rw c.loop-d.invariant.same at (value-passes c.loop-d.n ds c.loop-d.d-index c.args.most (omega arith) past)

pub returns-then-n-most : goal.returns-then-n-most
returns-then-n-most c =
    let ds = c.args.digits.now in
    let past : c.args.most < 10 * c.loop-d.n + (get_or ds c.loop-d.d-index 0 - 48) = omega arith in
    rw c.loop-d.invariant.same at (value-passes c.loop-d.n ds c.loop-d.d-index c.args.most (omega arith) past)
