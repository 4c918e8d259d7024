use Rattle.std.proofs.Common.{◌≡◌, ap, arith, length}
use Rattle.gf_fan.specs.MaximalCones.{maximal_of}
use Rattle.gf_rays.specs.Cones.{rows_of}
use Rattle.gf_refine.proofs.MeetLaws.{maximal_long}
use Rattle.gf_refine.proofs.PairLaws.{holders_none, holders_more, holders_all}
use Rattle.gf_refine.proofs.pairs.holders.Goals as goal

pub loop-i-init : goal.loop-i-init
loop-i-init c = rw c.in_ok-out.ensures.items (holders_none c.args.other.now.ambient (maximal_of c.args.fan.now) (maximal_of c.args.other.now) c.args.held.now)

pub loop-i-preserved : goal.loop-i-preserved
loop-i-preserved c = holders_more c.args.other.now.ambient (maximal_of c.args.fan.now) (maximal_of c.args.other.now) c.args.held.now c.loop-i.i
    (rows_of c.maximal_cone.result.now) c.holder.result c.loop-i.out.items _ c.maximal_cone.ensures.rows
    c.in_ok-push.ensures.items c.holder.ensures c.loop-i.invariant

pub returns : goal.returns
returns c =
    let e : c.loop-i.i ≡ length (maximal_of c.args.fan.now) =
    omega (arith, c.loop-i-test.false, c.loop-i.auto.i-end, ap length c.maximal-i-end.ensures, maximal_long c.args.fan.now) in
    holders_all c.args.other.now.ambient c.loop-i.i (maximal_of c.args.fan.now) (maximal_of c.args.other.now) c.args.held.now c.loop-i.out.items e
    c.loop-i.invariant
