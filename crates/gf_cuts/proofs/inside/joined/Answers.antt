use Rattle.gf_cuts.proofs.OuterLaws.{taken, joined_more}
use Rattle.gf_cuts.proofs.inside.joined.Goals as goal

pub loop-cone-preserved : goal.loop-cone-preserved
loop-cone-preserved c =
    let v = c.loop-cone.yielded in
    let x = c.in-Some.cone in (
      joined_more c.args.cones.items v c.loop-cone.out.items _ x c.in_ok-push.ensures.items c.loop-cone.invariant.0,
      taken v c.loop-cone.cone-iterator.rest.items c.next.new.self.rest.items c.args.more.items x c.in-Some.ensures.steps.0 c.loop-cone.invariant.1,
    )
