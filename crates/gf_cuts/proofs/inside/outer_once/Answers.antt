use Rattle.std.proofs.Common.{IsTrue, rules}
use Rattle.gf_cuts.proofs.OuterLaws.{outer_left, outer_kept, taken, taken_ambient, kept_ambient, held_as}
use Rattle.gf_cuts.proofs.inside.outer_once.Goals as goal

pub loop-cone-preserved-in-Continue-branch-3 : goal.loop-cone-preserved-in-Continue-branch-3
loop-cone-preserved-in-Continue-branch-3 c =
    let v = c.loop-cone.yielded in
    let rest = c.loop-cone.cone-iterator.rest.items in
    let new = c.next.new.self.rest.items in
    let e = c.in-Some.ensures.steps.0 in
    record {
      ambient = kept_ambient c.args.n c.loop-cone.kept.items c.push.new.self.items c.in-Some.cone c.in_ok-push.ensures.items
          (taken_ambient c.args.n v rest new c.args.cones.items c.in-Some.cone e c.loop-cone.invariant.whole c.requires) c.loop-cone.invariant.ambient;
      outer = outer_kept c.args.n v c.loop-cone.kept.items c.push.new.self.items c.in-Some.cone c.in_ok-push.ensures.items c.loop-cone.invariant.outer;
      whole = taken v rest new c.args.cones.items c.in-Some.cone e c.loop-cone.invariant.whole;
    }

pub loop-cone-preserved : goal.loop-cone-preserved
loop-cone-preserved c =
    let v = c.loop-cone.yielded in
    let rest = c.loop-cone.cone-iterator.rest.items in
    let new = c.next.new.self.rest.items in
    let e = c.in-Some.ensures.steps.0 in
    let t : IsTrue c.is_inside_some.result = search rules in
    record {
      ambient = c.loop-cone.invariant.ambient;
      outer = outer_left c.args.n v c.loop-cone.kept.items c.in-Some.cone
          (held_as c.args.n c.deref.result.now c.loop-cone.kept.items c.in-Some.cone
          (taken_ambient c.args.n v rest new c.args.cones.items c.in-Some.cone e c.loop-cone.invariant.whole c.requires) c.deref.ensures.value
          (c.is_inside_some.ensures t)) c.loop-cone.invariant.outer;
      whole = taken v rest new c.args.cones.items c.in-Some.cone e c.loop-cone.invariant.whole;
    }
