use Rattle.gf_rays.proofs.MemberLaws.{members_none, members_more, members_all}
use Rattle.gf_rays.proofs.faces.part_flags.Goals as goal

pub loop-part-init : goal.loop-part-init
loop-part-init c = rw c.in_ok-out.ensures.items (members_none c.args.count c.args.parts.now)

pub loop-part-preserved : goal.loop-part-preserved
loop-part-preserved c = members_more c.args.count c.loop-part.part-index c.args.parts.now c.part-item.result c.as_slice.result.now c.in_ok-at.field-0
    c.loop-part.out.items _ c.loop-part-test.true c.part-item.is c.as_slice.ensures c.in_ok-push.ensures.items c.in_ok-at.ensures c.loop-part.invariant

pub returns : goal.returns
returns c = members_all c.args.count c.loop-part.part-index c.args.parts.now c.loop-part.out.items c.loop-part-test.false c.loop-part.invariant
