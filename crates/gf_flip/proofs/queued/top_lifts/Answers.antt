use Rattle.std.proofs.Common.{length}
use Rattle.gf_lifts.proofs.TopLaws.{before-more}
use Rattle.gf_lifts.proofs.LiftTailLaws.{copies_more}
use Rattle.gf_flip.proofs.queued.top_lifts.Goals as goal

pub members-preserved : goal.members-preserved
members-preserved c = record {
  topping = before-more (length c.args.normal.now) c.args.by.now c.args.normal.now c.args.items.items c.members.member-iterator.rest.items
      c.next.new.self.rest.items c.in-Some.member c.in_ok-lift.lift c.members.all.members.items c.push.new.lifts.members.items c.in-Some.ensures.steps.0
      c.in_ok-lift.ensures.value c.in_ok-lift.ensures.variables c.in_ok-push.ensures.members c.members.invariant.topping;
  copies = copies_more c.args.by.now c.members.all.members.items c.push.new.lifts.members.items c.members.all.copied.items c.push.new.lifts.copied.items
      c.in_ok-lift.lift c.in_ok-lift.is_copy c.in_ok-lift.ensures.copied c.in_ok-push.ensures.members c.in_ok-push.ensures.copied c.members.invariant.copies;
}
