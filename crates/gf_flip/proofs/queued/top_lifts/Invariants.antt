use Rattle.std.proofs.Common.{length}
use Rattle.gf_lifts.specs.LiftTails.{AreCopies}
use Rattle.gf_lifts.proofs.TopLaws.{AreToppingBefore}
use Rattle.gf_flip.proofs.queued.top_lifts.Given as goal

abbrev pub invariant-members : goal.invariant-members
invariant-members l = record {
  topping : AreToppingBefore (length l.normal) l.by l.normal l.fn.items.items l.member-iterator.rest.items l.all.members.items;
  copies : AreCopies l.by l.all.members.items l.all.copied.items;
}
