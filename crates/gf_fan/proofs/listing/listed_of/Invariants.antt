use Rattle.gf_fan.proofs.ListingLaws.{ListedSoFar, IsConeOf}
use Rattle.gf_fan.proofs.listing.listed_of.Given as goal

abbrev pub invariant-loop-f : goal.invariant-loop-f
invariant-loop-f l = ListedSoFar (IsConeOf l.cones) l.found l.f-index l.out.items
