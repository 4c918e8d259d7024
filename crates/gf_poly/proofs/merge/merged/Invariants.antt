use Rattle.std.proofs.Common.{length, ◌-◌, ◌+◌, ◌≤◌, drop}
use Rattle.gf_poly.proofs.MergeLaws.{Merging}
use Rattle.gf_poly.proofs.merge.merged.Given as goal

abbrev pub invariant-both : goal.invariant-both
invariant-both l = Merging l.sign l.f l.g l.out.items (drop l.i l.f) (drop l.j l.g)

abbrev pub decreases-both : goal.decreases-both
decreases-both l = (length l.f - l.i) + (length l.g - l.j)

abbrev pub invariant-left : goal.invariant-left
invariant-left l = record { merging : Merging l.sign l.f l.g l.out.items (drop l.i l.f) (drop l.j l.g); from : l.initial.i ≤ l.i }

abbrev pub decreases-left : goal.decreases-left
decreases-left l = length l.f - l.i

abbrev pub invariant-right : goal.invariant-right
invariant-right l = Merging l.sign l.f l.g l.out.items (drop l.i l.f) (drop l.j l.g)

abbrev pub decreases-right : goal.decreases-right
decreases-right l = length l.g - l.j
