use Rattle.std.proofs.Common.{length, ◌-◌, drop}
use Rattle.gf_poly.proofs.CollectLaws.{Collecting}
use Rattle.gf_poly.proofs.collect.collected.Given as goal

abbrev pub invariant-terms : goal.invariant-terms
invariant-terms l = Collecting l.terms l.out.items l.mono l.coef (drop l.i l.terms)

abbrev pub decreases-terms : goal.decreases-terms
decreases-terms l = length l.terms - l.i
