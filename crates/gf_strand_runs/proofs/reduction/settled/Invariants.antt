use Rattle.gf_strand_runs.proofs.SettlingLaws.{AreStrandsTo}
use Rattle.gf_strand_runs.proofs.reduction.settled.Given as goal

abbrev pub invariant-strands : goal.invariant-strands
invariant-strands l = AreStrandsTo l.ground.normal.now l.ground.marks.now l.ground.by.now l.flags.items l.fn.strands.items l.j l.strands.items
