use Rattle.gf_gordan.specs.Alternative.{AreRows}
use Rattle.gf_rays.proofs.project.zero_rows.Given as goal

abbrev pub invariant-loop-k : goal.invariant-loop-k
invariant-loop-k l = AreRows l.n l.out.items
