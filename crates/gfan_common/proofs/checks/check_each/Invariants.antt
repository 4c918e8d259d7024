use Rattle.std.specs.Prelude.{take}
use Rattle.gf_gordan.specs.Alternative.{AreRows}
use Rattle.gfan_common.proofs.checks.check_each.Given as goal

abbrev pub invariant-vectors : goal.invariant-vectors
invariant-vectors l = AreRows l.n (take l.vector-index l.vectors)
