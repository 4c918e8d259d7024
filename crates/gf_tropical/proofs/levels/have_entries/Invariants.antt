use Rattle.std.proofs.Common.{take}
use Rattle.gf_fan.specs.Pairs.{AreOfWidth}
use Rattle.gf_tropical.proofs.levels.have_entries.Given as goal

abbrev pub invariant-loop-c : goal.invariant-loop-c
invariant-loop-c l = AreOfWidth l.n (take l.c-index l.cones)
