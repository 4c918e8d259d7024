use Rattle.gf_fan.specs.Words.{AreLowIndices}
use Rattle.gf_fan.proofs.words.low_indices.Given as goal

abbrev pub invariant-loop-p : goal.invariant-loop-p
invariant-loop-p l = AreLowIndices l.known l.indices l.own l.out.items
