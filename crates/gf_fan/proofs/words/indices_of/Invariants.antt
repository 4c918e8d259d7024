use Rattle.gf_fan.specs.Words.{AreIndicesOf}
use Rattle.gf_fan.proofs.words.indices_of.Given as goal

abbrev pub invariant-loop-h : goal.invariant-loop-h
invariant-loop-h l = AreIndicesOf l.rays l.known l.rows l.out.items
