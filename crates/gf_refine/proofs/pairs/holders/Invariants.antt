use Rattle.gf_fan.specs.MaximalCones.{maximal_of}
use Rattle.gf_refine.proofs.PairLaws.{HoldersSoFar}
use Rattle.gf_refine.proofs.pairs.holders.Given as goal

abbrev pub invariant-loop-i : goal.invariant-loop-i
invariant-loop-i l = HoldersSoFar l.other.ambient (maximal_of l.fan) (maximal_of l.other) l.held l.i l.out.items
