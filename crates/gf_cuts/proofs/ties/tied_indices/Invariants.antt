use Rattle.gf_cuts.specs.Heights.{AreTiedIndices}
use Rattle.gf_cuts.proofs.ties.tied_indices.Given as goal

abbrev pub invariant-loop-k : goal.invariant-loop-k
invariant-loop-k l = AreTiedIndices l.left l.right l.k l.out.items
