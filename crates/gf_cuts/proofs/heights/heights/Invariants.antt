use Rattle.std.proofs.Common.{◌≡◌, take, All}
use Rattle.gf_int_theory.specs.Range.{InRange}
use Rattle.gf_cuts.specs.Heights.{heights}
use Rattle.gf_cuts.proofs.heights.heights.Given as goal

abbrev pub invariant-loop-x : goal.invariant-loop-x
invariant-loop-x l = (l.out.items ≡ heights (take l.x-index l.vectors) l.point) × All InRange l.out.items
