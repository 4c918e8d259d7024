use Rattle.std.proofs.Common.{◌≡◌, ◌++◌, take, map}
use Rattle.gf_vec.specs.Vector.{opposite}
use Rattle.gf_cuts.proofs.generators.with_opposites.Given as goal

abbrev pub invariant-loop-line : goal.invariant-loop-line
invariant-loop-line l = l.out.items ≡ l.fn.vectors.items ++ map opposite (take l.line-index l.lines)
