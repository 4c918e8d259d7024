use Rattle.std.proofs.Common.{arith}
use Rattle.std.specs.Int.{w128}
use Rattle.std.proofs.lemmas.Int.{ints, to_z-of_z, quot_fits}
use Rattle.gf_vec.proofs.arithmetic.quotient.Goals as goal

pub nonzero_div-result : goal.nonzero_div-result
nonzero_div-result c = (omega (arith, ints), rw (to_z-of_z w128 _ c.ranges.x, to_z-of_z w128 _ c.ranges.by) (quot_fits w128 _ _ c.ranges.x c.requires))
