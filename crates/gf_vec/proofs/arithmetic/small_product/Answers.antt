use Rattle.std.specs.Int.{w64, w128}
use Rattle.std.proofs.lemmas.Int.{to_z-of_z}
use Rattle.gf_int_theory.proofs.NarrowLaws.{widened, product_fits, product_range}
use Rattle.gf_vec.proofs.arithmetic.small_product.Goals as goal

pub overflow_mul-result : goal.overflow_mul-result
overflow_mul-result c =
    rw (to_z-of_z w64 _ c.ranges.x, to_z-of_z w64 _ c.ranges.y, to_z-of_z w128 _ (widened _ c.ranges.x), to_z-of_z w128 _ (widened _ c.ranges.y))
    (product_fits _ _ c.ranges.x c.ranges.y)

pub returns-clause-value : goal.returns-clause-value
returns-clause-value c =
    rw (to_z-of_z w64 _ c.ranges.x, to_z-of_z w64 _ c.ranges.y, to_z-of_z w128 _ (widened _ c.ranges.x), to_z-of_z w128 _ (widened _ c.ranges.y))
    (to_z-of_z w128 _ (product_fits _ _ c.ranges.x c.ranges.y))

pub returns-clause-range : goal.returns-clause-range
returns-clause-range c = rw (returns-clause-value c) (product_range _ _ c.ranges.x c.ranges.y)
