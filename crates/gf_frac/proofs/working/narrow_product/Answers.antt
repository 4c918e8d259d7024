use Rattle.std.proofs.Common.{◌≡◌, ◌∙◌}
use Rattle.std.specs.Int.{w64, w128}
use Rattle.std.proofs.lemmas.Int.{to_z-of_z}
use Rattle.gf_int_theory.proofs.NarrowLaws.{widened, product_fits, product_range}
use Rattle.gf_frac.proofs.working.narrow_product.Goals as goal

pub overflow_mul-result : goal.overflow_mul-result
overflow_mul-result c =
    let ea : c.from.result ≡ c.args.a = c.from.ensures ∙ to_z-of_z w64 _ c.ranges.a in
    let ec : c.from-2.result ≡ c.args.c = c.from-2.ensures ∙ to_z-of_z w64 _ c.ranges.c in
    rw (ea, ec, to_z-of_z w128 _ (widened _ c.ranges.a), to_z-of_z w128 _ (widened _ c.ranges.c)) (product_fits _ _ c.ranges.a c.ranges.c)

pub returns-clause-value : goal.returns-clause-value
returns-clause-value c =
    let ea : c.from.result ≡ c.args.a = c.from.ensures ∙ to_z-of_z w64 _ c.ranges.a in
    let ec : c.from-2.result ≡ c.args.c = c.from-2.ensures ∙ to_z-of_z w64 _ c.ranges.c in
    rw (ea, ec, to_z-of_z w128 _ (widened _ c.ranges.a), to_z-of_z w128 _ (widened _ c.ranges.c)) (to_z-of_z w128 _ (product_fits _ _ c.ranges.a c.ranges.c))

pub returns-clause-range : goal.returns-clause-range
returns-clause-range c = rw (returns-clause-value c) (product_range _ _ c.ranges.a c.ranges.c)
