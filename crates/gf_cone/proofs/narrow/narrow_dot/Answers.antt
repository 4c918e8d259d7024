use Rattle.std.proofs.Common.{◌≡◌, ◌+ℤ◌, ◌*ℤ◌, pos, get_or, rules, FitsSigned}
use Rattle.std.specs.Int.{w64, w128, cast_signed}
use Rattle.std.proofs.lemmas.Int.{to_z-of_z}
use Rattle.gf_cone.proofs.NarrowLaws.{dot_more}
use Rattle.gf_cone.proofs.narrow.narrow_dot.Goals as goal

pub entries-preserved : goal.entries-preserved
entries-preserved c =
    let fx : FitsSigned w128 (get_or c.args.xs.now c.entries.i (pos 0)) = search rules in
    let fy : FitsSigned w128 (get_or c.args.ys.now c.entries.i (pos 0)) = search rules in
    let fp : FitsSigned w64 c.in_ok-product.product = search rules in
    let fs : FitsSigned w64 c.in_ok-sum.sum = search rules in
    let p : c.in_ok-product.product ≡ get_or c.args.xs.now c.entries.i (pos 0) *ℤ get_or c.args.ys.now c.entries.i (pos 0) =
    simp to_z-of_z at c.in_ok-product.ensures in
    let s : c.in_ok-sum.sum ≡ cast_signed w64 c.entries.sum-bits +ℤ c.in_ok-product.product = simp to_z-of_z at c.in_ok-sum.ensures.1 in
    rw (to_z-of_z w64 _ fs) (dot_more c.args.xs.now c.args.ys.now c.entries.i (cast_signed w64 c.entries.sum-bits) c.in_ok-product.product c.in_ok-sum.sum
    c.entries-test.true c.requires p s c.entries.invariant)
