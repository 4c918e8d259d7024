use Rattle.std.proofs.Common.{rules, ◌≡◌, ℤ, pos, negsuc, ◌-ℤ◌, ◌*ℤ◌, get_or, FitsSigned, arith}
use Rattle.std.specs.Int.{w128}
use Rattle.std.proofs.lemmas.Int.{ints, to_z-of_z, fits_signed_from_abs, unsigned_abs-mul}
use Rattle.std.proofs.lemmas.List.{get_or_default}
use Rattle.std.proofs.lemmas.List.Edits.{map_over_more}
use Rattle.gf_int_theory.specs.Range.{InRange}
use Rattle.gf_vec.proofs.SumLaws.{negated_all, negated_entry}
use Rattle.gf_vec.proofs.sum.negate_all.Goals as goal

minus_one : (x : ℤ) → pos 0 -ℤ x ≡ negsuc 0 *ℤ x
minus_one x = omega (arith, ints)

fits_negative : (x : ℤ) → InRange x → FitsSigned w128 (pos 0 -ℤ x)
fits_negative x h = rw minus_one (fits_signed_from_abs w128 _ (omega (arith, unsigned_abs-mul (negsuc 0) x, h.within)))

pub loop-x-preserved : goal.loop-x-preserved
loop-x-preserved c =
    let fx : FitsSigned w128 (get_or c.loop-x.xs c.loop-x.x-index (pos 0)) = search rules in
    let fn : FitsSigned w128 (pos 0 -ℤ get_or c.loop-x.xs c.loop-x.x-index (pos 0)) =
    rw (negated_entry c.args.xs.now c.loop-x.xs c.loop-x.x-index (search rules) c.loop-x.invariant) (fits_negative _ (c.requires _ _ (search rules))) in
    rw (to_z-of_z w128 _ fx, to_z-of_z w128 _ fn, minus_one) (map_over_more (λ y. negsuc 0 *ℤ y) c.args.xs.now c.loop-x.xs c.loop-x.x-index
    (get_or c.loop-x.xs c.loop-x.x-index (pos 0)) (search rules) c.loop-x.invariant (get_or_default c.loop-x.xs c.loop-x.x-index _ _ (search rules)))

pub returns-clause-range : goal.returns-clause-range
returns-clause-range c = negated_all c.args.xs.now c.loop-x.xs c.loop-x.x-index (omega (arith, c.loop-x-test.false)) c.loop-x.invariant c.requires
