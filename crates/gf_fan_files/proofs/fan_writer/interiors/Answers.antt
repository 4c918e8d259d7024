use Rattle.std.proofs.Common.{◌<◌, refl, subst, length, get_or, List, ℕ}
use Rattle.std.proofs.lemmas.Result.{err_from_is_err_and}
use Rattle.gf_fan.specs.declared.cones.FanCone.{FanCone}
use Rattle.gf_fan.specs.MaximalCones.{no_cone, maximal_of}
use Rattle.gf_fan_files.proofs.FanPartsLaws.{interiors_more, writing_step, interior_value, maximal_inside, maximal_read}
use Rattle.gf_fan_files.proofs.fan_writer.interiors.Goals as goal

pub interior_of-requires : goal.interior_of-requires
interior_of-requires c = subst (λ (z : List ℕ). c.places.i < length z) c.maximal-places.ensures c.places-test.true

pub returns-in_err-sum-clause-wide : goal.returns-in_err-sum-clause-wide
returns-in_err-sum-clause-wide c =
    let f = c.args.fan.now in
    let places = c.maximal-places.result.now in
    let fan = c.cones.ensures.fan in
    let k : FanCone = get_or (maximal_of f) c.places.i no_cone in
    let inside = maximal_inside f places f.cones fan c.maximal-places.ensures refl c.places.i 0 c.places-test.true in
    let p = err_from_is_err_and c.from_residual-in_err-sum.result c.from_residual-in_err-sum.ensures.1 in
    rw (p.1, p.2) (writing_step f places f.cones c.places.i k c.in_err-sum.field-0.0 fan c.maximal-places.ensures refl c.places-test.true inside
    (maximal_read f places c.places.i c.maximal-places.ensures c.places-test.true inside) c.in_err-sum.ensures.wide)

pub places-preserved : goal.places-preserved
places-preserved c =
    let f = c.args.fan.now in
    let fan = c.cones.ensures.fan in
    let k : FanCone = get_or (maximal_of f) c.places.i no_cone in
    let l : c.places.i < length f.maximal = subst (λ (z : List ℕ). c.places.i < length z) c.maximal-places.ensures c.places-test.true in
    let inside = maximal_inside f f.maximal f.cones fan refl refl c.places.i 0 l in
    let at = maximal_read f f.maximal c.places.i refl l inside in
    interiors_more f.ambient f.rays f.cones f.maximal c.places.i k c.in_ok-sum.sum c.places.out.items c.push.new.self.items l inside at
    (interior_value f f.cones _ k c.in_ok-sum.sum fan refl inside at c.in_ok-sum.ensures.ok) c.in_ok-push.ensures.items c.places.invariant
