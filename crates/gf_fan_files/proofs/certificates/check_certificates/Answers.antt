use Rattle.std.proofs.Common.{◌<◌, length, refl, arith}
use Rattle.gf_fan_files.specs.Certificates.{at_row, too_wide}
use Rattle.gf_fan_files.proofs.CertificateLaws.{inside_at, outside_at, wide_at, ambient_at, more_inside}
use Rattle.gf_fan_files.proofs.certificates.check_certificates.Goals as goal

pub returns-in-Ok-false : goal.returns-in-Ok-false
returns-in-Ok-false c =
    let cones = c.args.cones.now in
    let rows = c.args.rows.now in
    let place = c.loop-place.place in
    let within : place < length rows = omega arith in
    let of_cones : place < length cones = omega arith in
    let cone = c.index-cones-place.result in
    let row = c.index-rows-place.result in
    at_row place (record {
      count = c.if-rows-cones.false;
      within = within;
      before = c.loop-place.invariant;
      here = outside_at c.args.n cones rows place cone row c.index-cones-place.is c.index-rows-place.is of_cones within
          (ambient_at c.args.n cones rows place cone row c.index-cones-place.is c.index-rows-place.is of_cones within c.requires.ambient)
          (λ i. let e = c.in-Ok-false.ensures.ok.1 i in let f = c.in-Ok-false.field-0-test in cc);
    }) refl

pub returns-in-Err : goal.returns-in-Err
returns-in-Err c =
    let cones = c.args.cones.now in
    let rows = c.args.rows.now in
    let place = c.loop-place.place in
    let within : place < length rows = omega arith in
    let of_cones : place < length cones = omega arith in
    too_wide c.in-Err.wide (record {
      place = place;
      count = c.if-rows-cones.false;
      within = within;
      before = c.loop-place.invariant;
      step = wide_at c.args.n cones rows place c.index-cones-place.result c.index-rows-place.result c.index-cones-place.is c.index-rows-place.is of_cones within
          c.in-Err.wide c.in-Err.ensures.err;
    }) refl

pub loop-place-preserved : goal.loop-place-preserved
loop-place-preserved c =
    let cones = c.args.cones.now in
    let rows = c.args.rows.now in
    let place = c.loop-place.place in
    let within : place < length rows = omega arith in
    let of_cones : place < length cones = omega arith in
    let cone = c.index-cones-place.result in
    let row = c.index-rows-place.result in
    more_inside c.args.n cones rows place cone row c.index-cones-place.is c.index-rows-place.is of_cones within c.loop-place.invariant
    (inside_at c.args.n cones rows place cone row c.index-cones-place.is c.index-rows-place.is of_cones within
    (ambient_at c.args.n cones rows place cone row c.index-cones-place.is c.index-rows-place.is of_cones within c.requires.ambient)
    (c.in-Ok-true.ensures.ok.0 c.in-Ok-true.field-0-test))

pub returns : goal.returns
returns c = record {
  count = c.if-rows-cones.false;
  each = λ place l. c.loop-place.invariant place (let last = c.loop-place-test.false in omega (arith, l, last));
}
