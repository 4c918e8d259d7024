use Rattle.gf_fan_files.specs.FansAgain.{IsWritable}
use Rattle.gf_fan_files.specs.FanTexts.{parts_of_fan}
use Rattle.gf_fan_files.proofs.WrittenFansLaws.{fan_ray_rows, fan_lineality, fan_orthogonal, fan_sums, writable_along, fan_writable}
use Rattle.gf_fan_files.proofs.again.fan_is_read_again.Goals as goal

pub rows_are_writable-requires : goal.rows_are_writable-requires
rows_are_writable-requires c = fan_ray_rows c.args.fan.now c.ambient.result c.rays.result.now c.cones.ensures.fan c.ambient.ensures c.rays.ensures

pub rows_are_writable-requires-2 : goal.rows_are_writable-requires-2
rows_are_writable-requires-2 c = fan_lineality c.args.fan.now c.ambient-2.result c.lineality.result.now c.cones.ensures.fan c.ambient-2.ensures
    c.lineality.ensures

pub rows_are_writable-requires-3 : goal.rows_are_writable-requires-3
rows_are_writable-requires-3 c = fan_orthogonal c.args.fan.now c.ambient-3.result c.orthogonal.result.now c.cones.ensures.fan c.ambient-3.ensures
    c.orthogonal.ensures

pub returns-clause-writable : goal.returns-clause-writable
returns-clause-writable c =
    let f = c.args.fan.now in
    fan_writable f c.cones.result.now c.rays-2.result.now c.lineality-2.result.now c.requires.positive c.requires.dimension
    (writable_along c.ambient.result f.ambient c.rays.result.now f.rays c.ambient.ensures c.rays.ensures c.rows_are_writable.ensures)
    (writable_along c.ambient-2.result f.ambient c.lineality.result.now f.lineality c.ambient-2.ensures c.lineality.ensures c.rows_are_writable-2.ensures)
    (writable_along c.ambient-3.result f.ambient c.orthogonal.result.now f.orthogonal c.ambient-3.ensures c.orthogonal.ensures c.rows_are_writable-3.ensures)
    (fan_sums f c.cones.ensures.fan c.requires.sums) c.cones.ensures.value c.fan_cones_are_writable.ensures.all
    c.fan_cones_are_writable.ensures.count c.rays-2.ensures c.vectors_are_few.ensures c.lineality-2.ensures c.vectors_are_few-2.ensures

pub returns-clause-file : goal.returns-clause-file
returns-clause-file c =
    let f = c.args.fan.now in
    let writable : IsWritable (parts_of_fan f) =
    fan_writable f c.cones.result.now c.rays-2.result.now c.lineality-2.result.now c.requires.positive c.requires.dimension
    (writable_along c.ambient.result f.ambient c.rays.result.now f.rays c.ambient.ensures c.rays.ensures c.rows_are_writable.ensures)
    (writable_along c.ambient-2.result f.ambient c.lineality.result.now f.lineality c.ambient-2.ensures c.lineality.ensures c.rows_are_writable-2.ensures)
    (writable_along c.ambient-3.result f.ambient c.orthogonal.result.now f.orthogonal c.ambient-3.ensures c.orthogonal.ensures c.rows_are_writable-3.ensures)
    (fan_sums f c.cones.ensures.fan c.requires.sums) c.cones.ensures.value c.fan_cones_are_writable.ensures.all
    c.fan_cones_are_writable.ensures.count c.rays-2.ensures c.vectors_are_few.ensures c.lineality-2.ensures c.vectors_are_few-2.ensures in
    c.fans_are_read_again.ensures (parts_of_fan f) writable
