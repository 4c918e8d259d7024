use Rattle.std.proofs.Common.{◌∙◌, ap, ap₂}
use Rattle.gf_fan_files.specs.FanWords.{fan_text}
use Rattle.gf_fan_files.specs.FanTexts.{listed_cones, listed_at}
use Rattle.gf_fan_files.proofs.FanPartsLaws.{maximal_inside, parts_same}
use Rattle.gf_fan_files.proofs.WrittenFansLaws.{fan_interiors}
use Rattle.gf_fan_files.proofs.fan_writer.write.Goals as goal

pub listed_at-requires : goal.listed_at-requires
listed_at-requires c = maximal_inside c.args.fan.now c.maximal.result.now c.cones-2.result.now c.cones-2.ensures.fan c.maximal.ensures c.cones-2.ensures.value

pub returns-clause-ok : goal.returns-clause-ok
returns-clause-ok c =
    let f = c.args.fan.now in
    c.in_ok-text.ensures
    ∙ ap fan_text (parts_same f c.ambient-2.result c.rays.result.now c.lineality.result.now c.orthogonal.result.now c.deref-2.result.now c.deref-3.result.now
    c.deref-4.result.now c.ambient-2.ensures c.rays.ensures c.lineality.ensures c.orthogonal.ensures
    (c.deref-2.ensures.value ∙ c.in_ok-cones.ensures ∙ ap listed_cones c.cones.ensures.value)
    (c.deref-3.ensures.value ∙ c.in_ok-maximal.ensures ∙ ap₂ listed_at c.cones-2.ensures.value c.maximal.ensures)
    (c.deref-4.ensures.value ∙ c.in_ok-interiors.ensures.ok))

pub rows_are_writable-requires : goal.rows_are_writable-requires
rows_are_writable-requires c = fan_interiors c.args.fan.now c.ambient.result c.deref.result.now c.cones.ensures.fan c.ambient.ensures
    (c.deref.ensures.value ∙ c.in_ok-interiors.ensures.ok)
