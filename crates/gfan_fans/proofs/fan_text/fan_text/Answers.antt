use Rattle.gfan_fans.specs.FanTexts.{IsNoFanText}
use Rattle.gfan_fans.proofs.FanTextLaws.{text_unwritten}
use Rattle.gfan_fans.proofs.fan_text.fan_text.Goals as goal

pub returns-in-Err-clause-err : goal.returns-in-Err-clause-err
returns-in-Err-clause-err c = IsNoFanText.no_fan c.in-Err.error c.in-Err.ensures.err c.of_fan.ensures

pub returns-clause-err : goal.returns-clause-err
returns-clause-err c = text_unwritten c.args.n c.args.cones.items c.in-Ok.fan c.in-Err-write.error c.of_writing.result c.in-Ok.ensures.ok
    c.in-Err-write.ensures.wide c.of_writing.ensures
