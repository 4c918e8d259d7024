use Rattle.std.proofs.Common.{◌∙◌, sym}
use Rattle.gf_fan_files.proofs.LinesLaws.{lines_ended}
use Rattle.gf_fan_files.proofs.lines.line_from.Goals as goal

pub returns-clause-line : goal.returns-clause-line
returns-clause-line c = sym c.loop-place.invariant.same ∙ lines_ended c.args.source.now c.loop-place.place c.loop-place-test.false
