use Rattle.std.proofs.Common.{◌∙◌, refl, length}
use Rattle.gf_fan_files.specs.Lines.{content_from}
use Rattle.gf_fan_files.specs.FanText.{the_number}
use Rattle.gf_fan_files.proofs.SectionsLaws.{version_read}
use Rattle.gf_fan_files.proofs.sections.with_version.Goals as goal

pub returns-in_ok-number_from-in-Some : goal.returns-in_ok-number_from-in-Some
returns-in_ok-number_from-in-Some c = (
  refl,
  (
    the_number c.in_ok-number_from-in-Some.field-0,
    version_read (length c.args.source.now) c.args.contents.version c.in-Some.field-0
        (content_from c.args.source.now c.args.from) c.in-Some.is ∙ c.in_ok-number_from-in-Some.ensures,
  ),
)
