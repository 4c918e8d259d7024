use Rattle.std.proofs.Common.{rules, ◌≡◌, true, false, bytes_eq, length}
use Rattle.gf_fan_files.specs.Lines.{content_from}
use Rattle.gf_fan_files.specs.FanText.{file_version, maximal_interiors}
use Rattle.gf_fan_files.proofs.SectionsLaws.{version_section, interiors_section, other_section}
use Rattle.gf_fan_files.proofs.sections.with_other.Goals as goal

pub returns-then-eq : goal.returns-then-eq
returns-then-eq c =
    let source = c.args.source.now in
    let name = c.args.name.now in
    let is : bytes_eq file_version name ≡ true = search rules in
    version_section (length source) name (content_from source c.args.from) c.args.contents c.requires.ambient c.requires.rays c.requires.lineality
    c.requires.cones is c.with_version.result c.with_version.ensures

pub returns-then-eq-2 : goal.returns-then-eq-2
returns-then-eq-2 c =
    let source = c.args.source.now in
    let name = c.args.name.now in
    let no : bytes_eq file_version name ≡ false = search rules in
    let is : bytes_eq maximal_interiors name ≡ true = search rules in
    interiors_section (length source) name (content_from source c.args.from) c.args.contents c.requires.ambient c.requires.rays c.requires.lineality
    c.requires.cones no is c.with_interiors.result c.with_interiors.ensures

pub returns : goal.returns
returns c =
    let source = c.args.source.now in
    let name = c.args.name.now in
    let no : bytes_eq file_version name ≡ false = search rules in
    let none : bytes_eq maximal_interiors name ≡ false = search rules in
    other_section (length source) name (content_from source c.args.from) c.args.contents c.requires.ambient c.requires.rays c.requires.lineality
    c.requires.cones no none
