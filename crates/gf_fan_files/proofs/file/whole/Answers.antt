use Rattle.std.proofs.Common.{refl, sym, ◌∙◌}
use Rattle.gf_fan_files.proofs.FilesLaws.{file_of_contents, version_refused, missing_ambient, missing_rays, missing_lineality, missing_cones, missing_interiors}
use Rattle.gf_fan_files.proofs.file.whole.Goals as goal

pub returns-in-Some-clause-missing : goal.returns-in-Some-clause-missing
returns-in-Some-clause-missing c = λ source s. version_refused source c.args.contents c.in-Some.number s c.in-Some.ensures.0 c.in-Some.ensures.1.0
    c.in-Some.ensures.1.1

pub returns-in_default-ambient-clause-missing : goal.returns-in_default-ambient-clause-missing
returns-in_default-ambient-clause-missing c =
    λ source s. rw c.missing.ensures (missing_ambient source c.args.contents s c.in_default.ensures c.in_default-ambient.is)

pub returns-in_default-rays-clause-missing : goal.returns-in_default-rays-clause-missing
returns-in_default-rays-clause-missing c = λ source s. rw c.missing-in_default-rays.ensures
    (missing_rays source c.args.contents s c.in_default.ensures c.in-Some-ambient.ambient c.in-Some-ambient.is c.in_default-rays.is)

pub returns-in_default-lineality-clause-missing : goal.returns-in_default-lineality-clause-missing
returns-in_default-lineality-clause-missing c = λ source s. rw c.missing-in_default-lineality.ensures
    (missing_lineality source c.args.contents s c.in_default.ensures c.in-Some-ambient.ambient c.in-Some-rays.rays c.in-Some-ambient.is c.in-Some-rays.is
    c.in_default-lineality.is)

pub returns-in_default-cones-clause-missing : goal.returns-in_default-cones-clause-missing
returns-in_default-cones-clause-missing c = λ source s. rw c.missing-in_default-cones.ensures
    (missing_cones source c.args.contents s c.in_default.ensures c.in-Some-ambient.ambient c.in-Some-rays.rays c.in-Some-lineality.lineality
    c.in-Some-ambient.is c.in-Some-rays.is c.in-Some-lineality.is c.in_default-cones.is)

pub returns-then-lacks_interiors-clause-missing : goal.returns-then-lacks_interiors-clause-missing
returns-then-lacks_interiors-clause-missing c = λ source s. rw c.missing-then-lacks_interiors.ensures
    (missing_interiors source c.args.contents s c.in_default.ensures c.in-Some-ambient.ambient c.in-Some-rays.rays c.in-Some-lineality.lineality
    c.in-Some-cones.cones c.in-Some-ambient.is c.in-Some-rays.is c.in-Some-lineality.is c.in-Some-cones.is
    (sym c.lacks_interiors.ensures ∙ c.if-lacks_interiors.true))

pub returns-clause-file : goal.returns-clause-file
returns-clause-file c = λ source s. file_of_contents source c.args.contents _ s c.in_default.ensures c.in-Some-ambient.is c.in-Some-rays.is
    c.in-Some-lineality.is c.in-Some-cones.is refl (sym c.lacks_interiors.ensures ∙ c.if-lacks_interiors.false)
