use Rattle.std.proofs.Common.{List, ℤ, subst}
use Rattle.gf_gordan.specs.Alternative.{IsSolution, IsFarkas}
use Rattle.gf_gordan.specs.Answers.{IsAlternative}
use Rattle.gf_fan_files.proofs.SpanLaws.{spanned_by, outside_by}
use Rattle.gf_fan_files.proofs.file.is_spanned.Goals as goal

pub returns-in-Point-clause-ok : goal.returns-in-Point-clause-ok
returns-in-Point-clause-ok c =
    let s = subst (IsAlternative c.args.n c.from_ref.result.now c.args.span.now) c.in-Point.is c.in_ok-strict.ensures.ok in
    outside_by c.args.n c.args.span.now c.args.vector.now c.in-Point.field-0 c.requires.span
    (subst (λ (rows : List (List ℤ)). IsSolution c.args.n rows c.args.span.now c.in-Point.field-0) c.from_ref.ensures.value s)

pub returns-clause-ok : goal.returns-clause-ok
returns-clause-ok c =
    let s = subst (IsAlternative c.args.n c.from_ref.result.now c.args.span.now) c.in-Farkas.is c.in_ok-strict.ensures.ok in
    spanned_by c.args.n c.args.span.now c.args.vector.now c.in-Farkas.rows c.in-Farkas.equations c.requires.vector c.requires.span
    (subst (λ (rows : List (List ℤ)). IsFarkas c.args.n rows c.args.span.now c.in-Farkas.rows c.in-Farkas.equations) c.from_ref.ensures.value s)
