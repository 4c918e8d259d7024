use Rattle.std.proofs.Common.{◌∙◌, sym, ap, drop, List, ℤ}
use Rattle.gf_cone.proofs.AnswerLaws.{kept_rows, kept_rows_wide}
use Rattle.gf_cone.proofs.cone.Cone.rows.Goals as goal

pub returns-clause-value : goal.returns-clause-value
returns-clause-value c = kept_rows c.args.self.now c.self.inside.variables c.self.inside.count c.self.inside.vectors.items c.split_at.result.1.now
    (sym c.self.view_is)
    (c.split_at.ensures.back ∙ ap (λ (z : List (List ℤ)). drop c.self.inside.count z) c.as_slice.ensures.value)

pub returns-clause-widths : goal.returns-clause-widths
returns-clause-widths c = kept_rows_wide c.args.self.now c.self.inside.variables c.self.inside.count c.self.inside.vectors.items c.split_at.result.1.now
    (sym c.self.view_is) c.self.invariant
    (c.split_at.ensures.back ∙ ap (λ (z : List (List ℤ)). drop c.self.inside.count z) c.as_slice.ensures.value)
