use Rattle.std.proofs.Common.{refl, subst}
use Rattle.gf_vec.specs.Steps.{sum_steps, IsFirstWide, IfWide}
use Rattle.gfan_generated.specs.Summaries.{IsWideSum}
use Rattle.gfan_generated.proofs.with_weight.Goals as goal

pub returns-in-Err-Wide-clause-err : goal.returns-in-Err-Wide-clause-err
returns-in-Err-Wide-clause-err c =
    IsWideSum.wide c.in-Err-Wide.wide (subst (IfWide (λ e. IsFirstWide e (sum_steps c.args.weights.now c.args.weight.now)))
    c.in-Err-Wide.field-0-is c.in-Err-Wide.ensures.wide) refl
