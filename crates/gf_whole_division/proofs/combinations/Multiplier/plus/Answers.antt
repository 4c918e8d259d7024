use Rattle.std.proofs.Common.{ap, ◌∙◌}
use Rattle.std.specs.Prelude.{◌+ℤ◌, ◌*ℤ◌, ℤ}
use Rattle.std.proofs.lemmas.Result.{IfOk-weaker}
use Rattle.gf_whole_division.proofs.combinations.Multiplier.plus.Goals as goal

pub returns : goal.returns
returns c =
    IfOk-weaker c.sum.result _ _
    (λ z e. e ∙ ap (λ (k : ℤ). c.args.other.now +ℤ k) (c.in_ok-coef.ensures ∙ ap (λ (k : ℤ). k *ℤ c.args.self.now.factor) c.coef.ensures)) c.sum.ensures
