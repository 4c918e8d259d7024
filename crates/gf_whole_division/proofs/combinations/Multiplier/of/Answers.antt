use Rattle.std.proofs.Common.{ap, ◌∙◌}
use Rattle.std.specs.Prelude.{◌*ℤ◌, ℤ}
use Rattle.gf_exponents_theory.specs.Exponents.{plus}
use Rattle.gf_whole_division.proofs.ValueLaws.{raised_value}
use Rattle.gf_whole_division.proofs.combinations.Multiplier.of.Goals as goal

pub returns : goal.returns
returns c =
    raised_value c.args.t.now c.in_ok-term.term c.in_ok-coef.coef c.args.self.now.factor c.args.self.now.mono c.in_ok-mono.mono
    (c.in_ok-coef.ensures ∙ ap (λ (z : ℤ). z *ℤ c.args.self.now.factor) c.coef.ensures)
    (c.in_ok-mono.ensures.product ∙ ap (plus c.args.self.now.mono) c.mono-2.ensures) c.in_ok-term.ensures.coef c.in_ok-term.ensures.mono
