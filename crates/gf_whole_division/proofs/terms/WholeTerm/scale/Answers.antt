use Rattle.std.proofs.Common.{ap, ◌∙◌}
use Rattle.std.specs.Prelude.{◌*ℤ◌, ℤ}
use Rattle.gf_whole_division.specs.Values.{term_value}
use Rattle.gf_whole_division.proofs.ValueLaws.{value_of, plain_value, scaled_value}
use Rattle.gf_whole_division.proofs.terms.WholeTerm.scale.Goals as goal

pub returns-then-is_one : goal.returns-then-is_one
returns-then-is_one c = plain_value (term_value c.args.self.now) c.args.by.now (c.is_one.ensures.0 c.if-is_one.true)

pub returns : goal.returns
returns c =
    value_of c.set_coef.new.self c.in_ok-coef.coef c.args.self.now.kept.value.mono c.set_coef.ensures.coef c.set_coef.ensures.mono
    ∙ scaled_value c.args.self.now c.in_ok-coef.coef c.args.by.now
    (c.in_ok-coef.ensures ∙ ap (λ (z : ℤ). z *ℤ c.args.by.now) c.coef.ensures)
