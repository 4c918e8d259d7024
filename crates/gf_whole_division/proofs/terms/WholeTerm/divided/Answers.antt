use Rattle.std.proofs.Common.{sym, ◌∙◌}
use Rattle.gf_whole_division.proofs.ValueLaws.{divided_value}
use Rattle.gf_whole_division.proofs.terms.WholeTerm.divided.Goals as goal

pub returns : goal.returns
returns c =
    divided_value c.args.self.now c.in_ok-term.term c.in_ok-coef.coef c.args.by.now c.copy-mono.result (sym c.coef.ensures ∙ c.in_ok-coef.ensures)
    (c.copy-mono.ensures ∙ c.mono.ensures) c.in_ok-term.ensures.coef c.in_ok-term.ensures.mono
