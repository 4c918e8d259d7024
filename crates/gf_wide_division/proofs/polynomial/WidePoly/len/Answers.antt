use Rattle.std.proofs.Common.{sym, ap, ◌∙◌, length}
use Rattle.gf_wide_division.proofs.ValueLaws.{length-values}
use Rattle.gf_wide_division.proofs.polynomial.WidePoly.len.Goals as goal

pub returns : goal.returns
returns c = sym (length-values c.terms.result.now) ∙ ap length c.terms.ensures.value
