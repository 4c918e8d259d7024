use Rattle.std.proofs.Common.{FitsSigned, rules, ◌∙◌}
use Rattle.std.specs.Int.{w128}
use Rattle.gf_frac.proofs.PartsLaws.{through}
use Rattle.gf_whole_division.proofs.ValueLaws.{raised_term, value_of}
use Rattle.gf_whole_division.proofs.members.raised.Goals as goal

pub returns : goal.returns
returns c =
    let f : FitsSigned w128 c.denom.result = search rules in
    let g : FitsSigned w128 c.numer.result = search rules in
    value_of c.in_ok-term.term c.in_ok-coef.coef c.copy-mono.result c.in_ok-term.ensures.coef c.in_ok-term.ensures.mono
    ∙ raised_term c.args.t.now c.args.by.now c.new-denominator.result c.new-numerator.result c.in_ok-times.times c.in_ok-coef.coef c.copy-mono.result
    (c.new-denominator.ensures ∙ through _ _ f c.denom.ensures.value)
    (c.new-numerator.ensures ∙ through _ _ g c.numer.ensures.value) c.in_ok-times.ensures c.in_ok-coef.ensures
    c.copy-mono.ensures
