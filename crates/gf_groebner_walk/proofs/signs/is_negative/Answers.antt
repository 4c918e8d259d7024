use Rattle.std.proofs.Common.{rules, sym, ◌∙◌, ◌≡◌, pos}
use Rattle.gf_groebner_walk.proofs.SignLaws.{told_less, told_other}
use Rattle.gf_groebner_walk.proofs.signs.is_negative.Goals as goal

pub returns-in-Less : goal.returns-in-Less
returns-in-Less c =
    let z : c.in_ok-value.value ≡ pos 0 = search rules in
    told_less c.args.weight.now c.args.normal.now c.as_slice.result.now c.leading_sign.result (sym c.in_ok-value.ensures.ok.0 ∙ z) c.as_slice.ensures.value
    c.leading_sign.ensures c.in-Less.is

pub returns-in_default : goal.returns-in_default
returns-in_default c =
    let z : c.in_ok-value.value ≡ pos 0 = search rules in
    told_other c.args.weight.now c.args.normal.now c.as_slice.result.now c.leading_sign.result (sym c.in_ok-value.ensures.ok.0 ∙ z) c.as_slice.ensures.value
    c.leading_sign.ensures c.in_default.not-Less
