use Rattle.std.proofs.Common.{refl}
use Rattle.std.proofs.lemmas.Result.{on_ok_weaker}
use Rattle.gf_wide_division.specs.Values.{value_terms}
use Rattle.gf_wide_division.proofs.DividendLaws.{taken_there, taken_new}
use Rattle.gf_wide_division.proofs.dividend.WideDividend.take_away.Goals as goal

pub returns-in-Equal : goal.returns-in-Equal
returns-in-Equal c = on_ok_weaker c.take_from.result (taken_there c.args.coef.now c.args.mono (value_terms c.args.self.now.terms.items)
    (value_terms c.take_from.new.self.terms.items) c.index-index.result.0 c.index-index.result.1 c.in-Equal.is c.requires.sound c.index-index.ensures.index)
    c.take_from.ensures

pub returns-in_default : goal.returns-in_default
returns-in_default c = on_ok_weaker c.put.result (λ p. taken_new c.args.coef.now c.args.mono c.args.self.now.terms.items c.put.new.self.terms.items
    c.index-index.result.0 c.index-index.result.1 (record { coef = c.neg.result; mono = c.args.mono; waits = c.args.waits })
    c.in_default.not-Equal c.requires.nonzero c.neg.ensures refl p c.requires.sound c.index-index.ensures.index) c.put.ensures
