use Rattle.std.proofs.Common.{rules}
use Rattle.gf_saturate.proofs.OneTermLaws.{told_as}
use Rattle.gf_saturate.proofs.monomials.has_monomial.Goals as goal

pub returns-then-has_one_term-clause-ok : goal.returns-then-has_one_term-clause-ok
returns-then-has_one_term-clause-ok c = (λ t. c.has_one_term.ensures.member (search rules), λ m. search rules)

pub returns-in-Ok-clause-ok : goal.returns-in-Ok-clause-ok
returns-in-Ok-clause-ok c = told_as c.args.n c.args.set.now c.in-Ok.saturation c.has_unit_mark.result c.requires.variables c.in-Ok.ensures.ok
    c.has_unit_mark.ensures

pub returns-in-Ok-clause-at_once : goal.returns-in-Ok-clause-at_once
returns-in-Ok-clause-at_once c = λ h. let t = c.has_one_term.ensures.exact.1 h in absurd (search rules)

pub returns-in-Err-clause-at_once : goal.returns-in-Err-clause-at_once
returns-in-Err-clause-at_once c = λ h. let t = c.has_one_term.ensures.exact.1 h in absurd (search rules)
