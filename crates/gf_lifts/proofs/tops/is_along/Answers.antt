use Rattle.std.proofs.Common.{ap, arith, ◌∙◌, length}
use Rattle.gf_strands.proofs.AlongLaws.{width_at}
use Rattle.gf_lifts.proofs.tops.is_along.Goals as goal

pub is_apart-requires-clause-same_length : goal.is_apart-requires-clause-same_length
is_apart-requires-clause-same_length c = ap length c.exponents-x.ensures.value ∙ width_at (length c.args.normal.now) c.terms-terms.result.now
    c.args.member.now.poly c.index-terms-0.result 0 c.requires.variables (c.terms-terms.ensures.value ∙ c.poly.ensures) (omega arith) c.index-terms-0.is

pub is_apart-requires-clause-same_variables : goal.is_apart-requires-clause-same_variables
is_apart-requires-clause-same_variables c = ap length c.exponents-y.ensures.value ∙ width_at (length c.args.normal.now) c.terms-terms.result.now
    c.args.member.now.poly c.index-terms-1.result 1 c.requires.variables (c.terms-terms.ensures.value ∙ c.poly.ensures) (omega arith) c.index-terms-1.is
