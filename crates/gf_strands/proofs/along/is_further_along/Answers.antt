use Rattle.std.proofs.Common.{ap, ◌∙◌, length}
use Rattle.gf_strands.proofs.AlongLaws.{same_apart}
use Rattle.gf_strands.proofs.along.is_further_along.Goals as goal

pub is_apart-requires-clause-same_length : goal.is_apart-requires-clause-same_length
is_apart-requires-clause-same_length c = ap length c.exponents.ensures.value ∙ c.requires.same_length

pub is_apart-requires-clause-same_variables : goal.is_apart-requires-clause-same_variables
is_apart-requires-clause-same_variables c = ap length c.exponents-2.ensures.value ∙ c.requires.same_variables

pub returns : goal.returns
returns c = λ f e m. c.is_apart.ensures.no f ((same_apart c.args.normal.now c.exponents.result.now c.exponents-2.result.now c.args.x.now c.args.head.now
    c.exponents.ensures.value c.exponents-2.ensures.value).1 m)
