use Rattle.std.proofs.Common.{ap, ◌∙◌, length}
use Rattle.gf_strands.proofs.AlongLaws.{marked_along, same_apart}
use Rattle.gf_strands.proofs.along.is_along.Goals as goal

pub returns-then-is_marked-clause-yes : goal.returns-then-is_marked-clause-yes
returns-then-is_marked-clause-yes c = λ _. marked_along c.args.normal.now c.args.x.now c.args.head.now (
  c.args.pivot,
  c.requires.nonzero,
) (c.requires.marked c.if-is_marked.true)

pub is_apart-requires-clause-same_length : goal.is_apart-requires-clause-same_length
is_apart-requires-clause-same_length c = ap length c.exponents.ensures.value ∙ c.requires.same_length

pub is_apart-requires-clause-same_variables : goal.is_apart-requires-clause-same_variables
is_apart-requires-clause-same_variables c = ap length c.exponents-2.ensures.value ∙ c.requires.same_variables

pub returns-clause-yes : goal.returns-clause-yes
returns-clause-yes c = λ t. (same_apart c.args.normal.now c.exponents.result.now c.exponents-2.result.now c.args.x.now c.args.head.now c.exponents.ensures.value
    c.exponents-2.ensures.value).0 (c.is_apart.ensures.yes t)

pub returns-clause-no : goal.returns-clause-no
returns-clause-no c = λ f m. c.is_apart.ensures.no f ((same_apart c.args.normal.now c.exponents.result.now c.exponents-2.result.now c.args.x.now c.args.head.now
    c.exponents.ensures.value c.exponents-2.ensures.value).1 m)
