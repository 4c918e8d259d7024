use Rattle.std.proofs.Common.{◌≡◌, ◌-◌, ◌∙◌, [], sym, arith, get_or}
use Rattle.std.proofs.lemmas.List.{get_or_default}
use Rattle.gf_rays.proofs.facets.is_repeated.Goals as goal

pub returns-clause-yes : goal.returns-clause-yes
returns-clause-yes c = λ t. (
  omega (arith, c.if-i-eq0.false),
  sym (c.index-rows-i.is ∙ get_or_default c.args.rows.now c.args.i c.index-rows-i.result [] c.requires) ∙ c.is_same.ensures.0 t
      ∙ c.index-rows-i-2.is ∙ get_or_default c.args.rows.now (c.args.i - 1) c.index-rows-i-2.result [] (omega (arith, c.requires)),
)

pub returns-clause-no : goal.returns-clause-no
returns-clause-no c = λ p g. c.is_same.ensures.1 (c.index-rows-i.is ∙ get_or_default c.args.rows.now c.args.i c.index-rows-i.result [] c.requires ∙ g
    ∙ sym (c.index-rows-i-2.is ∙ get_or_default c.args.rows.now (c.args.i - 1) c.index-rows-i-2.result [] (omega (arith, c.requires))))
