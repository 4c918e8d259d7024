use Rattle.std.proofs.Common.{sym, ◌∙◌}
use Rattle.gf_strands.proofs.FormLaws.{cover_found, cover_missed}
use Rattle.gf_strands.proofs.forms.is_covered.Goals as goal

pub returns-clause-yes : goal.returns-clause-yes
returns-clause-yes c = λ t. cover_found c.args.marks.now c.args.x.now c.monomial_below.result c.monomial_below.ensures.found (sym c.is_some.ensures ∙ t)

pub returns-clause-no : goal.returns-clause-no
returns-clause-no c = λ t. cover_missed c.args.marks.now c.args.x.now c.monomial_below.result c.monomial_below.ensures.none (sym c.is_some.ensures ∙ t)
