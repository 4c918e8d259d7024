use Rattle.std.proofs.Common.{sym, subst, ◌∙◌}
use Rattle.gf_poly.specs.Polynomial.{IsDescending}
use Rattle.gf_saturate.proofs.UnitLaws.{variable_descends, variable_kept}
use Rattle.gf_saturate.proofs.units.variable_polynomial.Goals as goal

pub from_descending-requires : goal.from_descending-requires
from_descending-requires c =
    subst IsDescending
    (sym (variable_kept c.args.n c.args.k _ _ _ _ c.new-terms.ensures.items c.in_ok-push.ensures.items c.constants-one.ensures.one c.variable.ensures))
    (variable_descends c.args.n c.args.k)

pub returns : goal.returns
returns c =
    c.from_descending.ensures
    ∙ variable_kept c.args.n c.args.k _ _ _ _ c.new-terms.ensures.items c.in_ok-push.ensures.items c.constants-one.ensures.one c.variable.ensures
