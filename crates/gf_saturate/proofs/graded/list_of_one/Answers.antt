use Rattle.std.proofs.Common.{sym, subst, ◌∙◌}
use Rattle.gf_poly.specs.Polynomial.{IsDescending}
use Rattle.gf_saturate.proofs.OneReached.{one_descends, one_kept, one_listed}
use Rattle.gf_saturate.proofs.graded.list_of_one.Goals as goal

pub from_descending-requires : goal.from_descending-requires
from_descending-requires c =
    subst IsDescending
    (sym (one_kept c.args.n _ _ _ _ c.new-terms.ensures.items c.in_ok-push.ensures.items c.constants-one.ensures.one c.one.ensures)) (one_descends c.args.n)

pub returns : goal.returns
returns c =
    one_listed c.args.n _ _ _ c.new-all.ensures.items c.in_ok-push-2.ensures.items
    (c.from_descending.ensures
    ∙ one_kept c.args.n _ _ _ _ c.new-terms.ensures.items c.in_ok-push.ensures.items c.constants-one.ensures.one c.one.ensures)
