use Rattle.std.proofs.Common.{sym, subst, ap, map, ◌∙◌}
use Rattle.gf_poly.specs.Polynomial.{IsDescending}
use Rattle.gf_saturate.specs.Widening.{widened_term}
use Rattle.gf_saturate.proofs.WideningLaws.{descending-widened}
use Rattle.gf_saturate.proofs.widening.widened_polynomial.Goals as goal

pub from_descending-requires : goal.from_descending-requires
from_descending-requires c =
    subst IsDescending (sym (c.in_ok-terms.ensures ∙ ap (map widened_term) c.terms.ensures.value))
    (descending-widened c.requires.0 c.args.f.now c.requires.1.1 c.terms.ensures.descending)
