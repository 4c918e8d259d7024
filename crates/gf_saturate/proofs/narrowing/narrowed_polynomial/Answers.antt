use Rattle.std.proofs.Common.{sym, subst, ap, map, ◌∙◌}
use Rattle.gf_poly.specs.Polynomial.{IsDescending}
use Rattle.gf_saturate.specs.Widening.{narrowed_term}
use Rattle.gf_saturate.proofs.WideningLaws.{descending-narrowed, variables-narrowed}
use Rattle.gf_saturate.proofs.narrowing.narrowed_polynomial.Goals as goal

pub from_descending-requires : goal.from_descending-requires
from_descending-requires c =
    subst IsDescending (sym (c.in_ok-terms.ensures ∙ ap (map (narrowed_term c.args.n)) c.terms.ensures.value))
    (descending-narrowed c.args.n (map (narrowed_term c.args.n) c.args.f.now) (variables-narrowed c.args.n c.args.f.now c.requires.variables)
    (subst IsDescending (sym c.requires.free) c.terms.ensures.descending))
