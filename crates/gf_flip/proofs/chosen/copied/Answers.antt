use Rattle.std.proofs.Common.{◌<◌, [], ◌∷◌, ◌++◌, length, sym, ap, subst, ◌∙◌}
use Rattle.gf_poly.specs.declared.Term.{Term}
use Rattle.gf_poly.specs.Polynomial.{Terms, IsDescending}
use Rattle.gf_flip.proofs.ChosenLaws.{descending_one}
use Rattle.gf_flip.proofs.chosen.copied.Goals as goal

pub from_descending-requires : goal.from_descending-requires
from_descending-requires c =
    subst IsDescending (sym (c.in-Ok-push.ensures.items ∙ ap (λ (z : Terms). z ++ c.copy.result ∷ []) c.in-Ok.ensures))
    (subst (λ (t : Term). IsDescending (t ∷ [])) (sym c.copy.ensures)
    (descending_one c.terms-terms.result.now c.index.result c.index-terms-index.result (subst IsDescending (sym c.terms-terms.ensures.value)
    c.terms-terms.ensures.descending) (subst (λ (z : Terms). c.index.result < length z)
    (sym (c.terms-terms.ensures.value ∙ c.poly.ensures)) c.index.ensures.inside) c.index-terms-index.is))
