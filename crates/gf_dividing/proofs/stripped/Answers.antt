use Rattle.std.proofs.Common.{◌≡◌, ℕ, map, length, sym, subst, ap, ◌∙◌}
use Rattle.gf_frac.specs.Fraction.{one_ℚ}
use Rattle.gf_exponents_theory.specs.Exponents.{Exponents}
use Rattle.gf_poly.specs.Polynomial.{Terms, HasVariables, IsDescending, times}
use Rattle.gf_dividing.specs.Dividing.{DividesAll, IsGreatest, divided_term, IsStripped}
use Rattle.gf_dividing.proofs.DividingLaws.{divided_back, divided_variables, divided_descending}
use Rattle.gf_dividing.proofs.stripped.Goals as goal

made : (n : ℕ) (u : Exponents) (f g h : Terms) → length u ≡ n → g ≡ f → HasVariables n f → DividesAll u g → IsGreatest u g →
    h ≡ map (divided_term u) g → IsStripped n f (record { by = u; rest = h })
made n u f g h l e v a m is = record {
  long = l;
  all = subst (DividesAll u) e a;
  greatest = subst (IsGreatest u) e m;
  equal = ap (times one_ℚ u) (is ∙ ap (map (divided_term u)) e) ∙ divided_back n u f l v (subst (DividesAll u) e a);
  variables = subst (HasVariables n) (sym (is ∙ ap (map (divided_term u)) e)) (divided_variables n u f l v);
}

pub from_descending-requires : goal.from_descending-requires
from_descending-requires c =
    subst IsDescending (sym c.in_ok-divided.ensures)
    (divided_descending c.args.n c.common-by.result c.terms-terms.result.now c.common-by.ensures.long
    (subst (HasVariables c.args.n) (sym c.terms-terms.ensures.value) c.requires.variables) c.common-by.ensures.all
    (subst IsDescending (sym c.terms-terms.ensures.value) c.terms-terms.ensures.descending))

pub returns : goal.returns
returns c =
    made c.args.n c.common-by.result c.args.f.now c.terms-terms.result.now c.from_descending.result c.common-by.ensures.long c.terms-terms.ensures.value
    c.requires.variables c.common-by.ensures.all c.common-by.ensures.greatest (c.from_descending.ensures ∙ c.in_ok-divided.ensures)
