use Rattle.std.proofs.Common.{arith, sym, ap, ◌∙◌, length}
use Rattle.gf_frac.proofs.FractionLaws.{Decides-fraction_eq}
use Rattle.gf_poly.specs.Polynomial.{Terms}
use Rattle.gf_division.proofs.ChainLaws.{pair_at}
use Rattle.gf_division.proofs.chains.other_of.Goals as goal

pub returns-then-is_unit : goal.returns-then-is_unit
returns-then-is_unit c = pair_at c.args.member.now c.terms-terms.result.now c.index-i.result c.index-terms-i.result c.index-terms-i-2.result
    (c.terms-terms.ensures.value ∙ c.poly.ensures) (omega arith) c.index-i.ensures.head
    (omega (arith, c.index-i.ensures.inside, ap (λ (f : Terms). length f) (c.terms-terms.ensures.value ∙ c.poly.ensures))) c.index-terms-i.is
    c.index-terms-i-2.is ((Decides-fraction_eq c.index-terms-i.result.coef _).0 (sym c.if-eq.ensures)) (c.is_unit.ensures c.if-is_unit.true)
