use Rattle.std.proofs.Common.{sym, ap, ◌∙◌}
use Rattle.gf_frac.specs.Fraction.{◌*ℚ◌}
use Rattle.gf_frac.proofs.FractionLaws.{one-*ℚ, *ℚ-one, Decides-fraction_eq}
use Rattle.gf_strands.proofs.strands.product.Goals as goal

pub returns-then-eq : goal.returns-then-eq
returns-then-eq c = let e = (Decides-fraction_eq c.args.a.now _).0 (sym c.if-eq.ensures) in sym (ap (λ z. z *ℚ c.args.b.now) e ∙ one-*ℚ c.args.b.now)

pub returns-then-eq-2 : goal.returns-then-eq-2
returns-then-eq-2 c = let e = (Decides-fraction_eq c.args.b.now _).0 (sym c.if-eq-2.ensures) in sym (ap (λ z. c.args.a.now *ℚ z) e ∙ *ℚ-one c.args.a.now)
