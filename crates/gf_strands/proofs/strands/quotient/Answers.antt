use Rattle.std.proofs.Common.{◌≡◌, sym, ap, ◌∙◌}
use Rattle.gf_frac.specs.Fraction.{◌*ℚ◌, neg_ℚ, one_ℚ}
use Rattle.gf_frac.proofs.FractionLaws.{*ℚ-one, neg_ℚ-*ℚ, *ℚ-neg_ℚ, Decides-fraction_eq}
use Rattle.gf_strands.proofs.PointLaws.{quotient_is}
use Rattle.gf_strands.proofs.strands.quotient.Goals as goal

pub returns-then-eq : goal.returns-then-eq
returns-then-eq c =
    let e = (Decides-fraction_eq c.args.by.now _).0 (sym c.if-eq.ensures) in
    quotient_is c.args.a.now c.args.by.now c.args.a.now c.requires (ap (λ z. c.args.a.now *ℚ z) e ∙ *ℚ-one c.args.a.now)

pub returns-then-eq-2 : goal.returns-then-eq-2
returns-then-eq-2 c =
    let a = c.args.a.now in
    let b = c.args.by.now in
    let e : neg_ℚ b ≡ one_ℚ = sym c.neg.ensures ∙ (Decides-fraction_eq c.neg.result _).0 (sym c.if-eq-2.ensures) in
    quotient_is a b c.neg-then-eq-2.result c.requires (ap (λ z. z *ℚ b) c.neg-then-eq-2.ensures ∙ neg_ℚ-*ℚ a b ∙ sym (*ℚ-neg_ℚ a b) ∙ ap (λ z. a *ℚ z) e ∙
    *ℚ-one a)
