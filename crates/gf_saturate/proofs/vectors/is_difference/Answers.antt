use Rattle.std.proofs.Common.{sym, ap, ◌∙◌}
use Rattle.gf_frac.specs.Fraction.{neg_ℚ}
use Rattle.gf_frac.proofs.FractionLaws.{Decides-fraction_eq}
use Rattle.gf_saturate.proofs.vectors.is_difference.Goals as goal

pub returns-then-eq : goal.returns-then-eq
returns-then-eq c = λ yes. (
  (Decides-fraction_eq _ _).0 (sym c.eq.ensures ∙ c.if-eq.true) ∙ c.constants-one.ensures.one,
  (Decides-fraction_eq _ _).0 (sym c.eq-then-eq.ensures ∙ yes) ∙ c.neg.ensures ∙ ap neg_ℚ c.constants-one.ensures.one,
)
