use Rattle.std.proofs.Common.{sym, ap, ◌∙◌}
use Rattle.gf_frac.specs.Fraction.{◌-ℚ◌}
use Rattle.gf_frac.proofs.FractionLaws.{+ℚ-neg_ℚ, Decides-fraction_eq}
use Rattle.gf_division.proofs.table.difference.Goals as goal

pub returns-then-eq-clause-value : goal.returns-then-eq-clause-value
returns-then-eq-clause-value c = let e = (Decides-fraction_eq c.args.a.now _).0 (sym c.if-eq.ensures) in
    sym (ap (λ z. z -ℚ c.args.b.now) e ∙ +ℚ-neg_ℚ c.args.b.now)
