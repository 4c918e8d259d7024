use Rattle.std.proofs.Common.{sym, ◌∙◌, inl, inr}
use Rattle.gf_frac.proofs.FractionLaws.{Decides-fraction_eq}
use Rattle.gf_division.proofs.chains.is_unit.Goals as goal

pub returns-then-eq : goal.returns-then-eq
returns-then-eq c = λ t. inl ((Decides-fraction_eq c.args.a.now _).0 (sym c.if-eq.ensures))

pub returns-else-eq : goal.returns-else-eq
returns-else-eq c = λ t. inr ((Decides-fraction_eq c.args.a.now _).0 (sym c.eq-else-eq.ensures ∙ t) ∙ c.neg.ensures)
