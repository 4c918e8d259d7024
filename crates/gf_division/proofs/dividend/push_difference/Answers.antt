use Rattle.std.proofs.Common.{sym}
use Rattle.gf_frac.proofs.FractionLaws.{Decides-fraction_eq}
use Rattle.gf_division.proofs.SubtractionLaws.{nothing_pushed}
use Rattle.gf_division.proofs.dividend.push_difference.Goals as goal

pub returns-then-eq-clause-ok : goal.returns-then-eq-clause-ok
returns-then-eq-clause-ok c = nothing_pushed c.args.above.now.items c.args.t c.args.coef.now ((Decides-fraction_eq c.args.t.coef _).0 (sym c.if-eq.ensures))
