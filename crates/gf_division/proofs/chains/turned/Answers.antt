use Rattle.std.proofs.Common.{sym}
use Rattle.gf_frac.proofs.FractionLaws.{Decides-fraction_eq}
use Rattle.gf_division.proofs.ChainLaws.{turned_at_one, turned_else}
use Rattle.gf_division.proofs.chains.turned.Goals as goal

pub returns-then-eq : goal.returns-then-eq
returns-then-eq c = turned_at_one c.args.other.now c.args.coef.now c.turned_by_one.result c.args.steps
    ((Decides-fraction_eq c.args.other.now _).0 (sym c.if-eq.ensures)) c.turned_by_one.ensures

pub returns : goal.returns
returns c = turned_else c.args.other.now c.args.coef.now c.args.steps c.requires (λ e. absurd (let q = (Decides-fraction_eq c.args.other.now _).1 e in cc))
