use Rattle.std.proofs.Common.{List, ℤ, IfErr, sym, subst}
use Rattle.gf_lifts.specs.Crossings.{IsCrossing}
use Rattle.gf_flip.specs.Operations.{IsFlipRefusal, IsFlipWithinLimits}
use Rattle.gf_back.proofs.BackLaws.{crosses_back, if_back}
use Rattle.gf_back.proofs.back.flip_back.Goals as goal

pub flip-requires : goal.flip-requires
flip-requires c = subst (IsCrossing c.args.set.now.variables c.args.set.now.items) (sym c.in-Ok.ensures)
    (crosses_back c.args.set.now.variables c.requires.0 c.args.normal.now c.args.set.now.items c.requires.1)

pub returns-clause-value : goal.returns-clause-value
returns-clause-value c = if_back c.args.set.now.variables c.args.normal.now c.in-Ok.back c.args.set.now.items c.flip.result c.in-Ok.ensures c.flip.ensures.value

pub returns-clause-cause : goal.returns-clause-cause
returns-clause-cause c = subst (λ (z : List ℤ). IfErr c.flip.result (IsFlipRefusal c.args.set.now.variables c.args.set.now.items z c.args.pairs))
    c.in-Ok.ensures c.flip.ensures.cause

pub returns-clause-complete : goal.returns-clause-complete
returns-clause-complete c = λ w. c.flip.ensures.complete (subst (λ (z : List ℤ). IsFlipWithinLimits c.args.set.now.variables c.args.set.now.items z
    c.args.pairs) (sym c.in-Ok.ensures) w)
