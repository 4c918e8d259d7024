use Rattle.std.proofs.Common.{List, sym, subst}
use Rattle.std.proofs.lemmas.Option.{IfSome_then}
use Rattle.gf_poly.specs.Polynomial.{Terms}
use Rattle.gf_buchberger.specs.Tasks.{HaveRingVariables}
use Rattle.gf_saturate.specs.Saturating.{IsSaturation}
use Rattle.gf_saturate.proofs.InverseLaws.{start_answer}
use Rattle.gf_saturate.proofs.inverses.by_inverses.Goals as goal

pub by_units-requires-clause-variables : goal.by_units-requires-clause-variables
by_units-requires-clause-variables c = subst (HaveRingVariables c.args.n) (sym c.as_slice-list.ensures.value) c.in-Some.ensures.ring

pub returns : goal.returns
returns c =
    IfSome_then c.by_units.result c.by_units.ensures
    (λ s a. start_answer c.args.n c.args.set.now c.in-Some.polys.items s c.requires.variables c.in-Some.ensures
    (subst (λ (gs : List Terms). IsSaturation c.args.n gs s) c.as_slice-list.ensures.value a))
