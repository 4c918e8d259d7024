use Rattle.std.proofs.Common.{sym, subst}
use Rattle.gf_poly.specs.Marking.{MarkedPolynomials}
use Rattle.gf_ideal_theory.specs.Marks.{IsRealisable}
use Rattle.gf_lifts.proofs.LiftsInTurnLaws.{reduced_as}
use Rattle.gf_lifts.proofs.wide.autoreduced.Goals as goal

pub autoreduce-requires : goal.autoreduce-requires
autoreduce-requires c = subst (λ (z : MarkedPolynomials). IsRealisable z.variables z.items) (sym c.new-set.ensures) c.requires.realisable

pub returns-in-Ok : goal.returns-in-Ok
returns-in-Ok c = reduced_as c.args.n c.args.members.items c.new-set.result c.in-Ok.basis c.new-set.ensures c.in-Ok.ensures.value c.in-Ok.ensures.arranged
    c.in-Ok.ensures.marked c.in-Ok.ensures.reduced
