use Rattle.std.proofs.Common.{List, sym, subst}
use Rattle.gf_poly.specs.Polynomial.{Terms}
use Rattle.gf_buchberger.specs.Tasks.{HaveRingVariables}
use Rattle.gf_saturate.specs.Proposals.{IsStart}
use Rattle.gf_saturate.proofs.ProposalLaws.{start_itself}
use Rattle.gf_saturate.proofs.InverseLaws.{start_twice}
use Rattle.gf_saturate.proofs.inverses.with_inverses.Goals as goal

pub variables-init : goal.variables-init
variables-init c = start_itself c.args.n c.args.set.now c.in-Ok.given.items c.requires.variables c.in-Ok.ensures

pub is_unit-requires-clause-variables : goal.is_unit-requires-clause-variables
is_unit-requires-clause-variables c = subst (HaveRingVariables c.args.n) (sym c.as_slice-list.ensures.value) c.variables.invariant.ring

pub with_inverse-requires-clause-variables : goal.with_inverse-requires-clause-variables
with_inverse-requires-clause-variables c = subst (HaveRingVariables c.args.n) (sym c.as_slice-list.ensures.value) c.variables.invariant.ring

pub is_unit-requires-in-variables-clause-variables : goal.is_unit-requires-in-variables-clause-variables
is_unit-requires-in-variables-clause-variables c = subst (HaveRingVariables c.args.n) (sym c.as_slice-longer.ensures.value) c.in-Some.ensures.ring

pub variables-preserved : goal.variables-preserved
variables-preserved c =
    start_twice c.args.n c.args.set.now c.variables.polys.items c.in-Some.more.items c.requires.variables c.variables.invariant
    (subst (λ (gs : List Terms). IsStart c.args.n gs c.in-Some.more.items) c.as_slice-list.ensures.value c.in-Some.ensures)
