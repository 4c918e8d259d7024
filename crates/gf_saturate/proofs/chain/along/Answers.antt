use Rattle.std.proofs.Common.{List, arith, sym, subst}
use Rattle.gf_poly.specs.Polynomial.{Terms}
use Rattle.gf_exponents_theory.specs.Exponents.{Exponents}
use Rattle.gf_buchberger.specs.Tasks.{HaveRingVariables}
use Rattle.gf_saturate.specs.Chains.{AreSaturated, IsChainIndex}
use Rattle.gf_saturate.proofs.ChainLaws.{chain_taken, chain_ended}
use Rattle.gf_saturate.proofs.chain.along.Goals as goal

pub variables-init : goal.variables-init
variables-init c =
    subst (λ (gs : List Terms). IsChainIndex c.args.n c.args.set.now gs c.copy-rest.result) (sym c.in-Ok.ensures)
    (subst (λ (v : Exponents). IsChainIndex c.args.n c.args.set.now c.args.set.now v) (sym c.copy-rest.ensures) c.requires.index)

pub next_index-requires-clause-long : goal.next_index-requires-clause-long
next_index-requires-clause-long c = c.variables.invariant.long

pub eliminated-requires-clause-variables : goal.eliminated-requires-clause-variables
eliminated-requires-clause-variables c = subst (HaveRingVariables c.args.n) (sym c.deref.ensures.value) c.variables.invariant.ring

pub taken-rest-requires-clause-long : goal.taken-rest-requires-clause-long
taken-rest-requires-clause-long c = c.variables.invariant.long

pub variables-preserved : goal.variables-preserved
variables-preserved c =
    chain_taken c.args.n c.in-Some.k c.args.set.now c.variables.polys.items c.in-Some-eliminated.next.items c.variables.rest c.taken-rest.result
    c.in-Some.ensures c.requires.variables c.variables.invariant
    (subst (λ (gs : List Terms). AreSaturated c.args.n c.in-Some.k gs c.in-Some-eliminated.next.items) c.deref.ensures.value c.in-Some-eliminated.ensures)
    c.taken-rest.ensures.long c.taken-rest.ensures.taken

pub returns-clause-ok : goal.returns-clause-ok
returns-clause-ok c =
    chain_ended c.args.n c.args.set.now c.variables.polys.items c.variables.rest c.variables.invariant
    (omega (arith, c.degree.ensures, c.if-degree-ne0.false))
