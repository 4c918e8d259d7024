use Rattle.std.proofs.Common.{sym, subst}
use Rattle.std.specs.Prelude.{List}
use Rattle.gf_poly.specs.Polynomial.{Terms, HasVariables}
use Rattle.gf_poly.specs.Marking.{MarkedPolynomial}
use Rattle.gf_division.specs.Remainders.{IsRemainder}
use Rattle.gf_division.proofs.NormalFormLaws.{some_weight, same_variables}
use Rattle.gf_reduced.proofs.CallLaws.{membership_told}
use Rattle.gf_reduced.proofs.membership.contains.Goals as goal

pub remainder-requires-clause-marked : goal.remainder-requires-clause-marked
remainder-requires-clause-marked c = some_weight c.args.basis.now.variables c.args.basis.now.items c.items-2.result.now c.items-2.ensures.value
    c.requires.basis.marked

pub remainder-requires-clause-variables : goal.remainder-requires-clause-variables
remainder-requires-clause-variables c = same_variables c.args.basis.now.variables c.args.f.now c.in_ok-copy.field-0 c.args.basis.now.items c.items-2.result.now
    c.in_ok-copy.ensures c.items-2.ensures.value c.requires.variables c.items.ensures.variables

pub returns-clause-ok : goal.returns-clause-ok
returns-clause-ok c =
    let h = subst (λ (bs : List MarkedPolynomial). IsRemainder bs c.args.f.now c.in_ok-rest.rest) c.items-2.ensures.value
    (subst (λ (g : Terms). IsRemainder c.items-2.result.now g c.in_ok-rest.rest) c.in_ok-copy.ensures c.in_ok-rest.ensures.value) in
    let u = c.in_ok-rest.ensures.variables.at c.args.basis.now.variables (subst (HasVariables c.args.basis.now.variables) (sym c.in_ok-copy.ensures)
    c.requires.variables) in
    membership_told c.args.basis.now.variables c.args.basis.now.items c.args.f.now c.in_ok-rest.rest c.is_zero.result c.items.ensures.variables
    c.requires.variables c.requires.basis h c.in_ok-rest.ensures.descending u c.is_zero.ensures
