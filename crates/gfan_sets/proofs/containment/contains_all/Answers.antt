use Rattle.std.proofs.lemmas.Result.{err_from_is_err_and}
use Rattle.gf_poly.specs.Marking.{polys}
use Rattle.gfan_sets.proofs.ContainmentLaws.{members_next, not_member, all_members, in_next, some_refused}
use Rattle.gfan_sets.proofs.containment.contains_all.Goals as goal

pub contains_one-requires-clause-variables : goal.contains_one-requires-clause-variables
contains_one-requires-clause-variables c = in_next c.args.basis.now.variables c.args.set.now c.polynomials.i c.index-set-i.result c.requires.variables
    c.polynomials-test.true c.index-set-i.is

pub returns-in_err-is_member-clause-cause : goal.returns-in_err-is_member-clause-cause
returns-in_err-is_member-clause-cause c =
    let p = err_from_is_err_and c.from_residual.result c.from_residual.ensures.1 in
    rw (p.1, p.2) (some_refused c.args.basis.now.items c.args.set.now c.polynomials.i c.index-set-i.result c.in_err-is_member.field-0.0 c.polynomials-test.true
    c.index-set-i.is c.in_err-is_member.ensures.cause)

pub returns-then-not-is_member-clause-ok : goal.returns-then-not-is_member-clause-ok
returns-then-not-is_member-clause-ok c =
    not_member c.args.basis.now.variables (polys c.args.basis.now.items) c.args.set.now c.polynomials.i c.index-set-i.result c.in_ok-is_member.is_member
    c.polynomials-test.true c.index-set-i.is c.if-not-is_member.true c.in_ok-is_member.ensures.ok

pub polynomials-preserved : goal.polynomials-preserved
polynomials-preserved c =
    members_next c.args.basis.now.variables (polys c.args.basis.now.items) c.args.set.now c.polynomials.i c.index-set-i.result c.polynomials-test.true
    c.index-set-i.is c.polynomials.invariant (c.in_ok-is_member.ensures.ok.0 c.if-not-is_member.false)

pub returns-clause-ok : goal.returns-clause-ok
returns-clause-ok c = all_members c.args.basis.now.variables (polys c.args.basis.now.items) c.args.set.now c.polynomials.i c.polynomials-test.false
    c.polynomials.invariant
