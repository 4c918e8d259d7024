use Rattle.std.proofs.Common.{sym, subst, List}
use Rattle.std.specs.Prelude.{IfSome}
use Rattle.gf_poly.specs.Marking.{MarkedPolynomial}
use Rattle.gf_division.specs.NormalForms.{HasSomeWeight}
use Rattle.gf_buchberger.specs.Generators.{IsLeftByMembers}
use Rattle.gf_buchberger.specs.Runs.{IsAppendable}
use Rattle.gf_buchberger.proofs.generators.whole_left.Goals as goal

pub left_by_multiples-requires-clause-variables : goal.left_by_multiples-requires-clause-variables
left_by_multiples-requires-clause-variables c = subst (IsAppendable c.args.order.now c.args.f.now) (sym c.in-Some.ensures) c.requires.variables

pub left_by_multiples-requires-clause-marked : goal.left_by_multiples-requires-clause-marked
left_by_multiples-requires-clause-marked c = subst HasSomeWeight (sym c.in-Some.ensures) c.requires.marked

pub returns-in-Some : goal.returns-in-Some
returns-in-Some c =
    subst (λ (ms : List MarkedPolynomial). IfSome c.left_by_multiples.result (IsLeftByMembers c.args.order.now ms c.args.f.now)) c.in-Some.ensures
    c.left_by_multiples.ensures
