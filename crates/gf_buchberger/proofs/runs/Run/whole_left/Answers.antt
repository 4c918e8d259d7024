use Rattle.std.proofs.Common.{◌<◌, length, sym, subst, List}
use Rattle.std.specs.Prelude.{IfSome}
use Rattle.gf_poly.specs.Marking.{MarkedPolynomial}
use Rattle.gf_buchberger.specs.Runs.{AreReducers, IsLeftOfMembers}
use Rattle.gf_buchberger.proofs.runs.Run.whole_left.Goals as goal

pub left_by_multiples-requires-clause-first : goal.left_by_multiples-requires-clause-first
left_by_multiples-requires-clause-first c = subst (λ (ms : List MarkedPolynomial). c.args.i < length ms) (sym c.in-Some.ensures) c.requires.first

pub left_by_multiples-requires-clause-second : goal.left_by_multiples-requires-clause-second
left_by_multiples-requires-clause-second c = subst (λ (ms : List MarkedPolynomial). c.args.j < length ms) (sym c.in-Some.ensures) c.requires.second

pub left_by_multiples-requires-clause-reducers : goal.left_by_multiples-requires-clause-reducers
left_by_multiples-requires-clause-reducers c = subst (AreReducers c.args.order.now) (sym c.in-Some.ensures) c.requires.reducers

pub returns-in-Some : goal.returns-in-Some
returns-in-Some c =
    subst (λ (ms : List MarkedPolynomial). IfSome c.left_by_multiples.result (IsLeftOfMembers c.args.order.now ms c.args.i c.args.j)) c.in-Some.ensures
    c.left_by_multiples.ensures
