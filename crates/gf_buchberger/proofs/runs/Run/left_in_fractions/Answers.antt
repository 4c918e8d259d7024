use Rattle.std.proofs.Common.{◌<◌, length, sym, subst}
use Rattle.gf_buchberger.specs.Runs.{State, AreReducers, IsLeftOfPair}
use Rattle.gf_buchberger.proofs.runs.Run.left_in_fractions.Goals as goal

pub left_in_wide_run-requires-clause-first : goal.left_in_wide_run-requires-clause-first
left_in_wide_run-requires-clause-first c = subst (λ (s : State). c.args.i < length s.members) (sym c.narrow_left.ensures.same) c.requires.first

pub left_in_wide_run-requires-clause-second : goal.left_in_wide_run-requires-clause-second
left_in_wide_run-requires-clause-second c = subst (λ (s : State). c.args.j < length s.members) (sym c.narrow_left.ensures.same) c.requires.second

pub left_in_wide_run-requires-clause-reducers : goal.left_in_wide_run-requires-clause-reducers
left_in_wide_run-requires-clause-reducers c = subst (λ (s : State). AreReducers c.args.order.now s.members) (sym c.narrow_left.ensures.same) c.requires.reducers

pub returns-in-Some-clause-ok : goal.returns-in-Some-clause-ok
returns-in-Some-clause-ok c = subst (λ (s : State). IsLeftOfPair c.args.order.now s c.args.i c.args.j c.in-Some.left)
    c.narrow_left.ensures.same c.in-Some.ensures
