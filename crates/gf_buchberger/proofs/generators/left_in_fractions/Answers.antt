use Rattle.std.proofs.Common.{sym, subst}
use Rattle.gf_division.specs.NormalForms.{HasSomeWeight}
use Rattle.gf_buchberger.specs.Generators.{IsLeftOfEntry}
use Rattle.gf_buchberger.specs.Runs.{State, IsAppendable}
use Rattle.gf_buchberger.proofs.generators.left_in_fractions.Goals as goal

pub left_in_wide_run-requires-clause-variables : goal.left_in_wide_run-requires-clause-variables
left_in_wide_run-requires-clause-variables c = subst (λ (s : State). IsAppendable c.args.order.now c.args.f.now s.members) (sym c.narrow_left.ensures.same)
    c.requires.variables

pub left_in_wide_run-requires-clause-marked : goal.left_in_wide_run-requires-clause-marked
left_in_wide_run-requires-clause-marked c = subst (λ (s : State). HasSomeWeight s.members) (sym c.narrow_left.ensures.same) c.requires.marked

pub returns-in-Some-clause-ok : goal.returns-in-Some-clause-ok
returns-in-Some-clause-ok c = subst (λ (s : State). IsLeftOfEntry c.args.order.now s c.args.f.now c.in-Some.left) c.narrow_left.ensures.same c.in-Some.ensures
