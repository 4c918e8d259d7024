use Rattle.std.proofs.lemmas.Option.{IfSome_then}
use Rattle.gf_saturate.proofs.GradedLaws.{to_divide}
use Rattle.gf_saturate.proofs.graded.divided_step.Goals as goal

pub divided_members-requires-clause-members : goal.divided_members-requires-clause-members
divided_members-requires-clause-members c = to_divide c.args.n c.args.set.now c.in-Some.found c.in-Some.ensures

pub returns-in-Ok : goal.returns-in-Ok
returns-in-Ok c = IfSome_then c.in-Ok.all c.in-Ok.ensures (λ all d. record { basis = c.in-Some.found; weighted = c.in-Some.ensures; divided = d })
