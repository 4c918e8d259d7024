use Rattle.std.proofs.Common.{None, refl, subst}
use Rattle.gf_subtree.specs.Answers.{IsNextRow, IsRowAnswer}
use Rattle.gfan_lists.specs.declared.ahead.Taken.{Taken}
use Rattle.gfan_lists.proofs.AheadLaws.{one_ahead}
use Rattle.gfan_lists.proofs.ahead.given.Goals as goal

pub returns-in-Some-clause-ok : goal.returns-in-Some-clause-ok
returns-in-Some-clause-ok g c =
    let new = c.next_written.new.self in
    let step : IsNextRow c.args.waves.now new c.in-Some.basis = subst (λ o. IsRowAnswer c.args.waves.now new o) c.in-Some.is c.in_ok-basis.ensures.ok in
    let next : Taken = record { basis = c.in-Some.basis; is_first = c.args.is_first; piece = None } in
    λ certified ring k row kept. one_ahead certified ring k c.args.is_first row c.args.waves.now new next kept step refl tt
