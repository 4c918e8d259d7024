use Rattle.std.proofs.Common.{◌≡◌, false, None, [], ◌∷◌, ◌++◌, refl, sym, subst, ◌∙◌, rules}
use Rattle.gf_subtree.specs.Answers.{IsNextRow, IsRowAnswer, IsRowEnd}
use Rattle.gfan_lists.specs.declared.ahead.Taken.{Taken}
use Rattle.gfan_lists.specs.Ahead.{AreAhead}
use Rattle.gfan_lists.proofs.AheadLaws.{end_kept, ahead_push, ahead_left}
use Rattle.gfan_lists.proofs.ahead.take_ready.Goals as goal

pub returns-in-Ok-None-clause-ahead : goal.returns-in-Ok-None-clause-ahead
returns-in-Ok-None-clause-ahead g c =
    let new = c.next_written.new.self in
    let end : IsRowEnd c.ready.waves new = subst (λ o. IsRowAnswer c.ready.waves new o) c.in-Ok-None.field-0-is c.in-Ok-None.ensures.ok in
    λ certified ring k is_first row h.
    ahead_left certified ring k is_first c.ready.taken.items row c.ready.waves new (end_kept c.ready.waves new end)
    (c.ready.invariant.ahead certified ring k is_first row h)

pub returns-in-Err-clause-ahead : goal.returns-in-Err-clause-ahead
returns-in-Err-clause-ahead g c = λ certified ring k is_first row h.
    ahead_left certified ring k is_first c.ready.taken.items row c.ready.waves c.next_written.new.self c.in-Err.ensures.unchanged
    (c.ready.invariant.ahead certified ring k is_first row h)

pub ready-preserved : goal.ready-preserved
ready-preserved g c =
    let new = c.next_written.new.self in
    let step : IsNextRow c.ready.waves new c.in-Ok-Some.basis = subst
    (λ o. IsRowAnswer c.ready.waves new o) c.in-Ok-Some.field-0-is c.in-Ok-Some.ensures.ok in
    let next : Taken = record { basis = c.in-Ok-Some.basis; is_first = false; piece = None } in
    let is : c.push.new.self.items ≡ c.ready.taken.items ++ next ∷ [] = search rules in
    record {
      some = search rules;
      workers = step.same.workers ∙ c.ready.invariant.workers;
      ahead = λ certified ring k is_first row h.
          subst (λ xs. AreAhead certified ring k is_first xs row new) (sym is)
          (ahead_push certified ring k is_first c.ready.taken.items row c.ready.waves new next c.ready.invariant.some
          (c.ready.invariant.ahead certified ring k is_first row h) step refl tt);
    }
