use Rattle.std.proofs.Common.{◌≡◌, ◌∙◌, length, sym, subst}
use Rattle.std.proofs.lemmas.List.{take_at}
use Rattle.std.specs.List.{All}
use Rattle.gfan_lists.specs.Ahead.{AreAhead, HasVariables}
use Rattle.gfan_lists.proofs.AheadLaws.{ahead_variables, ahead_worked}
use Rattle.gfan_lists.proofs.ahead.worked_ahead.Goals as goal

pub work_all-requires-clause-variables : goal.work_all-requires-clause-variables
work_all-requires-clause-variables g c κs within =
    let ring = c.args.ring.now in
    let k = c.args.region.now in
    let v = c.requires.variables in
    let ahead = c.take_ready.ensures.ahead c.args.certified ring k v.0 v.1 v.2 in
    subst (All (HasVariables (length ring))) (sym c.as_mut_slice.ensures.value)
    (ahead_variables c.args.certified ring k (length ring) v.0 c.take_ready.new.taken.items v.1 c.take_ready.new.waves v.3 ahead)

pub returns-clause-ahead : goal.returns-clause-ahead
returns-clause-ahead g c =
    let ring = c.args.ring.now in
    let k = c.args.region.now in
    let old = c.as_mut_slice.result.now in
    let new = c.work_all.new.taken in
    let left = c.take_ready.new.waves in
    let len : length new ≡ c.take_ready.new.taken.len = c.work_all.ensures.same_length ∙ c.as_mut_slice.ensures.len in
    let is : c.from_vec.result.items ≡ new = c.from_vec.ensures.items ∙ take_at new _ _ len in
    λ is_first row h.
    subst (λ xs. AreAhead c.args.certified ring k is_first xs row left) (sym is)
    (ahead_worked c.args.certified ring k is_first old new row left c.work_all.ensures
    (subst (λ xs. AreAhead c.args.certified ring k is_first xs row left) (sym c.as_mut_slice.ensures.value)
    (c.take_ready.ensures.ahead c.args.certified ring k is_first row h)))
