use Rattle.std.proofs.Common.{◌≡◌, ◌<◌, [], ◌∷◌, sym, subst, rules}
use Rattle.gf_subtree.specs.Rows.{Row}
use Rattle.gf_subtree.specs.Answers.{IsRowKept}
use Rattle.gfan_lists.specs.Ahead.{AreAhead, IsNextTaken}
use Rattle.gfan_lists.proofs.AheadLaws.{kept_here, popped_ahead, popped_fewer}
use Rattle.gfan_lists.proofs.ahead.next_taken.Goals as goal

pub returns-in_default-2-clause-ok : goal.returns-in_default-2-clause-ok
returns-in_default-2-clause-ok g c =
    let certified = c.args.certified in
    let ring = c.args.ring.now in
    let k = c.args.region.now in
    let first = c.args.is_first in
    let old = c.args.waves.now in
    let new = c.given.new.waves in
    let gone : c.args.ahead.now.items ≡ [] = search rules in
    let kept : (row : Row) → AreAhead certified ring k first c.args.ahead.now.items row old → IsRowKept row old =
    (λ row h. subst (λ xs. AreAhead certified ring k first xs row old) gone h) in
    λ row h. subst (λ o. IsNextTaken certified ring k first row old o [] new) c.in_default-2.is (c.in_ok-taken.ensures.ok certified ring k row (kept row h))

pub returns-then-not-certified-clause-ok : goal.returns-then-not-certified-clause-ok
returns-then-not-certified-clause-ok g c =
    let certified = c.args.certified in
    let ring = c.args.ring.now in
    let k = c.args.region.now in
    let first = c.args.is_first in
    let old = c.args.waves.now in
    let new = c.given.new.waves in
    let gone : c.args.ahead.now.items ≡ [] = search rules in
    let kept : (row : Row) → AreAhead certified ring k first c.args.ahead.now.items row old → IsRowKept row old =
    (λ row h. subst (λ xs. AreAhead certified ring k first xs row old) gone h) in
    let one : (row : Row) → IsRowKept row old → AreAhead certified ring k first (c.in-Some-2.taken ∷ []) row new =
    (λ row is_kept. subst (λ o. IsNextTaken certified ring k first row old o [] new) c.in-Some-2.is (c.in_ok-taken.ensures.ok certified ring k row is_kept)) in
    let left : c.pop_front.new.self.items ≡ [] = search rules in
    λ row h. subst (λ xs. AreAhead certified ring k first (c.in-Some-2.taken ∷ xs) row new) (sym left) (one row (kept row h))

pub worked_ahead-requires-clause-variables : goal.worked_ahead-requires-clause-variables
worked_ahead-requires-clause-variables g c κs within =
    let certified = c.args.certified in
    let ring = c.args.ring.now in
    let k = c.args.region.now in
    let first = c.args.is_first in
    let old = c.args.waves.now in
    let new = c.given.new.waves in
    let one : (row : Row) → IsRowKept row old → AreAhead certified ring k first (c.in-Some-2.taken ∷ []) row new =
    (λ row is_kept. subst (λ o. IsNextTaken certified ring k first row old o [] new) c.in-Some-2.is (c.in_ok-taken.ensures.ok certified ring k row is_kept)) in
    (first, old, subst (λ xs. AreAhead certified ring k first xs old new) (sym c.in-Ok.ensures.ok) (one old (kept_here old)), c.requires.variables)

pub returns-in-Ok-clause-ok : goal.returns-in-Ok-clause-ok
returns-in-Ok-clause-ok g c =
    let certified = c.args.certified in
    let ring = c.args.ring.now in
    let k = c.args.region.now in
    let first = c.args.is_first in
    let old = c.args.waves.now in
    let new = c.given.new.waves in
    let gone : c.args.ahead.now.items ≡ [] = search rules in
    let kept : (row : Row) → AreAhead certified ring k first c.args.ahead.now.items row old → IsRowKept row old =
    (λ row h. subst (λ xs. AreAhead certified ring k first xs row old) gone h) in
    let one : (row : Row) → IsRowKept row old → AreAhead certified ring k first (c.in-Some-2.taken ∷ []) row new =
    (λ row is_kept. subst (λ o. IsNextTaken certified ring k first row old o [] new) c.in-Some-2.is (c.in_ok-taken.ensures.ok certified ring k row is_kept)) in
    let all = c.worked_ahead.result.items in
    let popped = c.pop_front-in-Ok.result in
    let rest = c.pop_front-in-Ok.new.self.items in
    let left = c.worked_ahead.new.waves in
    let some : 0 < c.worked_ahead.result.len = search rules in
    λ row h. popped_ahead certified ring k first all popped rest row old left _ _ some c.pop_front-in-Ok.ensures.cases c.pop_front-in-Ok.ensures.items
    (c.worked_ahead.ensures.ahead first row
    (subst (λ xs. AreAhead certified ring k first xs row new) (sym c.in-Ok.ensures.ok) (one row (kept row h))))

pub returns-in-Ok-clause-fewer : goal.returns-in-Ok-clause-fewer
returns-in-Ok-clause-fewer g c =
    let certified = c.args.certified in
    let ring = c.args.ring.now in
    let k = c.args.region.now in
    let first = c.args.is_first in
    let old = c.args.waves.now in
    let new = c.given.new.waves in
    let one : (row : Row) → IsRowKept row old → AreAhead certified ring k first (c.in-Some-2.taken ∷ []) row new =
    (λ row is_kept. subst (λ o. IsNextTaken certified ring k first row old o [] new) c.in-Some-2.is (c.in_ok-taken.ensures.ok certified ring k row is_kept)) in
    let all = c.worked_ahead.result.items in
    let popped = c.pop_front-in-Ok.result in
    let rest = c.pop_front-in-Ok.new.self.items in
    let left = c.worked_ahead.new.waves in
    popped_fewer certified ring k first all popped rest old left _ c.pop_front-in-Ok.ensures.items (c.worked_ahead.ensures.ahead first old
    (subst (λ xs. AreAhead certified ring k first xs old new) (sym c.in-Ok.ensures.ok) (one old (kept_here old))))

pub returns-in-Err-clause-ok : goal.returns-in-Err-clause-ok
returns-in-Err-clause-ok g c =
    let certified = c.args.certified in
    let ring = c.args.ring.now in
    let k = c.args.region.now in
    let first = c.args.is_first in
    let old = c.args.waves.now in
    let new = c.given.new.waves in
    let gone : c.args.ahead.now.items ≡ [] = search rules in
    let kept : (row : Row) → AreAhead certified ring k first c.args.ahead.now.items row old → IsRowKept row old =
    (λ row h. subst (λ xs. AreAhead certified ring k first xs row old) gone h) in
    let one : (row : Row) → IsRowKept row old → AreAhead certified ring k first (c.in-Some-2.taken ∷ []) row new =
    (λ row is_kept. subst (λ o. IsNextTaken certified ring k first row old o [] new) c.in-Some-2.is (c.in_ok-taken.ensures.ok certified ring k row is_kept)) in
    let left : c.pop_front.new.self.items ≡ [] = search rules in
    λ row h. subst (λ xs. AreAhead certified ring k first (c.in-Err.taken ∷ xs) row new) (sym left)
    (subst (λ t. AreAhead certified ring k first (t ∷ []) row new) (sym c.in-Err.ensures.err) (one row (kept row h)))
