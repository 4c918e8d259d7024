use Rattle.std.proofs.Common.{sym, subst}
use Rattle.gf_tree.specs.Walks.{walk_at}
use Rattle.gf_tree.proofs.ListingLaws.{list_below}
use Rattle.gf_subtree.specs.Answers.{IsRowAnswer}
use Rattle.gfan_callers.specs.Lists.{HaveGiven}
use Rattle.gfan_callers.proofs.ListedLaws.{given_none, given_more, all_given}
use Rattle.gfan_callers.proofs.lists.listed_by_workers.Goals as goal

pub loop-all-init : goal.loop-all-init
loop-all-init g c =
    rw c.new-all.ensures.items (given_none (walk_at c.args.top c.args.region.now c.args.pairs) c.in_ok-waves.waves c.in_ok-waves.ensures.list)

pub loop-all-preserved : goal.loop-all-preserved
loop-all-preserved g c =
    let start = walk_at c.args.top c.args.region.now c.args.pairs in
    let new = c.next_written.new.self in
    subst (λ items. HaveGiven start items new) (sym c.in_ok-push.ensures.items)
    (given_more start c.loop-all.all.items c.loop-all.waves new c.in-Some.basis c.loop-all.invariant
    (subst (IsRowAnswer c.loop-all.waves new) c.in-Some.is c.in_ok-basis.ensures.ok))

pub returns-clause-below : goal.returns-clause-below
returns-clause-below g c =
    all_given c.args.top c.args.region.now c.args.pairs c.loop-all.all.items c.loop-all.waves c.next_written.new.self c.requires.basis
    c.loop-all.invariant (subst (IsRowAnswer c.loop-all.waves c.next_written.new.self) c.in_default.is c.in_ok-basis.ensures.ok)

pub returns-clause-all : goal.returns-clause-all
returns-clause-all g c = λ root.
    let end = subst (IsRowAnswer c.loop-all.waves c.next_written.new.self) c.in_default.is c.in_ok-basis.ensures.ok in
    list_below c.args.region.now c.args.top c.args.top c.args.pairs c.loop-all.all.items c.requires.basis root
    (all_given c.args.top c.args.region.now c.args.pairs c.loop-all.all.items c.loop-all.waves c.next_written.new.self c.requires.basis
    c.loop-all.invariant end)
