use Rattle.std.proofs.Common.{subst, sym, rules}
use Rattle.gf_reverse_search.specs.Tree.{RisesBy, HasLabels, IsChildOf}
use Rattle.gf_reverse_search.proofs.ChildLaws.{least_at}
use Rattle.gf_reverse_search.proofs.search.next_child.Goals as goal

pub returns-in-Some-clause-ok : goal.returns-in-Some-clause-ok
returns-in-Some-clause-ok g c =
    let e = sym c.deref-label-items.ensures.value in
    least_at g.T.Tree.before (g.T.Tree.up c.args.tree.now) c.args.node.now c.in-Some.child c.args.mark.now c.deref-label-items.result.now
    c.loop-label.label-index c.label-item.result
    (subst (RisesBy g.T.Tree.before) e c.in_ok-labels.ensures.rises) (subst (HasLabels (g.T.Tree.up c.args.tree.now) c.args.node.now)
    e c.in_ok-labels.ensures.all)
    (sym c.label-item.is) c.loop-label.invariant
    (subst (IsChildOf (g.T.Tree.up c.args.tree.now) c.args.node.now c.label-item.result) c.in-Some.is c.in_ok-child.ensures.ok)
    (search rules)
