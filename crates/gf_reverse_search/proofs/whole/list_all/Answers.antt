use Rattle.std.proofs.Common.{[], subst, sym, refl, ◌∙◌}
use Rattle.std.proofs.lemmas.Result.{err_from_is_err_and}
use Rattle.gf_reverse_search.specs.Listing.{IsFirstOf, IsLeftAt}
use Rattle.gf_reverse_search.specs.Standing.{StandsBelow}
use Rattle.gf_reverse_search.specs.Walk.{Advances, IsRefusedBelow}
use Rattle.gf_reverse_search.specs.Whole.{IsWholeList}
use Rattle.gf_reverse_search.proofs.FinitenessLaws.{whole_below, no_loop-rank}
use Rattle.gf_reverse_search.proofs.RefusalLaws.{refused_below}
use Rattle.gf_reverse_search.proofs.GrowingLaws.{one_more, fewer, all_there}
use Rattle.gf_reverse_search.proofs.whole.list_all.Goals as goal

pub loop-all-init : goal.loop-all-init
loop-all-init g c = rw (c.at-walker.ensures, c.new-all.ensures.items) (record {
  tree = refl;
  at = ([], record { leads = refl; long = refl });
  rest = λ nodes w. (nodes, refl, w);
})

pub loop-all-smaller : goal.loop-all-smaller
loop-all-smaller g c =
    let n = g.met.T.FiniteTree.finite c.args.tree c.args.top c.requires in
    let r = c.loop-all.invariant.rest n.nodes n.leaves in
    let f = subst (IsFirstOf (IsLeftAt g.T.Tree.before g.T.Tree.up c.advance.new.self) r.0) c.in-Some.is (c.in_ok-node.ensures.list r.0 r.2) in
    fewer n.nodes c.loop-all.all.items r.0 f.0 c.push.new.self.items c.in-Some.node (g.T.FiniteTree.count c.args.tree c.args.top)
    r.1 f.1 c.in_default-push.ensures.items n.few

pub loop-all-preserved : goal.loop-all-preserved
loop-all-preserved g c =
    let i = c.loop-all.invariant in
    let w = c.loop-all.walker in
    let new = c.advance.new.self in
    let up = g.T.Tree.up in
    let step = subst (Advances g.T.Tree.before up w new) c.in-Some.is c.in_ok-node.ensures.first in
    let next = step c.args.top i.at.0 (subst (λ t. StandsBelow (up t) c.args.top i.at.0 w.here w.depth) (sym i.tree) i.at.1) in
    record {
      tree = c.in_ok-node.ensures.tree ∙ i.tree;
      at = (next.path, subst (λ t. StandsBelow (up t) c.args.top next.path new.here new.depth) i.tree next.at);
      rest = λ nodes w.
          let r = i.rest nodes w in
          let f = subst (IsFirstOf (IsLeftAt g.T.Tree.before g.T.Tree.up c.advance.new.self) r.0) c.in-Some.is (c.in_ok-node.ensures.list r.0 r.2) in
          (f.0, one_more nodes c.loop-all.all.items r.0 f.0 c.push.new.self.items c.in-Some.node r.1 f.1 c.in_default-push.ensures.items, f.2);
    }

-- the node of the refusal is above the walker, and not above the top
pub returns-in_err-node-clause-refused : goal.returns-in_err-node-clause-refused
returns-in_err-node-clause-refused g c =
    let i = c.loop-all.invariant in
    let w = c.loop-all.walker in
    let up = g.T.Tree.up in
    let refuses = g.T.Tree.refuses in
    let p = err_from_is_err_and c.from_residual.result c.from_residual.ensures.1 in
    let down = subst (λ t. StandsBelow (up t) c.args.top i.at.0 w.here w.depth) (sym i.tree) i.at.1 in
    let below = refused_below (up w.tree) (refuses w.tree) (g.met.T.Tree.tree w.tree) c.args.top w.here i.at.0 w.depth c.in_err-node.field-0.0 down.leads
    down.long c.in_err-node.ensures.refused in
    rw p.1 (subst (λ e. IsRefusedBelow (up c.args.tree) (refuses c.args.tree) c.args.top e) (sym p.2)
    (subst (λ t. IsRefusedBelow (up t) (refuses t) c.args.top c.in_err-node.field-0.0) i.tree below))

pub returns-clause-whole : goal.returns-clause-whole
returns-clause-whole g c =
    let lt = g.T.Tree.before in
    let up = g.T.Tree.up c.args.tree in
    let n = g.met.T.FiniteTree.finite c.args.tree c.args.top c.requires in
    let r = c.loop-all.invariant.rest n.nodes n.leaves in
    let f = subst (IsFirstOf (IsLeftAt g.T.Tree.before g.T.Tree.up c.advance.new.self) r.0) c.in_default.is (c.in_ok-node.ensures.list r.0 r.2) in
    subst (IsWholeList lt up c.args.top) (all_there n.nodes c.loop-all.all.items r.0 r.1 f.0)
    (whole_below lt up g.met.T.Tree.strict (g.met.T.Tree.tree c.args.tree) c.args.top (no_loop-rank up (g.T.FiniteTree.rank c.args.tree)
    (g.met.T.FiniteTree.falls c.args.tree) c.args.top) n.nodes n.leaves)
