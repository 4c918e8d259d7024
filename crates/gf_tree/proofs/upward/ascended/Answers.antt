use Rattle.std.proofs.Common.{[], ◌∷◌, refl, sym, subst}
use Rattle.std.proofs.lemmas.Result.{err_from_is_err_and}
use Rattle.gf_facets_theory.specs.Rows.{negated}
use Rattle.gf_reverse_theory.specs.Answers.{IsWayAnswer}
use Rattle.gf_reverse_theory.proofs.TreeLaws.{upward_nodes, upward_falls}
use Rattle.gf_tree.specs.Parents.{IsRootFor}
use Rattle.gf_tree.specs.Refusals.{IsWayRefused}
use Rattle.gf_tree.proofs.ParentLaws.{parent_across, top_here, root_for}
use Rattle.gf_tree.proofs.RefusalLaws.{refused_on_way}
use Rattle.gf_tree.proofs.upward.ascended.Goals as goal

pub up-init : goal.up-init
up-init c = rw c.of-node.ensures (record { is_node = c.requires; path = ([], refl) })

pub returns-in_err-facet-clause-way : goal.returns-in_err-facet-clause-way
returns-in_err-facet-clause-way c =
    let w = c.up.invariant.path in
    let p = err_from_is_err_and c.from_residual.result c.from_residual.ensures.1 in
    rw p.1 (subst (λ e. IsWayRefused c.args.tree.now.region c.args.tree.now.pairs c.args.set e) (sym p.2)
    (refused_on_way c.args.tree.now.region c.args.tree.now.pairs c.args.set c.up.node w.0 c.in_err-facet.field-0.0 w.1 c.in_err-facet.ensures.cause))

pub returns-in_err-node-clause-way : goal.returns-in_err-node-clause-way
returns-in_err-node-clause-way c =
    let w = c.up.invariant.path in
    let p = err_from_is_err_and c.from_residual-in_err-node.result c.from_residual-in_err-node.ensures.1 in
    rw p.1 (subst (λ e. IsWayRefused c.args.tree.now.region c.args.tree.now.pairs c.args.set e) (sym p.2)
    (refused_on_way c.args.tree.now.region c.args.tree.now.pairs c.args.set c.up.node w.0 c.in_err-node.field-0.0 w.1 c.in_err-node.ensures.cause))

-- one step further up
pub up-preserved : goal.up-preserved
up-preserved c =
    let k = c.args.tree.now.region in
    let v = c.up.node in
    let a = c.in-Some.facet in
    let u = c.in_ok-node.node in
    let w = c.up.invariant.path in
    let step = parent_across k v u a c.up.invariant.is_node (subst (IsWayAnswer k v) c.in-Some.is c.in_ok-facet.ensures.ok) c.in_ok-node.ensures.ok in
    record { is_node = (upward_nodes k v (negated a) u step).1; path = (negated a ∷ w.0, (v, step, w.1)) }

pub returns-clause-value : goal.returns-clause-value
returns-clause-value c =
    let k = c.args.tree.now.region in
    let u = c.up.node in
    let w = c.up.invariant.path in
    subst (IsRootFor k c.args.set) (sym c.into_basis.ensures)
    (root_for k c.args.set u c.requires (record {
      is_root = top_here k u (subst (IsWayAnswer k u) c.in_default.is c.in_ok-facet.ensures.ok);
      path = w.0;
      leads = w.1;
    }))

pub up-smaller : goal.up-smaller
up-smaller c =
    let k = c.args.tree.now.region in
    let v = c.up.node in
    let a = c.in-Some.facet in
    let u = c.in_ok-node.node in
    upward_falls k v (negated a) u (parent_across k v u a c.up.invariant.is_node (subst (IsWayAnswer k v) c.in-Some.is c.in_ok-facet.ensures.ok)
    c.in_ok-node.ensures.ok)
