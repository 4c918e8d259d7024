use Rattle.std.proofs.Common.{Some, ◌∙◌, ap, sym, subst}
use Rattle.std.proofs.lemmas.Result.{err_from_is_err_and}
use Rattle.gf_facets_theory.specs.Rows.{negated}
use Rattle.gf_reverse_theory.specs.Answers.{IsAcross}
use Rattle.gf_tree.specs.Parents.{IsBelowTold}
use Rattle.gf_tree.specs.Refusals.{IsCallRefusal}
use Rattle.gf_tree.proofs.LabelLaws.{child_led, across_node}
use Rattle.gf_tree.proofs.tree.BasisTreeReusingTree.child_by.Goals as goal

pub returns-in_err-neighbour-clause-err : goal.returns-in_err-neighbour-clause-err
returns-in_err-neighbour-clause-err c =
    let k = c.args.self.now.region in
    let u = c.args.node.now in
    let p = err_from_is_err_and c.from_residual.result c.from_residual.ensures.1 in
    rw p.1 (subst (λ e. IsCallRefusal k c.args.self.now.pairs u e) (sym p.2) (IsCallRefusal.here c.in_err-neighbour.ensures.cause))

pub returns-in-None-clause-ok : goal.returns-in-None-clause-ok
returns-in-None-clause-ok c =
    let k = c.args.self.now.region in
    subst (IsBelowTold k c.args.node.now c.args.label.now) c.in-None.is c.in_ok-neighbour.ensures.ok

pub led_back-requires : goal.led_back-requires
led_back-requires c =
    let k = c.args.self.now.region in
    across_node k c.args.node.now c.in-Some.neighbour c.args.label.now c.requires (subst (IsBelowTold k c.args.node.now c.args.label.now)
    c.in-Some.is c.in_ok-neighbour.ensures.ok)

pub returns-in_err-child-clause-err : goal.returns-in_err-child-clause-err
returns-in_err-child-clause-err c =
    let k = c.args.self.now.region in
    let u = c.args.node.now in
    let there : IsAcross k u c.args.label.now (Some c.in-Some.neighbour) = subst (IsBelowTold k u c.args.label.now) c.in-Some.is c.in_ok-neighbour.ensures.ok in
    let p = err_from_is_err_and c.from_residual-in_err-child.result c.from_residual-in_err-child.ensures.1 in
    rw p.1 (subst (λ e. IsCallRefusal k c.args.self.now.pairs u e) (sym p.2)
    (IsCallRefusal.beside c.in-Some.neighbour c.args.label.now there c.in_err-child.ensures.cause))

pub returns-clause-ok : goal.returns-clause-ok
returns-clause-ok c =
    let k = c.args.self.now.region in
    let u = c.args.node.now in
    child_led k u c.in-Some.neighbour c.args.label.now c.negate.new.self c.in_ok-child.child c.requires
    (subst (IsBelowTold k u c.args.label.now) c.in-Some.is c.in_ok-neighbour.ensures.ok)
    c.in_ok-child.ensures.ok (c.negate.ensures ∙ ap negated c.in_ok-back.ensures)
