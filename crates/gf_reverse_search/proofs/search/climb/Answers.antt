use Rattle.std.proofs.Common.{◌∷◌, subst, arith}
use Rattle.std.proofs.lemmas.Result.{err_from_is_err_and}
use Rattle.gf_reverse_search.specs.declared.mark.Mark.TheVariants.{After}
use Rattle.gf_reverse_search.specs.Walk.{IsTurn}
use Rattle.gf_reverse_search.proofs.ClimbLaws.{Stands-up, Stands-child, Stands-end}
use Rattle.gf_reverse_search.proofs.RefusalLaws.{refused_at}
use Rattle.gf_reverse_search.proofs.search.climb.Goals as goal

pub returns-in-Child-clause-next : goal.returns-in-Child-clause-next
returns-in-Child-clause-next g c =
    let lt = g.T.Tree.before in
    let up = g.T.Tree.up c.args.tree.now in
    let l = c.loop-depth in
    λ top r at. Stands-child lt up g.met.T.Tree.strict (g.met.T.Tree.tree c.args.tree.now) top (After c.args.label) r l.node l.mark l.depth c.raise.new.self
    c.in-Child.child
    (l.invariant.stands top r at) l.invariant.past (subst (IsTurn lt up l.node l.mark l.depth) c.in-Child.is c.in_ok-child.ensures.ok)
    c.in_ok-raise-in-Child.ensures.ok

pub loop-depth-preserved : goal.loop-depth-preserved
loop-depth-preserved g c =
    let lt = g.T.Tree.before in
    let up = g.T.Tree.up c.args.tree.now in
    let l = c.loop-depth in
    let t = subst (IsTurn lt up l.node l.mark l.depth) c.in-Up.is c.in_ok-child.ensures.ok in
    record {
      past = λ h. h;
      way = (c.in-Up.label ∷ l.invariant.way.0, (l.node, t.1, l.invariant.way.1), let e = l.invariant.way.2 in let f = c.lower.ensures in omega arith);
      is_node = (g.met.T.Tree.nodes c.args.tree.now l.node c.in-Up.label c.in-Up.parent t.1).1;
      stands = λ top r at. Stands-up lt up g.met.T.Tree.strict (g.met.T.Tree.tree c.args.tree.now) top (After c.args.label)
          r l.node l.mark l.depth c.lower.new.self c.in-Up.label c.in-Up.parent
          (l.invariant.stands top r at) l.invariant.past t.0 t.1 c.lower.ensures;
    }

pub returns-in-End-clause-next : goal.returns-in-End-clause-next
returns-in-End-clause-next g c =
    let lt = g.T.Tree.before in
    let up = g.T.Tree.up c.args.tree.now in
    let l = c.loop-depth in
    let t = subst (IsTurn lt up l.node l.mark l.depth) c.in-End.is c.in_ok-child.ensures.ok in
    λ top r at. Stands-end lt up g.met.T.Tree.strict (g.met.T.Tree.tree c.args.tree.now) top (After c.args.label) r l.node l.mark l.depth
    (l.invariant.stands top r at) l.invariant.past t.0 t.1

pub returns-in-Child-clause-node : goal.returns-in-Child-clause-node
returns-in-Child-clause-node g c =
    let l = c.loop-depth in
    let t = subst (IsTurn g.T.Tree.before (g.T.Tree.up c.args.tree.now) l.node l.mark l.depth) c.in-Child.is c.in_ok-child.ensures.ok in
    (g.met.T.Tree.nodes c.args.tree.now c.in-Child.child t.label l.node t.child).0

pub returns-in_err-raise-in-Child-clause-err : goal.returns-in_err-raise-in-Child-clause-err
returns-in_err-raise-in-Child-clause-err g c =
    let l = c.loop-depth in
    let w = l.invariant.way in
    let t = c.args.tree.now in
    let p = err_from_is_err_and c.from_residual-in_err-raise-in-Child.result c.from_residual-in_err-raise-in-Child.ensures.1 in
    rw p.1 (refused_at (g.T.Tree.up t) (g.T.Tree.refuses t) l.node c.args.start w.0 l.depth c.args.start_depth p.0 w.1 w.2
    (g.met.T.Tree.memory t l.node p.0 (g.met.T.Tree.from_memory c.in_err-raise-in-Child.field-0.0 p.0 p.2)))
