use Rattle.std.proofs.Common.{◌+◌, subst, ◌∙◌, ap}
use Rattle.std.proofs.lemmas.Result.{IfOk-weaker, IfErr-weaker, err_from_is_err_and}
use Rattle.gf_reverse_search.specs.declared.mark.Mark.TheVariants.{After}
use Rattle.gf_reverse_search.specs.Walk.{IsTurn, FindsNext, IsRefused}
use Rattle.gf_reverse_search.proofs.ClimbLaws.{Stands-start, Stands-up, Stands-child, Stands-end}
use Rattle.gf_reverse_search.proofs.RefusalLaws.{refused_here, refused_above}
use Rattle.gf_reverse_search.proofs.SearchLaws.{Finds-same}
use Rattle.gf_reverse_search.proofs.search.find_next.Goals as goal

pub returns-in_ok-raise-in-Child-clause-next : goal.returns-in_ok-raise-in-Child-clause-next
returns-in_ok-raise-in-Child-clause-next g c =
    let lt = g.T.Tree.before in
    let up = g.T.Tree.up c.args.tree.now in
    let a = c.args in
    λ top r at. Stands-child lt up g.met.T.Tree.strict (g.met.T.Tree.tree c.args.tree.now) top a.mark.now r a.node.now a.mark.now a.depth.now c.raise.new.self
    c.in-Child.child
    (Stands-start lt up top a.mark.now r a.node.now a.depth.now at) c.requires.listed (subst (IsTurn lt up a.node.now a.mark.now a.depth.now)
    c.in-Child.is c.in_ok-child.ensures.ok)
    (c.in_ok-raise-in-Child.ensures.ok ∙ ap (λ n. n + 1) c.in_ok-below-in-Child.ensures)

pub returns-in_ok-above-in-Up-clause-next : goal.returns-in_ok-above-in-Up-clause-next
returns-in_ok-above-in-Up-clause-next g c =
    let lt = g.T.Tree.before in
    let up = g.T.Tree.up c.args.tree.now in
    let a = c.args in
    let t = subst (IsTurn lt up a.node.now a.mark.now a.depth.now) c.in-Up.is c.in_ok-child.ensures.ok in
    IfOk-weaker c.climb.result (FindsNext lt up c.in-Up.parent (After c.in-Up.label) c.lower.new.self) (FindsNext lt up a.node.now a.mark.now a.depth.now)
    (λ o h top r at. let s = Stands-up lt up g.met.T.Tree.strict (g.met.T.Tree.tree c.args.tree.now) top a.mark.now r a.node.now a.mark.now a.depth.now
    c.lower.new.self c.in-Up.label c.in-Up.parent
    (Stands-start lt up top a.mark.now r a.node.now a.depth.now at) c.requires.listed t.0 t.1 (c.lower.ensures ∙ c.in_ok-above-in-Up.ensures) in
    Finds-same lt up top a.mark.now r c.in-Up.parent (After c.in-Up.label) c.lower.new.self s o (h top s.path s.at))
    c.climb.ensures.next

pub returns-in-End-clause-next : goal.returns-in-End-clause-next
returns-in-End-clause-next g c =
    let lt = g.T.Tree.before in
    let up = g.T.Tree.up c.args.tree.now in
    let a = c.args in
    let t = subst (IsTurn lt up a.node.now a.mark.now a.depth.now) c.in-End.is c.in_ok-child.ensures.ok in
    λ top r at. Stands-end lt up g.met.T.Tree.strict (g.met.T.Tree.tree c.args.tree.now) top a.mark.now r a.node.now a.mark.now a.depth.now
    (Stands-start lt up top a.mark.now r a.node.now a.depth.now at) c.requires.listed t.0 t.1

pub returns-in_ok-raise-in-Child-clause-node : goal.returns-in_ok-raise-in-Child-clause-node
returns-in_ok-raise-in-Child-clause-node g c =
    let a = c.args in
    let t = subst (IsTurn g.T.Tree.before (g.T.Tree.up a.tree.now) a.node.now a.mark.now a.depth.now) c.in-Child.is c.in_ok-child.ensures.ok in
    (g.met.T.Tree.nodes a.tree.now c.in-Child.child t.label a.node.now t.child).0

pub climb-requires : goal.climb-requires
climb-requires g c =
    let a = c.args in
    let t = subst (IsTurn g.T.Tree.before (g.T.Tree.up a.tree.now) a.node.now a.mark.now a.depth.now) c.in-Up.is c.in_ok-child.ensures.ok in
    (g.met.T.Tree.nodes a.tree.now a.node.now c.in-Up.label c.in-Up.parent t.1).1

pub returns-in_ok-above-in-Up-clause-err : goal.returns-in_ok-above-in-Up-clause-err
returns-in_ok-above-in-Up-clause-err g c =
    let a = c.args in
    let up = g.T.Tree.up a.tree.now in
    let refuses = g.T.Tree.refuses a.tree.now in
    let t = subst (IsTurn g.T.Tree.before up a.node.now a.mark.now a.depth.now) c.in-Up.is c.in_ok-child.ensures.ok in
    IfErr-weaker c.climb.result (IsRefused up refuses c.in-Up.parent c.lower.new.self) (IsRefused up refuses a.node.now a.depth.now)
    (λ e h. refused_above up refuses a.node.now c.in-Up.parent c.in-Up.label c.lower.new.self a.depth.now e t.1
    (c.lower.ensures ∙ c.in_ok-above-in-Up.ensures) h) c.climb.ensures.err

pub returns-in_err-below-in-Child-clause-err : goal.returns-in_err-below-in-Child-clause-err
returns-in_err-below-in-Child-clause-err g c =
    let t = c.args.tree.now in
    let v = c.args.node.now in
    let p = err_from_is_err_and c.from_residual-in_err-below-in-Child.result c.from_residual-in_err-below-in-Child.ensures.1 in
    rw p.1 (refused_here (g.T.Tree.up t) (g.T.Tree.refuses t) v c.args.depth.now p.0
    (g.met.T.Tree.memory t v p.0 (g.met.T.Tree.from_memory c.in_err-below-in-Child.field-0.0 p.0 p.2)))
