use Rattle.std.proofs.Common.{[], sym, subst, refl}
use Rattle.gf_reverse_search.specs.Left.{IsBelowMark}
use Rattle.gf_reverse_search.specs.Pieces.{RefusesAt}
use Rattle.gf_reverse_search.proofs.PiecesLaws.{goes_down}
use Rattle.gf_reverse_search.proofs.expand.go_down.Goals as goal

pub returns-clause-down : goal.returns-clause-down
returns-clause-down g c =
    let lt = g.T.Tree.before in
    let up = g.T.Tree.up in
    let w = c.walker.inside in
    let e = c.list_children-listed.ensures in
    let ps = c.list_children-listed.new.pieces.items in
    let f = c.push_rest.ensures.follows in
    rw (← c.walker.view_is)
    (goes_down lt up (RefusesAt up g.T.Tree.refuses) c.args.most _ (record { tree = w.tree; here = w.here; mark = w.mark; depth = w.depth })
    c.list_children-listed.new.mark ps f.0 c.push_rest.new.pieces.items f.1 (subst (λ v. IsBelowMark lt v.mark [] → ⊥) (sym c.walker.view_is)
    c.requires.listed) e.below e.few refl f.2)
