use Rattle.std.proofs.Common.{subst}
use Rattle.gf_reverse_search.specs.Whole.{IsRootAt}
use Rattle.gf_reverse_search.proofs.SuffixLaws.{stands_after}
use Rattle.gf_reverse_search.proofs.walker.Walker.after.Goals as goal

pub returns-clause-list : goal.returns-clause-list
returns-clause-list g c =
    let t = c.args.tree in
    let at = subst (λ v. IsRootAt (g.T.Tree.up t) v c.in_ok-depth.field-0-0 c.in_ok-depth.depth) c.in_ok-start.ensures.ok c.in_ok-depth.ensures.ok in
    stands_after g.T.Tree.before g.T.Tree.up g.met.T.Tree.strict t (g.met.T.Tree.tree t) c.args.node c.in_ok-depth.field-0-0 c.in_ok-depth.depth at
