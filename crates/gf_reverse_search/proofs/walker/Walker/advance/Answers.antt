use Rattle.std.proofs.Common.{subst, refl, Some, None}
use Rattle.gf_reverse_search.specs.declared.mark.Mark.TheVariants.{Before, Listed, Finished}
use Rattle.gf_reverse_search.specs.Walk.{FindsNext, Steps}
use Rattle.gf_reverse_search.specs.Listing.{Leaves}
use Rattle.gf_reverse_search.proofs.SearchLaws.{found, ended, listed_here}
use Rattle.gf_reverse_search.proofs.ListLaws.{gives}
use Rattle.gf_reverse_search.proofs.walker.Walker.advance.Goals as goal

-- before its node the walker lists it
pub returns-in-Before-clause-list : goal.returns-in-Before-clause-list
returns-in-Before-clause-list g c =
    let lt = g.T.Tree.before in
    let a = c.self.inside in
    let up = g.T.Tree.up a.tree in
    rw (← c.self.view_is)
    (λ nodes left. gives lt up g.met.T.Tree.strict (g.met.T.Tree.tree a.tree) Before a.here a.depth Listed a.here a.depth (Some c.in_ok-node.node)
    (λ top r at. listed_here lt up top r a.here c.in_ok-node.node a.depth c.in_ok-node.ensures.ok at) nodes
    (subst (λ m. Leaves lt up m a.here a.depth nodes) c.in-Before.is left))

-- what the search finds is the first of what is left
pub returns-in_ok-node-in-Some : goal.returns-in_ok-node-in-Some
returns-in_ok-node-in-Some g c =
    let lt = g.T.Tree.before in
    let a = c.self.inside in
    let up = g.T.Tree.up a.tree in
    let step : Steps lt up a.mark a.here a.depth Listed c.in-Some.next c.in-Some.depth (Some c.in_ok-node-in-Some.node) =
    λ top r at. found lt up g.met.T.Tree.strict top a.mark r c.in-Some.next c.in_ok-node-in-Some.node c.in-Some.depth
    ((subst (FindsNext lt up a.here a.mark a.depth) c.in-Some.is c.in_ok-next.ensures.next) top r at) c.in_ok-node-in-Some.ensures.ok in
    rw (← c.self.view_is)
    (record {
      first = step;
      list = gives lt up g.met.T.Tree.strict (g.met.T.Tree.tree a.tree) a.mark a.here a.depth Listed c.in-Some.next c.in-Some.depth
          (Some c.in_ok-node-in-Some.node) step;
      here = c.in_ok-node-in-Some.ensures.ok;
      ended = tt;
      tree = refl;
      unchanged = tt;
      refused = tt;
    })

-- nothing is found where nothing is left
pub returns-in-None : goal.returns-in-None
returns-in-None g c =
    let lt = g.T.Tree.before in
    let a = c.self.inside in
    let up = g.T.Tree.up a.tree in
    let step : Steps lt up a.mark a.here a.depth Finished a.here a.depth None = λ top r at. ended lt up g.met.T.Tree.strict top a.mark r a.here a.depth at
    ((subst (FindsNext lt up a.here a.mark a.depth) c.in-None.is c.in_ok-next.ensures.next) top r at) in
    rw (← c.self.view_is)
    (record {
      first = step;
      list = gives lt up g.met.T.Tree.strict (g.met.T.Tree.tree a.tree) a.mark a.here a.depth Finished a.here a.depth None step;
      here = tt;
      ended = refl;
      tree = refl;
      unchanged = tt;
      refused = tt;
    })
