use Rattle.std.proofs.Common.{◌≡◌, ◌∷◌, [], refl, sym, subst, Some, append-nil, rules}
use Rattle.gf_reverse_search.specs.declared.mark.Mark.TheVariants.{Before, Listed}
use Rattle.gf_reverse_search.specs.declared.expand.Piece.TheVariants.{Ready, Under}
use Rattle.gf_reverse_search.specs.Listing.{IsLeftAt}
use Rattle.gf_reverse_search.specs.Pieces.{PiecesLeave}
use Rattle.gf_reverse_search.proofs.SearchLaws.{listed_here}
use Rattle.gf_reverse_search.proofs.ListLaws.{gives}
use Rattle.gf_waves.proofs.waves.Waves.new.Goals as goal

-- the node, and then what a walker at it, listed, has left
pub returns-clause-list : goal.returns-clause-list
returns-clause-list g c =
    let lt = g.T.Tree.before in
    let t = c.args.tree in
    let up = g.T.Tree.up t in
    let root = c.args.root in
    let is : c.push-2.new.row.items ≡ Ready root ∷ Under (record { tree = t; here = root; mark = Listed; depth = 0 }) ∷ [] = search rules in
    λ nodes l.
    let k = gives lt up g.met.T.Tree.strict (g.met.T.Tree.tree t) Before root 0 Listed root 0 (Some root)
    (λ top r at. listed_here lt up top r root root 0 refl at) nodes l in
    subst (λ ps. PiecesLeave (IsLeftAt lt g.T.Tree.up) ps nodes) (sym is) (k.0, k.1, (k.0, [], sym (append-nil k.0), k.2, refl))
