use Rattle.std.proofs.Common.{◌≡◌, ◌∷◌, ◌≤◌, [], length, refl, ◌+◌, sym, ap, subst, rules, arith, true}
use Rattle.std.specs.Vec.{vec_capacity}
use Rattle.std.proofs.lemmas.List.{length_push}
use Rattle.gf_reverse_search.specs.declared.expand.Piece.TheVariants.{Under}
use Rattle.gf_reverse_search.specs.declared.mark.Mark.TheVariants.{After}
use Rattle.gf_reverse_search.specs.Left.{IsBelowMark}
use Rattle.gf_reverse_search.specs.Pieces.{ArePiecesBelow, IsAdded, subtree}
use Rattle.gf_reverse_search.proofs.PiecesLaws.{rises_next, first_least, among_after, below_more}
use Rattle.gf_reverse_search.proofs.expand.list_children.Goals as goal

pub loop-labels-preserved-then-branch : goal.loop-labels-preserved-then-branch
loop-labels-preserved-then-branch g c =
    let lt = g.T.Tree.before in
    let t = c.args.tree.now in
    let u = c.args.node.now in
    let up = g.T.Tree.up t in
    let l = c.loop-labels in
    let i = l.invariant in
    let label = c.remove-label.result in
    let rs = c.remove-label.new.self.items in
    let is : l.labels.items ≡ label ∷ rs = search rules in
    let yes : c.in_ok-add_child.field-0 ≡ true = search rules in
    let a = subst (IsAdded g.T.Tree.up t u label l.pieces.items c.add_child.new.pieces.items) yes c.in_ok-add_child.ensures.added in
    let past : IsBelowMark lt l.mark (label ∷ []) = search rules in
    let h = first_least lt up u l.mark label l.labels.items rs is i.rises i.among a.0 a.1 past in
    let few : length l.pieces.items ≤ c.args.most = i.few in
    let less : length l.pieces.items + 1 ≤ c.args.most = search rules in
    record {
      listed = λ k. k;
      below = subst (λ ps. ArePiecesBelow lt g.T.Tree.up t u c.args.mark.now ps (After label)) (sym a.2)
          (below_more lt g.T.Tree.up t u c.args.mark.now l.mark l.pieces.items (subtree t a.0) label i.below refl h.0 h.1);
      few = omega (arith, less, ap length a.2, length_push l.pieces.items (Under (subtree t a.0)));
      room = (let r : vec_capacity c.args.pieces.now ≤ vec_capacity l.pieces = i.room in let q : vec_capacity l.pieces ≤ vec_capacity c.add_child.new.pieces =
          c.in_ok-add_child.ensures.room in omega arith);
      rises = rises_next lt up u l.mark label l.labels.items rs is i.rises i.among;
      among = among_after lt up u l.mark label l.labels.items rs is i.rises i.among g.met.T.Tree.strict past;
    }
