use Rattle.gf_text.proofs.PiecesLaws.{sum_is, remains}
use Rattle.gf_text.proofs.pieces.remaining.Goals as goal

pub marked-requires : goal.marked-requires
marked-requires c =
    let known = c.requires.known in
    let w = c.in-Some.ensures known.0 known.1 in
    sum_is c.args.n w.terms c.in-Some.whole w.sum

pub returns-in-Some : goal.returns-in-Some
returns-in-Some c = remains c.args.n c.args.terms.now c.args.front c.in-Some.whole c.marked.result c.in-Some.ensures c.marked.ensures
