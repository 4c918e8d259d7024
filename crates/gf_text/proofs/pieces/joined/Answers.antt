use Rattle.gf_text.proofs.PiecesLaws.{joined_none, joined_some}
use Rattle.gf_text.proofs.pieces.joined.Goals as goal

pub returns-in-None : goal.returns-in-None
returns-in-None c =
    joined_none c.args.n c.args.front c.args.terms.now c.in-Ok.made.items c.of.result c.in-None.is c.in-Ok.ensures.ok c.of.ensures

pub returns-in-Some : goal.returns-in-Some
returns-in-Some c =
    joined_some c.args.n c.args.front c.in-Some.front c.args.terms.now c.in-Ok.made.items c.with.result c.in-Some.is c.in-Ok.ensures.ok c.with.ensures
