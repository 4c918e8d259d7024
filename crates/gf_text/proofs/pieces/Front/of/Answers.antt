use Rattle.std.proofs.Common.{arith}
use Rattle.gf_poly.proofs.CollectLaws.{nonempty_by_test}
use Rattle.gf_text.proofs.PiecesLaws.{sum_begun}
use Rattle.gf_text.proofs.pieces.Front.of.Goals as goal

pub returns : goal.returns
returns c = λ n variables.
    let w = c.in-Ok.ensures in
    let some = nonempty_by_test _ c.if-is_empty.ensures in
    sum_begun n c.args.terms.items c.index.result.now (record { poly = c.in-Ok.poly; first = c.copy-first.result })
    (omega (arith, c.args.terms.ok.0, some)) c.index.ensures c.copy-first.ensures w.value w.descending w.variables w.fits variables
