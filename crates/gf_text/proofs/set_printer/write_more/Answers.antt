use Rattle.std.proofs.Common.{◌∷◌}
use Rattle.std.proofs.lemmas.Result.{err_from_is_err_and}
use Rattle.gf_text.specs.PrintedSets.{marked_text}
use Rattle.gf_text.proofs.ToldLaws.{told_failed, wrote_then_part}
use Rattle.gf_text.proofs.PrintedTextLaws.{parts_split}
use Rattle.gf_text.proofs.set_printer.write_more.Goals as goal

pub returns-in_err-write_next : goal.returns-in_err-write_next
returns-in_err-write_next g c =
    let p = err_from_is_err_and c.from_residual.result c.from_residual.ensures.1 in
    told_failed c.from_residual.result p.0 _ _ _ _ _ _ _ p.1
    (parts_split (λ k. 44 ∷ 10 ∷ marked_text c.args.ring.now k) c.args.items.now c.loop-marked.marked-index c.marked-item.result c.loop-marked-test.true
    c.marked-item.is)
    (wrote_then_part _ _ _ _ _ _ _ _ c.loop-marked.invariant c.in_err-write_next.ensures)
