use Rattle.std.proofs.lemmas.Result.{err_from_is_err_and}
use Rattle.std.proofs.Common.{◌∷◌}
use Rattle.gf_text.specs.VectorText.{entry_text}
use Rattle.gf_text.proofs.ToldLaws.{told_failed, wrote_then_part}
use Rattle.gf_text.proofs.PrintedTextLaws.{numbers_split}
use Rattle.gf_text.proofs.vector_printer.write_later_entries.Goals as goal

pub returns-in_err-write_entry : goal.returns-in_err-write_entry
returns-in_err-write_entry g c =
    let p = err_from_is_err_and c.from_residual.result c.from_residual.ensures.1 in
    told_failed c.from_residual.result p.0 _ _ _ _ _ _ _ p.1 (numbers_split (λ x. 44 ∷ entry_text x) c.args.entries.now c.loop-entry.entry-index _
    c.loop-entry-test.true)
    (wrote_then_part _ _ _ _ _ _ _ _ c.loop-entry.invariant c.in_err-write_entry.ensures)
