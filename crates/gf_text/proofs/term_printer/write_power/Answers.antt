use Rattle.std.proofs.Common.{[], ◌++◌, ◌∙◌, append_assoc, append-nil}
use Rattle.std.proofs.lemmas.Result.{err_from_is_err_and}
use Rattle.gf_text.specs.PrintedText.{times_text, raised_text}
use Rattle.gf_text.proofs.ToldLaws.{told_failed, wrote_both, wrote_then_part}
use Rattle.gf_text.proofs.PrintedTextLaws.{power_parts}
use Rattle.gf_text.proofs.term_printer.write_power.Goals as goal

pub returns-in_err-write_bytes-clause-text : goal.returns-in_err-write_bytes-clause-text
returns-in_err-write_bytes-clause-text g c =
    let p = err_from_is_err_and c.from_residual-in_err-write_bytes.result c.from_residual-in_err-write_bytes.ensures.1 in
    let parts = power_parts c.args.some c.args.name.now c.args.exponent c.if-exponent-eq0.false in
    told_failed c.from_residual-in_err-write_bytes.result p.0 _ _ _ _ _ (raised_text c.args.exponent) _ p.1
    (append_assoc (times_text c.args.some) c.args.name.now (raised_text c.args.exponent) ∙ parts)
    (wrote_then_part _ _ _ _ _ _ _ _ c.in_ok-write_times.ensures c.in_err-write_bytes.ensures)

pub returns-in_err-write_raised-clause-text : goal.returns-in_err-write_raised-clause-text
returns-in_err-write_raised-clause-text g c =
    let p = err_from_is_err_and c.from_residual-in_err-write_raised.result c.from_residual-in_err-write_raised.ensures.1 in
    let parts = power_parts c.args.some c.args.name.now c.args.exponent c.if-exponent-eq0.false in
    let front = wrote_both _ _ _ _ _ _ _ _ c.in_ok-write_times.ensures c.in_ok-write_bytes.ensures in
    let last = wrote_then_part _ _ _ _ _ _ _ _ front c.in_err-write_raised.ensures in
    told_failed c.from_residual-in_err-write_raised.result p.0 _ _ _ _ _ [] _ p.1
    (append-nil ((times_text c.args.some ++ c.args.name.now) ++ raised_text c.args.exponent) ∙ append_assoc (times_text c.args.some) c.args.name.now
    (raised_text c.args.exponent) ∙ parts)
    last
