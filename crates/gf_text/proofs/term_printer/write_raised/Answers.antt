use Rattle.std.proofs.Common.{rules}
use Rattle.gf_text.proofs.PrintedTextLaws.{raised_other}
use Rattle.gf_text.proofs.ToldLaws.{told_then}
use Rattle.gf_text.proofs.term_printer.write_raised.Goals as goal

pub returns : goal.returns
returns g c = told_then c.write_number.result _ _ _ _ _ _ _ _ _ (raised_other c.args.exponent c.from.result (search rules) c.if-exponent-eq1.false)
    c.in_ok-write_text.ensures c.write_number.ensures
