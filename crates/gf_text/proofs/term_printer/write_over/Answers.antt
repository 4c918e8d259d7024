use Rattle.gf_text.proofs.PrintedTextLaws.{over_other}
use Rattle.gf_text.proofs.ToldLaws.{told_then}
use Rattle.gf_text.proofs.term_printer.write_over.Goals as goal

pub returns : goal.returns
returns g c = told_then c.write_number.result _ _ _ _ _ _ _ _ _ (over_other c.args.denominator c.if-denominator-eq1.false)
    c.in_ok-write_text.ensures c.write_number.ensures
