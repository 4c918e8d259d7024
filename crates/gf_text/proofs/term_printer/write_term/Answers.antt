use Rattle.std.proofs.Common.{◌++◌, ap}
use Rattle.gf_text.specs.PrintedText.{unsigned_text}
use Rattle.gf_text.proofs.ToldLaws.{told_then}
use Rattle.gf_text.proofs.term_printer.write_term.Goals as goal

pub returns : goal.returns
returns g c =
    told_then c.write_unsigned.result _ _ _ _ _ _ _ _ _ (ap (λ s. s ++ unsigned_text c.args.ring.now c.args.term.now.coef c.args.term.now.mono)
    c.sign_text.ensures)
    c.in_ok-write_text.ensures c.write_unsigned.ensures
