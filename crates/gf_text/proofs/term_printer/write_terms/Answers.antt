use Rattle.std.proofs.Common.{◌∙◌, ap}
use Rattle.gf_text.specs.PrintedText.{terms_text}
use Rattle.gf_text.proofs.ToldLaws.{told_then}
use Rattle.gf_text.proofs.PrintedTextLaws.{terms_parts}
use Rattle.gf_text.proofs.term_printer.write_terms.Goals as goal

pub returns : goal.returns
returns g c =
    told_then c.write_later_terms.result _ _ _ _ _ _ _ _ _
    (terms_parts c.args.ring.now c.terms.result.now c.first-item.result c.first-item.is c.in-len1-up.len_at_least ∙ ap (terms_text c.args.ring.now)
    c.terms.ensures.value)
    c.in_ok-write_term.ensures c.write_later_terms.ensures
