use Rattle.gf_text.proofs.ToldLaws.{told_then}
use Rattle.gf_text.proofs.PrintedTextLaws.{entries_parts}
use Rattle.gf_text.proofs.vector_printer.write_entries.Goals as goal

pub returns : goal.returns
returns g c =
    told_then c.write_later_entries.result _ _ _ _ _ _ _ _ _ (entries_parts c.args.entries.now _ c.in-len1-up.len_at_least)
    c.in_ok-write_entry.ensures c.write_later_entries.ensures
