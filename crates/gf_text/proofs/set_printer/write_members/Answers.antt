use Rattle.gf_text.proofs.PrintedSetsLaws.{members_parts}
use Rattle.gf_text.proofs.ToldLaws.{told_then}
use Rattle.gf_text.proofs.set_printer.write_members.Goals as goal

pub returns : goal.returns
returns g c =
    told_then c.write_more.result _ _ _ _ _ _ _ _ _
    (members_parts c.args.ring.now c.args.items.now c.first-item.result c.first-item.is c.in-len1-up.len_at_least)
    c.in_ok-write_marked.ensures c.write_more.ensures
