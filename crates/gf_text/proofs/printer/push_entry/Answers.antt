use Rattle.std.proofs.Common.{◌≡◌, ap, arith, to_z, of_z}
use mir.Syntax.{w128}
use Rattle.std.proofs.lemmas.Int.{to_z-of_z}
use Rattle.gf_text.specs.VectorText.{entry_text}
use Rattle.gf_text.proofs.ToldLaws.{told_as}
use Rattle.gf_text.proofs.printer.push_entry.Goals as goal

pub returns : goal.returns
returns c =
    let same : to_z w128 (of_z w128 c.args.entry) ≡ c.args.entry = grind (arith, to_z-of_z) in
    c.settled.ensures.ok c.args.out.now.items _ _ _ (told_as c.write_entry-written.result _ _ _ _ _ _ (ap entry_text same) c.write_entry-written.ensures)
