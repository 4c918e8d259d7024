use Rattle.std.proofs.Common.{◌≡◌, ◌∙◌, ◌++◌, ap, arith, to_z, of_z}
use mir.Syntax.{w128}
use Rattle.std.specs.Fmt.{signed_decimal}
use Rattle.std.proofs.lemmas.Int.{to_z-of_z}
use Rattle.gf_text.proofs.PrintedTextLaws.{entry_same}
use Rattle.gf_text.proofs.ToldLaws.{told_then}
use Rattle.gf_text.proofs.vector_printer.write_entry.Goals as goal

pub returns : goal.returns
returns g c =
    let same : to_z w128 (of_z w128 c.args.entry.now) ≡ c.args.entry.now = grind (arith, to_z-of_z) in
    told_then c.write_whole.result _ _ _ _ _ _ _ _ _ (ap (λ z. c.args.before.now ++ signed_decimal z) same ∙
    ap (λ t. c.args.before.now ++ t) (entry_same c.args.entry.now)) c.in_ok-write_text.ensures c.write_whole.ensures
