use Rattle.std.proofs.Common.{◌≡◌, [], ap, arith, to_z, of_z}
use mir.Syntax.{w128}
use Rattle.std.proofs.lemmas.Int.{to_z-of_z}
use Rattle.gf_front.specs.declared.refusal.Refusal.TheVariants as refusals
use Rattle.gf_front.specs.Lines.{message}
use Rattle.gf_text.proofs.ToldLaws.{told_as}
use Rattle.gf_front.proofs.messages.wide_root.Goals as goal

pub returns : goal.returns
returns g c =
    let b = c.args in
    let value : to_z w128 (of_z w128 b.value) ≡ b.value = grind (arith, to_z-of_z) in
    told_as c.write_pieces.result _ _ _ _ _ _ (ap (λ x. message [] (refusals.WideRoot b.index x)) value) c.write_pieces.ensures
