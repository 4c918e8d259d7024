use Rattle.std.proofs.Common.{◌≡◌, ◌∙◌, [], ap, arith, to_z, of_z}
use mir.Syntax.{w128}
use Rattle.std.proofs.lemmas.Int.{to_z-of_z}
use Rattle.gf_front.specs.declared.refusal.Refusal.TheVariants as refusals
use Rattle.gf_front.specs.Lines.{message}
use Rattle.gf_text.proofs.ToldLaws.{told_as}
use Rattle.gf_front.proofs.messages.cone_overflow.Goals as goal

pub returns : goal.returns
returns g c =
    let b = c.args in
    let left : to_z w128 (of_z w128 b.left) ≡ b.left = grind (arith, to_z-of_z) in
    let right : to_z w128 (of_z w128 b.right) ≡ b.right = grind (arith, to_z-of_z) in
    told_as c.write_pieces.result _ _ _ _ _ _
    (ap (λ x. message [] (refusals.ConeOverflow b.row b.op x (to_z w128 (of_z w128 b.right)))) left ∙
    ap (λ x. message [] (refusals.ConeOverflow b.row b.op b.left x)) right)
    c.write_pieces.ensures
