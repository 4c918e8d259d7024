use Rattle.std.proofs.Common.{◌++◌, refl, ap, ◌∙◌}
use Rattle.gf_text.specs.PrintedSets.{basis_text}
use Rattle.gfan_lists.proofs.BasesTextLaws.{piece_more}
use Rattle.gfan_lists.proofs.bases.item_piece.Goals as goal
use Rattle.gfan_lists.proofs.bases.item_piece.Goals.{then-certified+in_ok-push_certified, else-certified}

pub returns-clause-ok : goal.returns-clause-ok
returns-clause-ok c =
    let alone = basis_text c.args.ring.now c.args.basis.now.items in
    elim c.if-certified.branch [
      | then-certified+in_ok-push_certified w ↦
          let told = w.in_ok-push_certified.ensures.ok in
          rw (w.if-certified.true, w.text-is) (record {
            item = alone ++ told.0;
            is_item = (told.0, told.1, refl);
            is_piece = told.2 ∙ ap (λ l. l ++ told.0) c.in_ok-text.ensures ∙ piece_more c.args.ring.now c.args.is_first alone told.0;
          })
      | else-certified w ↦ rw (w.if-certified.false, w.text-is) (record { item = alone; is_item = refl; is_piece = c.in_ok-text.ensures })
    ]
