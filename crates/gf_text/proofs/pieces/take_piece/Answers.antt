use Rattle.std.proofs.Common.{◌≡◌, ◌∙◌, ◌++◌, ap, subst, append-nil}
use Rattle.gf_text.specs.Pieces.{IsFront}
use Rattle.gf_text.proofs.pieces.take_piece.Goals as goal

pub returns : goal.returns
returns c = λ yes ws known.
    let value = c.replace.ensures.value in
    let same : c.args.front.now ≡ c.replace.result = cc in
    let us = c.as_slice.result.now in (
      ws ++ us,
      c.in-Some.ensures ws (subst (IsFront c.args.n ws) same known),
      ap (λ l. (ws ++ us) ++ l) c.clear.ensures ∙ append-nil (ws ++ us) ∙ ap (λ l. ws ++ l) c.as_slice.ensures,
    )
