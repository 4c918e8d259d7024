use Rattle.std.proofs.Common.{sym, subst, List, ℤ}
use Rattle.gf_gordan.specs.Alternative.{AreRows}
use Rattle.gf_fan.specs.Words.{AreWordsOfRows}
use Rattle.gf_fan.proofs.EachLaws.{common_width}
use Rattle.gf_fan.proofs.words.words_by.Goals as goal

pub words_of_rows-requires : goal.words_of_rows-requires
words_of_rows-requires c = (
  c.args.n,
  (
    subst (AreRows c.args.n) (sym c.as_slice-rows.ensures.keys) c.in_ok-items.ensures,
    subst (AreRows c.args.n) (sym c.as_slice-rays.ensures) (common_width c.args.n c.args.cones.now c.args.numbering.now c.requires.ambient c.requires.own
        c.requires.rays),
  ),
)

pub words_of_cones-requires-clause-known : goal.words_of_cones-requires-clause-known
words_of_cones-requires-clause-known c =
    subst (λ (w : List (List ℤ)). AreWordsOfRows w c.in_ok-items.items.keys c.in_ok-known.known.items) c.as_slice-rays.ensures
    (subst (λ (w : List (List ℤ)). AreWordsOfRows c.as_slice-rays.result.now w c.in_ok-known.known.items) c.as_slice-rows.ensures.keys c.in_ok-known.ensures)
