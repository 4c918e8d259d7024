use Rattle.std.proofs.Common.{◌≡◌, All, length}
use Rattle.gf_int_theory.specs.Range.{InRange}
use Rattle.gf_text.specs.Machine.{run}
use Rattle.gf_fan_files.specs.Lines.{content_from}
use Rattle.gf_fan_files.specs.RowText.{row_step, row_state, row_start}
use Rattle.gf_fan_files.specs.Found.{IsPlaceWithin, tokens_left}
use Rattle.gf_fan_files.proofs.rows.rows_from.Given as goal

abbrev pub invariant-loop-token : goal.invariant-loop-token
invariant-loop-token l = record {
  within : IsPlaceWithin l.source l.place;
  range : All InRange l.row.items;
  same : run row_step (row_state l.rows.items l.row.items l.minus) (length l.source) (tokens_left l.source l.place) ≡ run row_step row_start (length l.source)
      (content_from l.source l.from);
}

abbrev pub decreases-loop-token : goal.decreases-loop-token
decreases-loop-token l = length (tokens_left l.source l.place)
