use Rattle.std.proofs.Common.{◌≡◌, length}
use Rattle.gf_text.specs.Machine.{run}
use Rattle.gf_fan_files.specs.Lines.{content_from}
use Rattle.gf_fan_files.specs.ConeText.{cone_step, cone_start}
use Rattle.gf_fan_files.specs.Found.{IsPlaceWithin, tokens_left}
use Rattle.gf_fan_files.specs.Given.{cone_state}
use Rattle.gf_fan_files.proofs.cones.cones_from.Given as goal

abbrev pub invariant-loop-token : goal.invariant-loop-token
invariant-loop-token l = record {
  within : IsPlaceWithin l.source l.place;
  same : run cone_step (cone_state l.list l.cones.items l.numbers.items) (length l.source) (tokens_left l.source l.place) ≡ run cone_step cone_start
      (length l.source) (content_from l.source l.from);
}

abbrev pub decreases-loop-token : goal.decreases-loop-token
decreases-loop-token l = length (tokens_left l.source l.place)
