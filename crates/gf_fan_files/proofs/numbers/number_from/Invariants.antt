use Rattle.std.proofs.Common.{◌≡◌, false, length}
use Rattle.gf_text.specs.Machine.{run}
use Rattle.gf_fan_files.specs.Lines.{content_from}
use Rattle.gf_fan_files.specs.NumberText.{number_step}
use Rattle.gf_fan_files.specs.declared.numbers.NumberState.TheVariants.{Unread}
use Rattle.gf_fan_files.specs.FanText.{is_above}
use Rattle.gf_fan_files.specs.Found.{IsPlaceWithin, tokens_left}
use Rattle.gf_fan_files.proofs.numbers.number_from.Given as goal

abbrev pub invariant-loop-token : goal.invariant-loop-token
invariant-loop-token l = record {
  within : IsPlaceWithin l.source l.place;
  below : is_above l.limit (content_from l.source l.from) ≡ false;
  same : run number_step l.state (length l.source) (tokens_left l.source l.place) ≡ run number_step Unread (length l.source) (content_from l.source l.from);
}

abbrev pub decreases-loop-token : goal.decreases-loop-token
decreases-loop-token l = length (tokens_left l.source l.place)
