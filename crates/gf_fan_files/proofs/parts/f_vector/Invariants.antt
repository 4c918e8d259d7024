use Rattle.std.proofs.Common.{◌≡◌, ◌-◌, map}
use Rattle.std.specs.List.{range_with_len}
use Rattle.gf_fan_files.specs.FanWords.{count_of}
use Rattle.gf_fan_files.proofs.parts.f_vector.Given as goal

abbrev pub invariant-loop-dim : goal.invariant-loop-dim
invariant-loop-dim l = l.counts.items ≡ map (count_of l.cones) (range_with_len l.low (l.dim - l.low))
