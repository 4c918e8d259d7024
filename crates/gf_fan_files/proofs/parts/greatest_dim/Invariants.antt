use Rattle.std.proofs.Common.{◌≡◌, take}
use Rattle.gf_fan_files.specs.FanWords.{greatest_dim}
use Rattle.gf_fan_files.proofs.parts.greatest_dim.Given as goal

abbrev pub invariant-loop-cone : goal.invariant-loop-cone
invariant-loop-cone l = l.dim ≡ greatest_dim (take l.cone-index l.cones)
