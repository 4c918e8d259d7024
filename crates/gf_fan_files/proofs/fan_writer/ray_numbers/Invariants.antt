use Rattle.std.proofs.Common.{◌≡◌, take}
use Rattle.gf_fan_files.proofs.fan_writer.ray_numbers.Given as goal

-- the numbers so far
abbrev pub invariant-numbers : goal.invariant-numbers
invariant-numbers l = l.out.items ≡ take l.number-index l.numbers
