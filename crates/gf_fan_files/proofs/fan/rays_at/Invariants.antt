use Rattle.std.proofs.Common.{◌≡◌, take}
use Rattle.gf_fans_theory.specs.FaceLists.{numbered}
use Rattle.gf_fan_files.proofs.fan.rays_at.Given as goal

-- the rays so far
abbrev pub invariant-numbers : goal.invariant-numbers
invariant-numbers l = l.out.items ≡ numbered l.rays (take l.number-index l.numbers)
