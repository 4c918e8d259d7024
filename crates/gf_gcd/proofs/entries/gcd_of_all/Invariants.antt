use Rattle.std.proofs.Common.{◌<◌, ◌^◌, take}
use Rattle.gf_int_theory.specs.Content.{IsGcdOfAll}
use Rattle.gf_gcd.proofs.entries.gcd_of_all.Given as goal

-- the greatest common divisor of the entries before this one
abbrev pub invariant-entries : goal.invariant-entries
invariant-entries l = IsGcdOfAll (take l.x-index l.xs) l.found × (l.found < 2 ^ 127)
