use Rattle.std.proofs.Common.{◌≡◌, All, take}
use Rattle.gf_rays.specs.Cones.{RowsAndRays}
use Rattle.gf_fan.proofs.table.all_have.Given as goal

abbrev pub invariant-loop-c : goal.invariant-loop-c
invariant-loop-c l = All (λ (c : RowsAndRays). c.lineality ≡ l.lineality) (take l.c-index l.cones)
