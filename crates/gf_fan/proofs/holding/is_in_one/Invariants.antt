use Rattle.std.proofs.Common.{take, Contains}
use Rattle.gf_duality_theory.specs.Faces.{IsInCone}
use Rattle.gf_rays.specs.Cones.{RowsAndRays, rows_of}
use Rattle.gf_fan.proofs.holding.is_in_one.Given as goal

abbrev pub invariant-loop-c : goal.invariant-loop-c
invariant-loop-c l = (c : RowsAndRays) → Contains (take l.c-index l.cones) c → IsInCone (rows_of c) l.v → ⊥
