use Rattle.std.proofs.Common.{◌≡◌, take, All}
use Rattle.gf_int_theory.specs.Range.{InRange}
use Rattle.gf_vec.specs.Vector.{values}
use Rattle.gf_rays.proofs.project.shares.Given as goal

abbrev pub invariant-loop-h : goal.invariant-loop-h
invariant-loop-h l = (l.given.items ≡ values (take l.h-index l.rows) l.x) × All InRange l.given.items
