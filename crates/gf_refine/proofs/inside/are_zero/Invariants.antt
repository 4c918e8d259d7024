use Rattle.std.proofs.Common.{take}
use Rattle.gf_refine.specs.Inside.{AreZeroOn}
use Rattle.gf_refine.proofs.inside.are_zero.Given as goal

abbrev pub invariant-loop-h : goal.invariant-loop-h
invariant-loop-h l = AreZeroOn (take l.h-index l.rows) l.rays l.lineality
