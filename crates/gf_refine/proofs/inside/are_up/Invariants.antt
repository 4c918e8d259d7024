use Rattle.std.proofs.Common.{take}
use Rattle.gf_refine.specs.Inside.{AreUpOn}
use Rattle.gf_refine.proofs.inside.are_up.Given as goal

abbrev pub invariant-loop-h : goal.invariant-loop-h
invariant-loop-h l = AreUpOn (take l.h-index l.rows) l.rays l.lineality
