use Rattle.std.proofs.Common.{ℕ, List, ℤ, take}
use Rattle.gf_gordan.specs.Alternative.{AreRows}
use Rattle.gf_rays.specs.States.{IsConeState}
use Rattle.gf_rays.proofs.FurtherLaws.{FurtherSoFar}
use Rattle.gf_rays.proofs.further.further.Given as goal

abbrev pub invariant-loop-k : goal.invariant-loop-k
invariant-loop-k l = ((n : ℕ) (es : List (List ℤ)) → AreRows n l.rows → IsConeState n (take l.from l.rows) es l.fn.start.lineality.items l.fn.start.rays.items →
    IsConeState n (take l.k l.rows) es l.cone.lineality.items l.cone.rays.items) × FurtherSoFar l.from l.rows l.fn.start.lineality.items l.fn.start.rays.items
    l.k l.cone.lineality.items l.cone.rays.items
