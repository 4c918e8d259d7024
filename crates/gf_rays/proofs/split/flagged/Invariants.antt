use Rattle.std.proofs.Common.{length}
use Rattle.gf_rays.proofs.KeptLaws.{FlaggedSoFar}
use Rattle.gf_rays.proofs.split.flagged.Given as goal

abbrev pub invariant-loop-ray : goal.invariant-loop-ray
invariant-loop-ray l = FlaggedSoFar l.fn.rays.items l.values l.left.items l.out.items

abbrev pub decreases-loop-ray : goal.decreases-loop-ray
decreases-loop-ray l = length l.left.items
