use Rattle.gf_strands.proofs.StrandMarks.{AreLeftTo}
use Rattle.gf_strands.proofs.forms.are_left.Given as goal

abbrev pub invariant-points : goal.invariant-points
invariant-points l = AreLeftTo l.normal l.base l.strands l.from l.points l.i
