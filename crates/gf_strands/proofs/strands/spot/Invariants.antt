use Rattle.gf_strands.proofs.PointLaws.{AreMoved}
use Rattle.gf_strands.proofs.strands.spot.Given as goal

abbrev pub invariant-entries : goal.invariant-entries
invariant-entries l = AreMoved l.normal l.x l.k l.all l.i
