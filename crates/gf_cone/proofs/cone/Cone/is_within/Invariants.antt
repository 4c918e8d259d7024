use Rattle.gf_cone.proofs.RegionLaws.{AgreeTo}
use Rattle.gf_cone.proofs.cone.Cone.is_within.Given as goal

abbrev pub invariant-rows : goal.invariant-rows
invariant-rows l = AgreeTo l.own l.rows l.i
