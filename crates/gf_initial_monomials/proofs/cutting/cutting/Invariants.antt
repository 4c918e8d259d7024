use Rattle.gf_rays.specs.Cones.{rows_of}
use Rattle.gf_initial_monomials.proofs.CutLaws.{CutSoFar}
use Rattle.gf_initial_monomials.proofs.cutting.cutting.Given as goal

abbrev pub invariant-rows : goal.invariant-rows
invariant-rows l = CutSoFar l.cone.ambient (rows_of l.cone) l.rows l.i l.out.items
