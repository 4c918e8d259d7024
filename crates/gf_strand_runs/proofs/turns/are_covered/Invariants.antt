use Rattle.std.proofs.Common.{[], take}
use Rattle.gf_poly.specs.Marking.{Each}
use Rattle.gf_strands.specs.declared.strands.Point.{Point}
use Rattle.gf_strands.specs.Strands.{moved}
use Rattle.gf_strands.specs.Monomials.{with_monomials}
use Rattle.gf_strands.specs.Forms.{HasCover}
use Rattle.gf_strand_runs.proofs.turns.are_covered.Given as goal

abbrev pub invariant-points : goal.invariant-points
invariant-points l = Each (λ (p : Point). HasCover (with_monomials l.ground.marks.now []) (moved l.ground.normal.now l.base p.k)) (take l.k l.points)
