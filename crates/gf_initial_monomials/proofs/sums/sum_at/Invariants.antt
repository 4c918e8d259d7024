use Rattle.gf_initial_monomials.proofs.SumLaws.{SumSoFar}
use Rattle.gf_initial_monomials.proofs.sums.sum_at.Given as goal

abbrev pub invariant-loop-i : goal.invariant-loop-i
invariant-loop-i l = SumSoFar l.cone.ambient l.cone.rays l.numbers l.i-index l.so_far
