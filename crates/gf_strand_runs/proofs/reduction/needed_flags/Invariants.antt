use Rattle.std.proofs.Common.{length, ◌+◌}
use Rattle.gf_strands.specs.Strands.{strand_members}
use Rattle.gf_strands.specs.Monomials.{with_monomials}
use Rattle.gf_strand_runs.proofs.NeededStrands.{AreFlagsTo}
use Rattle.gf_strand_runs.proofs.reduction.needed_flags.Given as goal

abbrev pub invariant-marks : goal.invariant-marks
invariant-marks l = AreFlagsTo (with_monomials l.marks (strand_members l.fn.ground.normal.now l.strands)) l.flags.items l.i

abbrev pub invariant-strands : goal.invariant-strands
invariant-strands l = AreFlagsTo (with_monomials l.fn.ground.marks.now (strand_members l.fn.ground.normal.now l.strands)) l.flags.items
    (length l.fn.ground.marks.now + l.j)
