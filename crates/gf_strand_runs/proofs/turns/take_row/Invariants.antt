use Rattle.std.proofs.Common.{◌+◌, ◌≤◌, length}
use Rattle.gf_strands.specs.Strands.{AreStrandsOf, facet_order, strand_members}
use Rattle.gf_strands.specs.Monomials.{with_monomials}
use Rattle.gf_strand_runs.proofs.TurnLaws.{IsRowTaken}
use Rattle.gf_strand_runs.proofs.turns.take_row.Given as goal

abbrev pub invariant-marks : goal.invariant-marks
invariant-marks l = record {
  row : IsRowTaken (facet_order l.ground.normal.now) (length l.ground.normal.now) (with_monomials l.ground.marks.now
      (strand_members l.ground.normal.now l.fn.strands.items)) (with_monomials l.ground.marks.now (strand_members l.ground.normal.now l.strands.items)) l.i
      (length l.ground.marks.now + l.j);
  within : l.i ≤ length l.ground.marks.now;
  strands : AreStrandsOf l.ground.normal.now l.ground.by.now l.strands.items;
}

abbrev pub invariant-strands : goal.invariant-strands
invariant-strands l = record {
  row : IsRowTaken (facet_order l.ground.normal.now) (length l.ground.normal.now) (with_monomials l.ground.marks.now
      (strand_members l.ground.normal.now l.fn.strands.items)) (with_monomials l.ground.marks.now (strand_members l.ground.normal.now l.strands.items))
      (length l.ground.marks.now + l.i) (length l.ground.marks.now + l.j);
  strands : AreStrandsOf l.ground.normal.now l.ground.by.now l.strands.items;
}
