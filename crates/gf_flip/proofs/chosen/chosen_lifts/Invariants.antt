use Rattle.std.proofs.Common.{◌+◌, ◌≤◌, length}
use Rattle.gf_strands.specs.Strands.{strand_members}
use Rattle.gf_strands.specs.Monomials.{with_monomials}
use Rattle.gf_flip.proofs.ChosenLaws.{AreLiftedTo}
use Rattle.gf_flip.proofs.chosen.chosen_lifts.Given as goal

abbrev pub invariant-marks : goal.invariant-marks
invariant-marks l = record {
  lifted : AreLiftedTo (length l.ground.normal.now) l.ground.by.now l.ground.normal.now (with_monomials l.ground.marks.now
      (strand_members l.ground.normal.now l.strands)) l.flags l.i l.lifts.members.items l.lifts.copied.items;
  within : l.i ≤ length l.ground.marks.now;
}

abbrev pub invariant-strands : goal.invariant-strands
invariant-strands l = record {
  lifted : AreLiftedTo (length l.ground.normal.now) l.ground.by.now l.ground.normal.now (with_monomials l.ground.marks.now
      (strand_members l.ground.normal.now l.strands)) l.flags (l.first + l.j) l.lifts.members.items l.lifts.copied.items;
  within : l.j ≤ length l.strands;
}
