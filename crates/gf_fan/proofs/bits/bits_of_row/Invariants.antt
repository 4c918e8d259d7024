use Rattle.gf_fan.proofs.BitLaws.{AreBitsBelow, IsHighBit, IsCutBit}
use Rattle.gf_fan.proofs.bits.bits_of_row.Given as goal

abbrev pub invariant-loop-i : goal.invariant-loop-i
invariant-loop-i l = record {
  high : AreBitsBelow (IsHighBit l.rays l.h) l.i l.high;
  cut : AreBitsBelow (IsCutBit l.rays l.h) l.i l.cut;
}
