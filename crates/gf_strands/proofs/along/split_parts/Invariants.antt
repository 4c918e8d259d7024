use Rattle.std.proofs.Common.{take}
use Rattle.gf_strands.specs.Strands.{ArePartsOnStrands, terms_of_parts}
use Rattle.gf_strands.specs.Splits.{AreSplit}
use Rattle.gf_strands.proofs.along.split_parts.Given as goal

abbrev pub invariant-members : goal.invariant-members
invariant-members l = record {
  split : AreSplit l.normal (take l.i l.items) l.all.indices.items l.all.marks.items (terms_of_parts l.normal l.all.list.items);
  parts : ArePartsOnStrands l.normal l.items l.all.list.items;
}
