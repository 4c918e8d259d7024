use Rattle.std.proofs.Common.{◌≡◌, length}
use Rattle.gf_text.specs.Fronts.{IsTable, IsFound}
use Rattle.gf_text.proofs.fronts.table_of.Given as goal

abbrev pub invariant-loop-at : goal.invariant-loop-at
invariant-loop-at l = record {
  table : IsTable l.name l.table.items;
  long : length l.table.items ≡ l.at;
  found : IsFound l.name l.name l.found;
}
