use Rattle.std.proofs.Common.{◌≡◌}
use Rattle.gf_division.specs.Tables.{table_of}
use Rattle.gf_division.proofs.remainders.next_in.Given as goal

abbrev pub invariant-waiting : goal.invariant-waiting
invariant-waiting l = table_of l.table ≡ table_of l.initial.table
