use Rattle.std.proofs.Common.{◌≡◌, ◌++◌, length}
use Rattle.gf_division.specs.Tables.{terms_in}
use Rattle.gf_division.proofs.table.Table.new.Given as goal

abbrev pub invariant-terms : goal.invariant-terms
invariant-terms l = l.rest.items ++ terms_in l.entries.entries ≡ l.fn.f

abbrev pub decreases-terms : goal.decreases-terms
decreases-terms l = length l.rest.items
