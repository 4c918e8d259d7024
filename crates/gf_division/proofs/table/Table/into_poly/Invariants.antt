use Rattle.std.proofs.Common.{◌≡◌, ◌++◌, length}
use Rattle.gf_division.specs.Tables.{terms_in}
use Rattle.gf_division.proofs.table.Table.into_poly.Given as goal

abbrev pub invariant-entries : goal.invariant-entries
invariant-entries l = l.terms.items ++ terms_in l.rest.entries ≡ terms_in l.fn.self.entries.entries

abbrev pub decreases-entries : goal.decreases-entries
decreases-entries l = length l.rest.entries
