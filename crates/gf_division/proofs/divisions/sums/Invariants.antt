use Rattle.std.proofs.Common.{◌≡◌, ◌++◌}
use Rattle.gf_division.specs.Divisions.{lists_of}
use Rattle.gf_division.proofs.QuotientLaws.{Summing}
use Rattle.gf_division.proofs.divisions.sums.Given as goal

abbrev pub invariant-members : goal.invariant-members
invariant-members l = Summing (lists_of l.yielded) l.cofactors.items × (l.yielded ++ l.list-iterator.rest.items ≡ l.fn.lists.items)
