use Rattle.std.proofs.Common.{◌≡◌, [], replicate}
use Rattle.gf_division.specs.Divisions.{lists_of}
use Rattle.gf_division.proofs.divisions.no_quotient.Given as goal

abbrev pub invariant-members : goal.invariant-members
invariant-members l = lists_of l.lists.items ≡ replicate l.counter []
