use Rattle.std.proofs.Common.{All}
use Rattle.gf_cone.specs.Small.{IsSmall}
use Rattle.gf_cone.proofs.RowsLaws.{Collecting}
use Rattle.gf_cone.proofs.marking.rows.Given as goal

abbrev pub invariant-members : goal.invariant-members
invariant-members l = record { rows : Collecting l.items l.rows.items l.i; small : All IsSmall l.rows.items }
