use Rattle.std.proofs.Common.{◌≡◌, ◌++◌, take, All}
use Rattle.gf_facets_theory.specs.Rows.{rows_of_terms}
use Rattle.gf_cone.specs.Small.{IsSmall}
use Rattle.gf_cone.proofs.marking.with_member.Given as goal

abbrev pub invariant-terms : goal.invariant-terms
invariant-terms l = record { rows : l.more.items ≡ l.fn.rows.items ++ rows_of_terms l.head (take l.i l.terms); small : All IsSmall l.more.items }
