use Rattle.std.proofs.Common.{take, All}
use Rattle.gf_facets_theory.specs.Rows.{rows_of_terms}
use Rattle.gf_cone.specs.Small.{IsSmall}
use Rattle.gf_cone.specs.Placing.{Gathers}
use Rattle.gf_cone.proofs.listing.with_normals.Given as goal

abbrev pub invariant-terms : goal.invariant-terms
invariant-terms l = record { gathers : Gathers l.fn.list.items (rows_of_terms l.head (take l.i l.terms)) l.more.items; small : All IsSmall l.more.items }
