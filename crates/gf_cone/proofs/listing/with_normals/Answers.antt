use Rattle.std.proofs.Common.{refl, subst, [], ◌++◌, take, List, ℤ, ◌∙◌}
use Rattle.gf_facets_theory.specs.Rows.{row_between, rows_of_terms}
use Rattle.gf_cone.specs.Placing.{Gathers}
use Rattle.gf_cone.proofs.RowsLaws.{lengths_at, rows_more}
use Rattle.gf_cone.proofs.ListingLaws.{gathers_append}
use Rattle.gf_cone.proofs.listing.with_normals.Goals as goal

pub with_normal-requires-clause-widths : goal.with_normal-requires-clause-widths
with_normal-requires-clause-widths c = lengths_at c.args.b.now c.head-head.result.now c.terms-terms.result.now c.terms.i c.index-terms-i.result
    c.requires.variables c.head-head.ensures.marked c.head-head.ensures.value (c.terms-terms.ensures.value ∙ c.poly.ensures) c.terms-test.true
    c.index-terms-i.is

pub terms-preserved : goal.terms-preserved
terms-preserved c = record {
  gathers = subst (λ (z : List (List ℤ)). Gathers c.args.list.items z c.in_ok-more.more.items)
      (rows_more c.head-head.result.now c.terms-terms.result.now c.terms.i c.index-terms-i.result
      [] (rows_of_terms c.head-head.result.now (take c.terms.i c.terms-terms.result.now))
      (rows_of_terms c.head-head.result.now (take c.terms.i c.terms-terms.result.now) ++ row_between c.head-head.result.now c.index-terms-i.result.mono)
      c.terms-test.true c.index-terms-i.is refl refl)
      (gathers_append c.args.list.items (rows_of_terms c.head-head.result.now (take c.terms.i c.terms-terms.result.now))
      (row_between c.head-head.result.now c.index-terms-i.result.mono) c.terms.more.items c.in_ok-more.more.items c.terms.invariant.gathers
      c.in_ok-more.ensures.gathers);
  small = c.in_ok-more.ensures.small;
}
