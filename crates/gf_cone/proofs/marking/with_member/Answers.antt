use Rattle.std.proofs.Common.{◌∙◌}
use Rattle.gf_cone.proofs.RowsLaws.{lengths_at, rows_more}
use Rattle.gf_cone.proofs.marking.with_member.Goals as goal

pub with_row-requires-clause-widths : goal.with_row-requires-clause-widths
with_row-requires-clause-widths c = lengths_at c.args.b.now c.head-head.result.now c.terms-terms.result.now c.terms.i c.index-terms-i.result
    c.requires.variables c.head-head.ensures.marked c.head-head.ensures.value (c.terms-terms.ensures.value ∙ c.poly.ensures) c.terms-test.true
    c.index-terms-i.is

pub terms-preserved : goal.terms-preserved
terms-preserved c = record {
  rows = rows_more c.head-head.result.now c.terms-terms.result.now c.terms.i c.index-terms-i.result _ _ _ c.terms-test.true c.index-terms-i.is
      c.in_ok-more.ensures.rows c.terms.invariant.rows;
  small = c.in_ok-more.ensures.small;
}
