use Rattle.std.proofs.Common.{◌≡◌, ◌+◌, List, length}
use Rattle.gf_poly.specs.Polynomial.{Terms}
use Rattle.gf_poly.specs.Marking.{MarkedPolynomials}
use Rattle.gf_subtree.specs.Rows.{Row, row_left_at_most}
use Rattle.gfan_lists.specs.Ahead.{AreAhead}
use Rattle.gfan_lists.specs.BasesWriting.{GoesOnBehind, IsUnderWay}
use Rattle.gfan_lists.proofs.bases.write_waves.Given as goal

-- some bases are written, some behind them are taken out of the row, and the others are left
abbrev pub invariant-list : goal.invariant-list
invariant-list g l = record {
  under_way : (row : Row) × AreAhead l.fn.options.certified l.ring l.region l.is_first l.ahead.items row l.waves
      × ((before : List MarkedPolynomials) (fs : List Terms) → GoesOnBehind before (length l.ring) l.region fs l.fn.options.pairs l.fn.waves
      → IsUnderWay before l.fn.options l.ring l.region fs row l.room l.is_first (g.K.Sink.held l.initial.output) (g.K.Sink.held l.output));
  calm : g.K.Sink.faults l.output ≡ g.K.Sink.faults l.initial.output;
}

abbrev pub decreases-list : goal.decreases-list
decreases-list g l = row_left_at_most l.waves + length l.ahead.items
