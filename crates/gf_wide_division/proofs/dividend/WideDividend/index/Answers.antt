use Rattle.std.proofs.Common.{arith, sym}
use Rattle.gf_wide_division.proofs.DividendLaws.{over_more, descends_here, descends_end}
use Rattle.gf_wide_division.proofs.dividend.WideDividend.index.Goals as goal

pub terms-preserved : goal.terms-preserved
terms-preserved c = record {
  within = omega arith;
  over = over_more c.args.x.now c.args.self.now.terms.items c.terms.i c.index.result.now (omega arith) c.index.ensures (sym c.in-Greater.ensures)
      c.terms.invariant.over;
}

pub returns-in-Equal-clause-index : goal.returns-in-Equal-clause-index
returns-in-Equal-clause-index c = descends_here c.args.x.now c.args.self.now.terms.items c.terms.i c.index.result.now _ (omega arith)
    c.index.ensures c.in-Equal.ensures (λ z. absurd (cc)) c.terms.invariant.over

pub returns-in-Less-clause-index : goal.returns-in-Less-clause-index
returns-in-Less-clause-index c = descends_here c.args.x.now c.args.self.now.terms.items c.terms.i c.index.result.now _ (omega arith)
    c.index.ensures c.in-Less.ensures (λ z. absurd (cc)) c.terms.invariant.over

pub returns-clause-index : goal.returns-clause-index
returns-clause-index c = descends_end c.args.x.now c.args.self.now.terms.items c.terms.i (omega arith) c.terms.invariant.over
