use Rattle.std.proofs.Common.{ℕ, ◌+◌, arith, sym, ◌∙◌}
use Rattle.gf_exponents_theory.specs.Exponents.{plus}
use Rattle.gf_exponents_theory.proofs.ExponentsLaws.{entry-plus}
use Rattle.gf_poly.proofs.MonomialLaws.{AreEntries-more, AreEntries-all, FitsBelow-end, IsFitting-more, entry-get_or, length-plus}
use Rattle.gf_poly.proofs.monomial.sums.Goals as goal

pub entries-preserved : goal.entries-preserved
entries-preserved c = record {
  sums = AreEntries-more (λ (a b : ℕ). a + b) c.args.x.now c.args.y.now c.entries.all c.entries.i _ (omega arith)
      (omega (arith, c.sum_of-sum.ensures, entry-get_or c.args.x.now c.entries.i, entry-get_or c.args.y.now c.entries.i)) c.entries.invariant.sums;
  fit = IsFitting-more c.args.x.now c.args.y.now c.entries.i c.sum_of-sum.result c.entries.fits c.still_fits-fits.result
      (omega (arith, c.sum_of-sum.ensures, entry-get_or c.args.x.now c.entries.i, entry-get_or c.args.y.now c.entries.i))
      c.still_fits-fits.ensures.yes c.still_fits-fits.ensures.no c.entries.invariant.fit;
}

pub returns-clause-product : goal.returns-clause-product
returns-clause-product c = AreEntries-all (λ (a b : ℕ). a + b) c.args.x.now c.args.y.now (plus c.args.x.now c.args.y.now)
    c.entries.all c.entries.i c.requires.left (omega arith) (length-plus c.args.x.now c.args.y.now (c.requires.left ∙ sym c.requires.right) ∙ c.requires.left)
    (entry-plus c.args.x.now c.args.y.now) c.entries.invariant.sums

pub returns-clause-fits : goal.returns-clause-fits
returns-clause-fits c = FitsBelow-end c.args.x.now c.args.y.now c.entries.i (c.requires.left ∙ sym c.requires.right)
    (omega (arith, c.requires.left)) (c.entries.invariant.fit.so c.if-not-fits.false)
