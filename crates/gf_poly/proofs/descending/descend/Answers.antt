use Rattle.std.proofs.Common.{◌-◌, arith}
use Rattle.gf_poly.proofs.NeighboursLaws.{below_next, above_next}
use Rattle.gf_poly.proofs.descending.descend.Goals as goal
use Rattle.gf_poly.proofs.MarkingLaws.{nonzero_at}

pub terms-preserved : goal.terms-preserved
terms-preserved c =
    let both = c.follows.ensures.0 c.if-not-follows.false in
    below_next c.args.terms.now c.terms.i (c.terms.i - 1) c.index-terms-i.result c.index-terms-i-in-terms.result
    (omega (arith, c.terms.auto.i)) c.terms-test.true c.index-terms-i.is c.index-terms-i-in-terms.is both.0 both.1 c.terms.invariant

pub returns-then-not-follows : goal.returns-then-not-follows
returns-then-not-follows c = (
  λ no. absurd (cc),
  λ descending.
      let nonzero = nonzero_at _ _ _ c.terms-test.true c.index-terms-i-in-terms.is descending in
      let above = above_next _ _ _ _ _ (omega (arith, c.terms.auto.i)) c.terms-test.true c.index-terms-i.is c.index-terms-i-in-terms.is descending in
      absurd (cc (c.follows.ensures.1 (nonzero, above), c.if-not-follows.true)),
)
