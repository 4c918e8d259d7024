use Rattle.std.proofs.Common.{arith, refl, subst, sym}
use Rattle.std.proofs.lemmas.Result.{err_from_is_err_and}
use Rattle.gf_poly.proofs.DescendingLaws.{less_greater}
use Rattle.gf_poly.proofs.MergeLaws.{Merging, Merging-start, at_left, at_right, at_both, above_at, above_none, ended, at_end, overflow_at}
use Rattle.gf_poly.proofs.merge.merged.Goals as goal
use Rattle.gf_poly.proofs.merge.merged.Goals.{then-both-test+else-j-g, else-both-test}

pub both-init : goal.both-init
both-init c = subst (λ o. Merging c.args.sign c.args.f.now c.args.g.now o c.args.f.now c.args.g.now) (sym c.in_ok-out.ensures.items)
    (Merging-start c.args.sign _ _ c.requires.left c.requires.right)

pub both-preserved-in-Greater : goal.both-preserved-in-Greater
both-preserved-in-Greater c = at_left _ _ _ _ _ _ _ _ _ c.both-test.true c.index-f-i.is c.copy.ensures c.in_ok-push-in-Greater.ensures.items
    (above_at _ _ c.index-f-i.result c.index-g-j.result c.if-j-g.true c.index-g-j.is (sym c.in-Greater.ensures)) c.both.invariant

pub both-preserved-in-Less : goal.both-preserved-in-Less
both-preserved-in-Less c = at_right _ _ _ _ _ _ _ _ _ c.if-j-g.true c.index-g-j.is c.signed_term.ensures c.in_ok-push-in-Less.ensures.items
    (above_at _ _ c.index-g-j.result c.index-f-i.result c.both-test.true c.index-f-i.is (less_greater c.index-f-i.result.mono c.index-g-j.result.mono
    (sym c.in-Less.ensures))) c.both.invariant

pub returns-in_err-coef-in-Equal-clause-cause : goal.returns-in_err-coef-in-Equal-clause-cause
returns-in_err-coef-in-Equal-clause-cause c =
    let p = err_from_is_err_and c.from_residual-in_err-coef-in-Equal.result c.from_residual-in_err-coef-in-Equal.ensures.1 in
    let e = c.in_err-coef-in-Equal.ensures in
    rw (p.1, p.2) (overflow_at c.args.sign _ _ _ _ _ c.index-f-i.result c.index-g-j.result _ c.both-test.true c.if-j-g.true c.index-f-i.is c.index-g-j.is
    c.both.invariant (sym c.in-Equal.ensures) e.overflow (λ f. let q = e.fits.1 f in cc))

pub left-preserved : goal.left-preserved
left-preserved c = record {
  merging = at_left _ _ _ _ _ _ _ _ _ c.left-test.true c.index-f-i-in-left.is c.copy-in-left.ensures c.in_ok-push.ensures.items
      (λ d. above_none _ c.args.g.now c.both.j (elim c.both-test.branch [ then-both-test+else-j-g w ↦ omega arith | else-both-test w ↦ omega arith ]))
      c.left.invariant.merging;
  from = omega arith;
}

pub right-preserved : goal.right-preserved
right-preserved c = at_right _ _ _ _ _ _ _ _ _ c.right-test.true c.index-g-j-in-right.is c.signed_term-in-right.ensures c.in_ok-push-2.ensures.items
    (λ d. above_none _ c.args.f.now c.left.i (omega arith)) c.right.invariant

pub returns-clause-value : goal.returns-clause-value
returns-clause-value c = at_end _ _ _ _ (ended _ _ _ _ c.left.i c.right.j (omega arith) (omega arith) c.right.invariant)

pub returns-clause-variables : goal.returns-clause-variables
returns-clause-variables c = record { at = λ n h k. (c.right.invariant.variables n h k).0 }

pub both-preserved : goal.both-preserved
both-preserved c = at_both c.args.sign _ _ _ _ _ _ c.index-f-i.result c.index-g-j.result _ _ c.both-test.true c.if-j-g.true c.index-f-i.is c.index-g-j.is
    c.both.invariant (sym c.in-Equal.ensures) c.in_ok-coef-in-Equal.ensures.value (c.in_ok-coef-in-Equal.ensures.fits.0 refl)
    c.copy-in-Equal.ensures c.in_ok-push_nonzero-in-Equal.ensures.ok
