use Rattle.std.proofs.Common.{◌≡◌, ℕ, length, arith, subst}
use Rattle.gf_buchberger.specs.Leading.{IsLeadingAt}
use Rattle.gf_buchberger.proofs.LeadingLaws.{leading_first, leading_more}
use Rattle.gf_buchberger.proofs.left.leading_of_wide.Goals as goal

pub terms-init : goal.terms-init
terms-init c = (c.requires.some, leading_first c.args.order.now _ c.requires.some)

pub terms-preserved : goal.terms-preserved
terms-preserved c = (
  c.greater-at.ensures.inside,
  leading_more c.args.order.now _ _ _ _ c.terms.invariant.0 (omega arith)
      c.greater-at.ensures.inside c.greater-at.ensures.value c.terms.invariant.1,
)

pub returns-clause-greatest : goal.returns-clause-greatest
returns-clause-greatest c = let e : c.terms.i ≡ length c.args.f.now =
    omega arith in subst (λ (k : ℕ). IsLeadingAt c.args.order.now c.args.f.now c.terms.at k) e c.terms.invariant.1
