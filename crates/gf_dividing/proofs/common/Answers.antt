use Rattle.std.proofs.Common.{◌≤◌, ℕ, length, take, sym, subst, ap, arith, ◌∙◌}
use Rattle.gf_exponents_theory.specs.Exponents.{entry}
use Rattle.gf_poly.specs.declared.Term.{Term}
use Rattle.gf_poly.proofs.ProductLaws.{HasVariables-at}
use Rattle.gf_dividing.proofs.DividingLaws.{each_more, each_weaker, each_front, each_last}
use Rattle.gf_dividing.proofs.common.Goals as goal

pub shared-all-requires : goal.shared-all-requires
shared-all-requires c =
    c.terms.invariant.0
    ∙ sym (HasVariables-at c.args.n c.args.terms.now c.terms.i c.index-terms-i.result c.terms-test.true c.index-terms-i.is c.requires.variables)
    ∙ ap (λ (z : Term). length z.mono) c.index-terms-i.is

pub terms-preserved : goal.terms-preserved
terms-preserved c = (
  c.shared-all.ensures.long ∙ c.terms.invariant.0,
  each_more (λ (t : Term). (k : ℕ) → entry c.shared-all.result k ≤ entry t.mono k) c.args.terms.now c.terms.i c.index-terms-i.result c.terms-test.true
      c.index-terms-i.is
      (each_weaker (λ (t : Term). (k : ℕ) → entry c.terms.all k ≤ entry t.mono k) (λ (t : Term). (k : ℕ) → entry c.shared-all.result k ≤ entry t.mono k)
      (take c.terms.i c.args.terms.now) (λ t h k. omega (arith, h k, c.shared-all.ensures.left k)) c.terms.invariant.1)
      (λ k. subst (λ (z : Term). entry c.shared-all.result k ≤ entry z.mono k) (sym c.index-terms-i.is) (c.shared-all.ensures.right k)),
  λ j k h. c.shared-all.ensures.greatest j k
      (c.terms.invariant.2 j k (each_front (λ (t : Term). j ≤ entry t.mono k) c.args.terms.now c.terms.i h))
      (subst (λ (z : Term). j ≤ entry z.mono k) c.index-terms-i.is
      (each_last (λ (t : Term). j ≤ entry t.mono k) c.args.terms.now c.terms.i c.index-terms-i.result c.terms-test.true c.index-terms-i.is h)),
)
