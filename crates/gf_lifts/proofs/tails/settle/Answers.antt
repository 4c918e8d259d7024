use Rattle.std.proofs.Common.{List, refl, sym, subst, inl, inr}
use Rattle.gf_poly.specs.Marking.{MarkedPolynomial, HaveVariables}
use Rattle.gf_division.specs.NormalForms.{HasSomeWeight}
use Rattle.gf_lifts.specs.LiftTails.{HasUndividedTailAt, IsReducedLiftAt}
use Rattle.gf_lifts.proofs.tails.settle.Goals as goal

pub stays-requires-clause-variables : goal.stays-requires-clause-variables
stays-requires-clause-variables c = record { n = c.args.n; each = subst (HaveVariables c.args.n) (sym c.deref.ensures.value) c.requires.variables }

pub reduced_lift-requires-clause-variables : goal.reduced_lift-requires-clause-variables
reduced_lift-requires-clause-variables c = record { n = c.args.n; each = subst (HaveVariables c.args.n) (sym c.deref-2.ensures.value) c.requires.variables }

pub reduced_lift-requires-clause-marked : goal.reduced_lift-requires-clause-marked
reduced_lift-requires-clause-marked c = subst HasSomeWeight (sym c.deref-2.ensures.value) c.requires.marked

pub returns-then-stays : goal.returns-then-stays
returns-then-stays c = inl (
  refl,
  subst (λ (z : List MarkedPolynomial). HasUndividedTailAt z c.args.copied.now c.args.at) c.deref.ensures.value
      (c.stays.ensures c.if-stays.true),
)

pub returns : goal.returns
returns c = inr (
  c.in_ok-member.member,
  subst (λ (z : List MarkedPolynomial). IsReducedLiftAt z c.args.at c.in_ok-member.member)
      c.deref-2.ensures.value c.in_ok-member.ensures,
  refl,
)
