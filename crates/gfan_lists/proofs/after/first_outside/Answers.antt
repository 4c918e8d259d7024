use Rattle.std.proofs.Common.{[], sym, ◌∙◌, subst}
use Rattle.std.proofs.lemmas.Bool.{false≢true}
use Rattle.std.proofs.lemmas.List.{get_or_default}
use Rattle.gf_poly.specs.Polynomial.{Terms}
use Rattle.gf_ideal_theory.specs.NormalForms.{IsNormalForm}
use Rattle.gfan_lists.proofs.after.first_outside.Goals as goal

pub returns-then-not-is_zero-clause-some : goal.returns-then-not-is_zero-clause-some
returns-then-not-is_zero-clause-some c =
    let i = c.polynomials.i in
    let f = c.index-polynomials-i.result in
    let r = c.in_ok-rest.rest in
    record {
      inside = c.polynomials-test.true;
      remainder = subst (λ (h : Terms). IsNormalForm c.args.by.now.items h r) (c.index-polynomials-i.is ∙ get_or_default c.args.polynomials.now i f
          [] c.polynomials-test.true) c.in_ok-rest.ensures.value;
      descending = c.in_ok-rest.ensures.descending;
      variables = c.in_ok-rest.ensures.variables;
      nonzero = λ e. false≢true (sym c.if-not-is_zero.true ∙ c.is_zero.ensures.1 e);
      before = c.polynomials.invariant;
    }
