use Rattle.std.proofs.Common.{List, Contains, length, sym, subst}
use Rattle.gf_poly.specs.Polynomial.{Terms, HasVariables}
use Rattle.gf_poly.specs.Marking.{MarkedPolynomial}
use Rattle.gf_poly.specs.InitialForms.{IsInitialForm}
use Rattle.gf_ideal_theory.proofs.ListLaws.{contained_each}
use Rattle.gf_saturate.proofs.StepLaws.{contains_at}
use Rattle.gf_initial_monomials.specs.Outcomes.{AreFormsAt}
use Rattle.gf_initial_monomials.proofs.FormLaws.{forms_none, forms_more, forms_all, ring_none, ring_more}
use Rattle.gf_initial_monomials.proofs.forms.forms_at.Goals as goal

pub initial_form-requires-clause-same_variables : goal.initial_form-requires-clause-same_variables
initial_form-requires-clause-same_variables c =
    let b : MarkedPolynomial = c.index-items-i.result in
    let inside : Contains c.args.basis.now.items b = subst (λ (z : List MarkedPolynomial). Contains z b) c.items-items.ensures.value
    (contains_at c.items-items.result.now c.members.i b c.members-test.true c.index-items-i.is) in
    let v : HasVariables c.args.basis.now.variables b.poly = contained_each (λ (d : MarkedPolynomial). HasVariables c.args.basis.now.variables d.poly)
    c.args.basis.now.items c.items-items.ensures.variables b inside in
    subst (HasVariables (length c.args.v.now)) (sym c.poly.ensures) (subst (λ m. HasVariables m b.poly) (sym c.requires.long) v)

pub members-init : goal.members-init
members-init c = rw c.in_ok-all.ensures.items (forms_none c.args.v.now, ring_none c.args.basis.now.variables)

pub members-preserved : goal.members-preserved
members-preserved c =
    let b : MarkedPolynomial = c.index-items-i.result in
    let inside : Contains c.args.basis.now.items b = subst (λ (z : List MarkedPolynomial). Contains z b) c.items-items.ensures.value
    (contains_at c.items-items.result.now c.members.i b c.members-test.true c.index-items-i.is) in
    let v : HasVariables c.args.basis.now.variables b.poly = contained_each (λ (d : MarkedPolynomial). HasVariables c.args.basis.now.variables d.poly)
    c.args.basis.now.items c.items-items.ensures.variables b inside in (
      forms_more c.args.v.now c.items-items.result.now c.members.i b c.in_ok-form.form c.members.all.items _ c.members-test.true c.index-items-i.is
          (subst (λ (f : Terms). IsInitialForm c.args.v.now f c.in_ok-form.form) c.poly.ensures c.in_ok-form.ensures.value)
          c.in_ok-push.ensures.items c.members.invariant.0,
      ring_more c.args.basis.now.variables c.members.all.items _ c.in_ok-form.form c.in_ok-push.ensures.items
          (c.in_ok-form.ensures.variables.at c.args.basis.now.variables (subst (HasVariables c.args.basis.now.variables) (sym c.poly.ensures) v))
          c.members.invariant.1,
    )

pub returns-clause-forms : goal.returns-clause-forms
returns-clause-forms c = subst (λ (z : List MarkedPolynomial). AreFormsAt c.args.v.now z c.members.all.items) c.items-items.ensures.value
    (forms_all c.args.v.now c.items-items.result.now c.members.i c.members.all.items c.members-test.false c.members.invariant.0)

pub returns-clause-variables : goal.returns-clause-variables
returns-clause-variables c = c.members.invariant.1
