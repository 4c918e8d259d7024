use Rattle.std.specs.Prelude.{IsTrue}
use Rattle.std.proofs.Common.{◌↔◌, sym, subst, List}
use Rattle.gf_poly.specs.Polynomial.{Terms}
use Rattle.gf_saturation_theory.specs.Saturations.{HasOneTermMember}
use Rattle.gf_saturate.specs.Saturating.{IsSaturateRefusal}
use Rattle.gf_initial_monomials.specs.Outcomes.{TellsMonomial}
use Rattle.gf_initial_monomials.proofs.FaceLaws.{told_of}
use Rattle.gf_initial_monomials.proofs.vectors.told_at.Goals as goal

pub returns-then-has-clause-ok : goal.returns-then-has-clause-ok
returns-then-has-clause-ok c = record {
  forms = c.in_ok-forms.forms.items;
  are_forms = c.in_ok-forms.ensures.forms;
  none = λ member. c.has.ensures c.if-has.true (subst (λ n. HasOneTermMember n c.deref.result.now) (sym c.requires.seen)
      (subst (λ (z : List Terms). HasOneTermMember c.args.basis.now.variables z) (sym c.deref.ensures.value) member));
}

pub returns-in-Ok-true-clause-ok : goal.returns-in-Ok-true-clause-ok
returns-in-Ok-true-clause-ok c = subst (TellsMonomial c.args.basis.now.variables c.args.basis.now.items c.args.v.now) c.in-Ok-true.field-0-test
    (told_of c.args.basis.now.variables c.args.basis.now.items c.args.v.now c.in_ok-forms.forms.items c.in-Ok-true.field-0 c.in_ok-forms.ensures.forms
    (subst (λ m. IsTrue c.in-Ok-true.field-0 ↔ HasOneTermMember m c.in_ok-forms.forms.items) c.variables.ensures
    (subst (λ (z : List Terms). IsTrue c.in-Ok-true.field-0 ↔ HasOneTermMember c.variables.result z) c.deref-2.ensures.value c.in-Ok-true.ensures.ok)))

pub returns-in_ok-keep-in-Ok-false-clause-ok : goal.returns-in_ok-keep-in-Ok-false-clause-ok
returns-in_ok-keep-in-Ok-false-clause-ok c = subst (TellsMonomial c.args.basis.now.variables c.args.basis.now.items c.args.v.now) c.in-Ok-false.field-0-test
    (told_of c.args.basis.now.variables c.args.basis.now.items c.args.v.now c.in_ok-forms.forms.items c.in-Ok-false.field-0 c.in_ok-forms.ensures.forms
    (subst (λ m. IsTrue c.in-Ok-false.field-0 ↔ HasOneTermMember m c.in_ok-forms.forms.items) c.variables.ensures
    (subst (λ (z : List Terms). IsTrue c.in-Ok-false.field-0 ↔ HasOneTermMember c.variables.result z) c.deref-2.ensures.value c.in-Ok-false.ensures.ok)))

pub returns-in-Err-clause-err : goal.returns-in-Err-clause-err
returns-in-Err-clause-err c = (
  c.in_ok-forms.forms.items,
  record { forms = c.in_ok-forms.ensures.forms; variables = c.in_ok-forms.ensures.variables },
  subst (λ m. IsSaturateRefusal m c.in_ok-forms.forms.items c.args.pairs c.in-Err.refusal) c.variables.ensures
      (subst (λ (z : List Terms). IsSaturateRefusal c.variables.result z c.args.pairs c.in-Err.refusal) c.deref-2.ensures.value c.in-Err.ensures.err),
)
