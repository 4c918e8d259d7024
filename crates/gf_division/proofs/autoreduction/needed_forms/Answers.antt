use Rattle.std.proofs.Common.{◌+◌, sym, subst, ap}
use Rattle.std.proofs.lemmas.Result.{err_from_is_err_and}
use Rattle.gf_division.proofs.ReducerLaws.{member_at}
use Rattle.gf_division.proofs.NeededLaws.{Forming, forming-none, forming-more, forming-skipped, forming_end, forming_variables, needed_refused}
use Rattle.gf_division.proofs.autoreduction.needed_forms.Goals as goal
use Rattle.gf_division.proofs.autoreduction.needed_forms.Goals.{then-is_needed+in_ok-form+in_ok-push, else-is_needed}

pub members-init : goal.members-init
members-init c = subst (Forming c.args.items.now 0) (sym c.new-forms.ensures.items) (forming-none c.args.items.now)

pub returns-in_err-form-clause-cause : goal.returns-in_err-form-clause-cause
returns-in_err-form-clause-cause c =
    let p = err_from_is_err_and c.from_residual.result c.from_residual.ensures.1 in
    rw (p.1, p.2) (needed_refused c.args.items.now c.members.i c.index-items-i.result c.in_err-form.field-0.0
    (member_at c.args.items.now c.members.i c.index-items-i.result c.members-test.true c.index-items-i.is) (c.is_needed.ensures.yes c.if-is_needed.true)
    c.in_err-form.ensures.cause)

pub members-preserved : goal.members-preserved
members-preserved c = elim c.if-is_needed.branch [
  | then-is_needed+in_ok-form+in_ok-push w ↦ subst (Forming c.args.items.now (c.members.i + 1)) (sym (ap (λ v. v.items) w.forms-is))
      (forming-more c.args.items.now c.members.i c.members.forms.items w.push.new.self.items w.index-items-i.result w.in_ok-form.form
      (member_at c.args.items.now c.members.i w.index-items-i.result c.members-test.true w.index-items-i.is) (c.is_needed.ensures.yes w.if-is_needed.true)
      w.in_ok-form.ensures.form w.in_ok-form.ensures.variables w.in_ok-push.ensures.items c.members.invariant)
  | else-is_needed w ↦ subst (Forming c.args.items.now (c.members.i + 1)) (sym (ap (λ v. v.items) w.forms-is))
      (forming-skipped c.args.items.now c.members.i c.members.forms.items (c.is_needed.ensures.no w.if-is_needed.false) c.members.invariant)
]

pub returns-clause-value : goal.returns-clause-value
returns-clause-value c = forming_end c.args.items.now c.members.i c.members.forms.items c.members-test.false c.members.invariant

pub returns-clause-variables : goal.returns-clause-variables
returns-clause-variables c = forming_variables c.args.items.now c.members.i c.members.forms.items c.members.invariant
