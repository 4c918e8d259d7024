use Rattle.std.proofs.Common.{ℕ, List, length, sym, ◌∙◌, subst}
use Rattle.std.proofs.lemmas.Result.{err_from_is_err_and}
use Rattle.gf_text.specs.declared.written.Written.{Written}
use Rattle.gf_text.specs.Sets.{AreIn}
use Rattle.gfan_common.specs.Printing.{IsPrintedSet}
use Rattle.gfan_sets.proofs.BuchbergerLaws.{within_bounded}
use Rattle.gfan_sets.proofs.ToolLaws.{entries_unanswered, forms_answered}
use Rattle.gfan_sets.proofs.initial_forms.text_of.Goals as goal

pub initial_forms-requires-clause-bounded : goal.initial_forms-requires-clause-bounded
initial_forms-requires-clause-bounded c = within_bounded c.args.vector.now c.requires.within

pub initial_forms-requires-clause-variables : goal.initial_forms-requires-clause-variables
initial_forms-requires-clause-variables c =
    subst (λ (k : ℕ). AreIn k c.args.set.now) (sym (c.in_ok-check_entries.ensures.ok ∙ c.len.ensures.value)) c.requires.variables

pub printed_set-requires : goal.printed_set-requires
printed_set-requires c =
    subst (λ (fs : List Written). AreIn (length c.args.ring.now) fs) (sym c.deref.ensures.value)
    (subst (λ (k : ℕ). AreIn k c.in_ok-forms.forms.items) (c.in_ok-check_entries.ensures.ok ∙ c.len.ensures.value) c.in_ok-forms.ensures.variables)

pub returns-in_err-check_entries-clause-err : goal.returns-in_err-check_entries-clause-err
returns-in_err-check_entries-clause-err c =
    let p = err_from_is_err_and c.from_residual.result c.from_residual.ensures.1 in
    rw (p.1, p.2) (entries_unanswered c.len.result c.args.ring.now c.args.set.now c.args.vector.now c.in_err-check_entries.field-0.0 c.len.ensures.value
    c.in_err-check_entries.ensures.err)

pub returns-clause-ok : goal.returns-clause-ok
returns-clause-ok c =
    forms_answered c.args.ring.now c.args.set.now c.args.vector.now c.in_ok-forms.forms.items c.in_ok-text.text.items
    (c.in_ok-check_entries.ensures.ok ∙ c.len.ensures.value) c.in_ok-forms.ensures.forms
    (subst (λ (fs : List Written). IsPrintedSet c.args.ring.now fs c.in_ok-text.text.items) c.deref.ensures.value c.in_ok-text.ensures)
