use Rattle.std.proofs.Common.{◌≢◌, ℕ, [], All, arith, length, sym, ◌∙◌, subst}
use Rattle.std.proofs.lemmas.Result.{err_from_is_err_and}
use Rattle.gf_poly.specs.Polynomial.{Terms, HasVariables}
use Rattle.gf_text.specs.Sets.{AreIn}
use Rattle.gfan_sets.proofs.BuchbergerLaws.{within_bounded}
use Rattle.gfan_sets.proofs.ToolLaws.{length_unanswered, zero_unanswered, marked_answered}
use Rattle.gfan_sets.proofs.mark_polynomial_set.text_of.Goals as goal

pub nonzero-requires : goal.nonzero-requires
nonzero-requires c = subst (λ (k : ℕ). AreIn k c.args.set.items) (sym c.len-n.ensures.value) c.requires.variables

pub mark_set-requires-clause-bounded : goal.mark_set-requires-clause-bounded
mark_set-requires-clause-bounded c = within_bounded c.args.vector.now c.requires.within

pub mark_set-requires-clause-some : goal.mark_set-requires-clause-some
mark_set-requires-clause-some c = subst (All (λ (f : Terms). f ≢ [])) (sym c.deref.ensures.value) c.in_ok-list.ensures.some

pub mark_set-requires-clause-variables : goal.mark_set-requires-clause-variables
mark_set-requires-clause-variables c =
    subst (All (HasVariables (length c.args.vector.now))) (sym c.deref.ensures.value)
    (subst (λ (k : ℕ). All (HasVariables k) c.in_ok-list.list.items) (c.in_ok-read.ensures.variables ∙ sym c.in_ok-check_entries.ensures.ok)
    c.in_ok-list.ensures.variables)

pub mark_set-requires-clause-short : goal.mark_set-requires-clause-short
mark_set-requires-clause-short c = omega (arith, c.in_ok-check_entries.ensures.ok, c.len-n.ensures.few)

pub printed-requires : goal.printed-requires
printed-requires c = c.in_ok-marked.ensures.variables ∙ c.in_ok-check_entries.ensures.ok ∙ c.len-n.ensures.value

pub returns-in_err-check_entries-clause-err : goal.returns-in_err-check_entries-clause-err
returns-in_err-check_entries-clause-err c =
    let p = err_from_is_err_and c.from_residual.result c.from_residual.ensures.1 in
    rw (p.1, p.2) (length_unanswered c.len-n.result c.args.ring.now c.args.set.items c.args.vector.now c.in_err-check_entries.field-0.0 c.len-n.ensures.value
    c.in_err-check_entries.ensures.err)

pub returns-in_err-read-clause-err : goal.returns-in_err-read-clause-err
returns-in_err-read-clause-err c =
    let p = err_from_is_err_and c.from_residual-in_err-read.result c.from_residual-in_err-read.ensures.1 in
    rw (p.1, p.2) (zero_unanswered c.len-n.result c.args.ring.now c.args.set.items c.args.vector.now c.in_err-read.field-0.0 c.len-n.ensures.value
    c.in_ok-check_entries.ensures.ok c.in_err-read.ensures.err)

pub returns-clause-ok : goal.returns-clause-ok
returns-clause-ok c =
    marked_answered c.len-n.result c.args.ring.now c.args.set.items c.args.vector.now c.in_ok-read.read c.in_ok-marked.marked c.deref.result.now
    c.in_ok-text.text.items c.len-n.ensures.value c.in_ok-check_entries.ensures.ok c.in_ok-read.ensures.ok
    (c.deref.ensures.value ∙ c.in_ok-list.ensures.value) c.in_ok-marked.ensures c.in_ok-text.ensures
