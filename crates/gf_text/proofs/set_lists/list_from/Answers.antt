use Rattle.std.proofs.lemmas.Result.{err_from_is_err_and}
use Rattle.std.proofs.Common.{◌∙◌, [], sym, subst, length}
use Rattle.gf_text.specs.Tokens.{ring_more}
use Rattle.gf_text.specs.SetText.{set_step, empty}
use Rattle.gf_text.specs.Given.{Fails}
use Rattle.gf_text.specs.declared.set_reader.SetPlace.TheVariants.{Brace}
use Rattle.gf_text.specs.declared.error.Cause.TheVariants.{Ended, Unexpected}
use Rattle.gf_text.proofs.MachineLaws.{failed}
use Rattle.gf_text.proofs.ListReadLaws.{opening_ended, opening_none, opening_brace}
use Rattle.gf_text.proofs.set_lists.list_from.Goals as goal

pub returns-in_default-clause-err : goal.returns-in_default-clause-err
returns-in_default-clause-err c =
    let ring = c.args.ring.now in
    let source = c.args.source.now in
    rw c.refused_at.ensures (failed _ (length source) Ended (opening_ended (set_step ring) (Brace, empty) (ring_more ring) source
    [] c.args.from c.in_default.ensures.token))

pub returns-then-not-is_mark-clause-err : goal.returns-then-not-is_mark-clause-err
returns-then-not-is_mark-clause-err c =
    let ring = c.args.ring.now in
    let source = c.args.source.now in
    let other = sym c.is_mark.ensures ∙ c.if-not-is_mark.true in
    rw c.refused_at-then-not-is_mark.ensures (
    failed _ c.in-Some.start Unexpected (opening_none (set_step ring) (Brace, empty) (ring_more ring) source [] c.args.from c.in-Some.start c.in-Some.end
    c.in-Some.ensures.token other)
    )

pub returns-in_err-sums-clause-err : goal.returns-in_err-sums-clause-err
returns-in_err-sums-clause-err c =
    let ring = c.args.ring.now in
    let source = c.args.source.now in
    let e = c.in_err-sums.field-0.0 in
    let is = sym c.is_mark.ensures ∙ c.if-not-is_mark.false in
    let on = opening_brace (set_step ring) (Brace, empty) (ring_more ring) source [] c.args.from c.in-Some.start c.in-Some.end c.in-Some.ensures.token is in
    let p = err_from_is_err_and c.from_residual.result c.from_residual.ensures.1 in
    rw (p.1, p.2) (subst (λ r. Fails e r) (sym on) c.in_err-sums.ensures.err)

pub returns-clause-ok : goal.returns-clause-ok
returns-clause-ok c =
    let ring = c.args.ring.now in
    let source = c.args.source.now in
    let set = c.in_ok-sums.ensures.ok in
    let is = sym c.is_mark.ensures ∙ c.if-not-is_mark.false in
    let on = opening_brace (set_step ring) (Brace, empty) (ring_more ring) source [] c.args.from c.in-Some.start c.in-Some.end c.in-Some.ensures.token is in
    record { said = set.said; read = on ∙ set.read; come = set.come }
