use Rattle.std.proofs.lemmas.Result.{err_from_is_err_and}
use Rattle.std.proofs.Common.{◌∙◌, [], sym, subst, length}
use Rattle.gf_text.specs.Tokens.{ring_more}
use Rattle.gf_text.specs.SetText.{set_step, empty}
use Rattle.gf_text.specs.Given.{Fails}
use Rattle.gf_text.specs.declared.set_reader.SetPlace.TheVariants.{Brace}
use Rattle.gf_text.specs.declared.error.Cause.TheVariants.{Ended}
use Rattle.gf_text.proofs.MachineLaws.{failed}
use Rattle.gf_text.proofs.ListReadLaws.{first_ended, first_end, first_other}
use Rattle.gf_text.proofs.set_lists.behind_brace.Goals as goal

pub returns-in_default-clause-err : goal.returns-in_default-clause-err
returns-in_default-clause-err c =
    let ring = c.args.ring.now in
    let source = c.args.source.now in
    rw c.refused_at.ensures (failed _ (length source) Ended (first_ended (set_step ring) (Brace, empty) (ring_more ring) source
    [] c.args.from c.in_default.ensures.token))

pub returns-then-is_mark-clause-ok : goal.returns-then-is_mark-clause-ok
returns-then-is_mark-clause-ok c =
    let ring = c.args.ring.now in
    let source = c.args.source.now in
    let t = c.in-Some.ensures in
    let last = sym c.is_mark.ensures ∙ c.if-is_mark.true in
    record {
      said = [];
      read = first_end (set_step ring) (Brace, empty) (ring_more ring) source [] c.args.from c.in-Some.start c.in-Some.end t.token t.within.1 t.within.2 last;
      come = c.new.ensures (length ring);
    }

pub returns-in_err-sums-clause-err : goal.returns-in_err-sums-clause-err
returns-in_err-sums-clause-err c =
    let ring = c.args.ring.now in
    let source = c.args.source.now in
    let e = c.in_err-sums.field-0.0 in
    let other = sym c.is_mark.ensures ∙ c.if-is_mark.false in
    let on = first_other (set_step ring) (Brace, empty) (ring_more ring) source [] c.args.from c.in-Some.start c.in-Some.end c.in-Some.ensures.token other in
    let p = err_from_is_err_and c.from_residual.result c.from_residual.ensures.1 in
    rw (p.1, p.2) (subst (λ r. Fails e r) (sym on) c.in_err-sums.ensures.err)

pub returns-clause-ok : goal.returns-clause-ok
returns-clause-ok c =
    let ring = c.args.ring.now in
    let source = c.args.source.now in
    let set = c.in_ok-sums.ensures.ok in
    let other = sym c.is_mark.ensures ∙ c.if-is_mark.false in
    let on = first_other (set_step ring) (Brace, empty) (ring_more ring) source [] c.args.from c.in-Some.start c.in-Some.end c.in-Some.ensures.token other in
    record { said = set.said; read = on ∙ set.read; come = set.come }
