use Rattle.std.proofs.lemmas.Result.{err_from_is_err_and}
use Rattle.std.proofs.Common.{◌∙◌, [], sym, ap, subst, length}
use Rattle.gf_text.specs.ListText.{behind_item}
use Rattle.gf_text.specs.Tokens.{lexemes, word_more}
use Rattle.gf_text.specs.VectorText.{vector_step}
use Rattle.gf_text.specs.Given.{Fails}
use Rattle.gf_text.specs.VectorLists.{vectors_from}
use Rattle.gf_text.specs.declared.vector_reader.VectorPlace.TheVariants.{Parenthesis}
use Rattle.gf_text.specs.declared.error.Cause.TheVariants.{Ended, Unexpected}
use Rattle.gf_text.proofs.MachineLaws.{failed}
use Rattle.gf_text.proofs.TokensLaws.{word_more-fits}
use Rattle.gf_text.proofs.ListReadLaws.{item_read, item_fails, behind_ended, behind_end, behind_none, behind_more}
use Rattle.gf_text.proofs.vector_reader.items_from.Goals as goal

pub returns-in_err-vector-clause-vectors : goal.returns-in_err-vector-clause-vectors
returns-in_err-vector-clause-vectors c =
    let source = c.args.source.now in
    let e = c.in_err-vector.field-0.0 in
    let p = err_from_is_err_and c.from_residual.result c.from_residual.ensures.1 in
    rw (p.1, p.2) (
    subst (λ r. Fails e r) c.loop-vectors.invariant.same
    (item_fails vector_step (Parenthesis, []) c.loop-vectors.vectors.items (Parenthesis, []) (lexemes word_more source c.loop-vectors.at) (length source)
    e c.in_err-vector.ensures.vector)
    )

pub returns-in_default-clause-vectors : goal.returns-in_default-clause-vectors
returns-in_default-clause-vectors c =
    let source = c.args.source.now in
    let at = c.loop-vectors.at in
    let on = item_read vector_step (Parenthesis, []) word_more word_more-fits source at c.loop-vectors.vectors.items (Parenthesis, []) c.in_ok-vector.vector
    c.in_ok-vector.end c.loop-vectors.invariant.within c.in_ok-vector.ensures.vector in
    let reading = ap (λ l. vectors_from (behind_item, l) source c.in_ok-vector.end) c.in_ok-push.ensures.items ∙ sym on ∙ c.loop-vectors.invariant.same in
    rw c.refused_at.ensures (failed _ (length source) Ended (sym reading ∙ behind_ended vector_step (Parenthesis, []) word_more source c.push.new.self.items
    c.in_ok-vector.end c.in_default.ensures.token))

pub returns-then-is_mark-clause-vectors : goal.returns-then-is_mark-clause-vectors
returns-then-is_mark-clause-vectors c =
    let source = c.args.source.now in
    let at = c.loop-vectors.at in
    let on = item_read vector_step (Parenthesis, []) word_more word_more-fits source at c.loop-vectors.vectors.items (Parenthesis, []) c.in_ok-vector.vector
    c.in_ok-vector.end c.loop-vectors.invariant.within c.in_ok-vector.ensures.vector in
    let reading = ap (λ l. vectors_from (behind_item, l) source c.in_ok-vector.end) c.in_ok-push.ensures.items ∙ sym on ∙ c.loop-vectors.invariant.same in
    let other = sym c.is_mark.ensures ∙ c.if-not-is_mark.true in
    let last = sym c.is_mark-then-not-is_mark.ensures ∙ c.if-is_mark.true in
    let t = c.in-Some.ensures in
    sym reading ∙ behind_end vector_step (Parenthesis, []) word_more source c.push.new.self.items c.in_ok-vector.end c.in-Some.start c.in-Some.behind t.token
    t.within.1 t.within.2 other last

pub returns-then-not-is_mark-clause-vectors : goal.returns-then-not-is_mark-clause-vectors
returns-then-not-is_mark-clause-vectors c =
    let source = c.args.source.now in
    let at = c.loop-vectors.at in
    let on = item_read vector_step (Parenthesis, []) word_more word_more-fits source at c.loop-vectors.vectors.items (Parenthesis, []) c.in_ok-vector.vector
    c.in_ok-vector.end c.loop-vectors.invariant.within c.in_ok-vector.ensures.vector in
    let reading = ap (λ l. vectors_from (behind_item, l) source c.in_ok-vector.end) c.in_ok-push.ensures.items ∙ sym on ∙ c.loop-vectors.invariant.same in
    let other = sym c.is_mark.ensures ∙ c.if-not-is_mark.true in
    let last = sym c.is_mark-then-not-is_mark.ensures ∙ c.if-is_mark.false in
    rw c.refused_at-then-not-is_mark.ensures (
    failed _ c.in-Some.start Unexpected (sym reading ∙ behind_none vector_step (Parenthesis, []) word_more source c.push.new.self.items c.in_ok-vector.end
    c.in-Some.start c.in-Some.behind c.in-Some.ensures.token other last)
    )

pub loop-vectors-preserved : goal.loop-vectors-preserved
loop-vectors-preserved c =
    let source = c.args.source.now in
    let at = c.loop-vectors.at in
    let on = item_read vector_step (Parenthesis, []) word_more word_more-fits source at c.loop-vectors.vectors.items (Parenthesis, []) c.in_ok-vector.vector
    c.in_ok-vector.end c.loop-vectors.invariant.within c.in_ok-vector.ensures.vector in
    let reading = ap (λ l. vectors_from (behind_item, l) source c.in_ok-vector.end) c.in_ok-push.ensures.items ∙ sym on ∙ c.loop-vectors.invariant.same in
    let is = sym c.is_mark.ensures ∙ c.if-not-is_mark.false in
    record {
      within = c.in-Some.ensures.within.2;
      same = sym (behind_more vector_step (Parenthesis, []) word_more source c.push.new.self.items c.in_ok-vector.end c.in-Some.start c.in-Some.behind
          c.in-Some.ensures.token is) ∙ reading;
    }
