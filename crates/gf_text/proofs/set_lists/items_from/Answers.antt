use Rattle.std.proofs.lemmas.Result.{err_from_is_err_and}
use Rattle.std.proofs.Common.{◌∙◌, ◌++◌, ◌∷◌, [], refl, sym, subst, length}
use Rattle.gf_text.specs.Tokens.{lexemes, ring_more}
use Rattle.gf_text.specs.SetText.{set_step, empty}
use Rattle.gf_text.specs.Given.{Fails}
use Rattle.gf_text.specs.declared.set_reader.SetPlace.TheVariants.{Brace}
use Rattle.gf_text.specs.declared.error.Cause.TheVariants.{Ended, Unexpected}
use Rattle.gf_text.proofs.MachineLaws.{failed}
use Rattle.gf_text.proofs.TokensLaws.{ring_more-fits}
use Rattle.gf_text.proofs.ListReadLaws.{item_read, item_fails, behind_ended, behind_end, behind_none, behind_more}
use Rattle.gf_text.proofs.set_lists.items_from.Goals as goal

pub loop-all-init : goal.loop-all-init
loop-all-init c = record { within = c.requires; said = []; same = refl; come = c.new-all.ensures (length c.args.ring.now) }

pub returns-in_err-sums-clause-err : goal.returns-in_err-sums-clause-err
returns-in_err-sums-clause-err c =
    let ring = c.args.ring.now in
    let source = c.args.source.now in
    let e = c.in_err-sums.field-0.0 in
    let p = err_from_is_err_and c.from_residual.result c.from_residual.ensures.1 in
    rw (p.1, p.2) (
    subst (λ r. Fails e r) c.loop-all.invariant.same
    (item_fails (set_step ring) (Brace, empty) c.loop-all.invariant.said (Brace, empty) (lexemes (ring_more ring) source c.loop-all.at) (length source)
    e c.in_err-sums.ensures.err)
    )

pub returns-in_default-clause-err : goal.returns-in_default-clause-err
returns-in_default-clause-err c =
    let ring = c.args.ring.now in
    let source = c.args.source.now in
    let i = c.loop-all.invariant in
    let set = c.in_ok-sums.ensures.ok in
    let said = i.said ++ set.said ∷ [] in
    let on = item_read (set_step ring) (Brace, empty) (ring_more ring) (ring_more-fits ring) source c.loop-all.at i.said
    (Brace, empty) set.said c.in_ok-sums.end i.within set.read in
    let reading = sym on ∙ i.same in
    rw c.refused_at.ensures (failed _ (length source) Ended (sym reading ∙ behind_ended (set_step ring) (Brace, empty) (ring_more ring)
    source said c.in_ok-sums.end c.in_default.ensures.token))

pub returns-then-is_mark-clause-ok : goal.returns-then-is_mark-clause-ok
returns-then-is_mark-clause-ok c =
    let ring = c.args.ring.now in
    let source = c.args.source.now in
    let i = c.loop-all.invariant in
    let set = c.in_ok-sums.ensures.ok in
    let said = i.said ++ set.said ∷ [] in
    let on = item_read (set_step ring) (Brace, empty) (ring_more ring) (ring_more-fits ring) source c.loop-all.at i.said
    (Brace, empty) set.said c.in_ok-sums.end i.within set.read in
    let reading = sym on ∙ i.same in
    let other = sym c.is_mark.ensures ∙ c.if-not-is_mark.true in
    let last = sym c.is_mark-then-not-is_mark.ensures ∙ c.if-is_mark.true in
    let t = c.in-Some.ensures in
    record {
      said = said;
      read = sym reading ∙ behind_end (set_step ring) (Brace, empty) (ring_more ring) source said c.in_ok-sums.end c.in-Some.start c.in-Some.behind t.token
          t.within.1 t.within.2 other last;
      come = c.in_ok-add.ensures (length ring) i.said set.said i.come set.come;
    }

pub returns-then-not-is_mark-clause-err : goal.returns-then-not-is_mark-clause-err
returns-then-not-is_mark-clause-err c =
    let ring = c.args.ring.now in
    let source = c.args.source.now in
    let i = c.loop-all.invariant in
    let set = c.in_ok-sums.ensures.ok in
    let said = i.said ++ set.said ∷ [] in
    let on = item_read (set_step ring) (Brace, empty) (ring_more ring) (ring_more-fits ring) source c.loop-all.at i.said
    (Brace, empty) set.said c.in_ok-sums.end i.within set.read in
    let reading = sym on ∙ i.same in
    let other = sym c.is_mark.ensures ∙ c.if-not-is_mark.true in
    let last = sym c.is_mark-then-not-is_mark.ensures ∙ c.if-is_mark.false in
    rw c.refused_at-then-not-is_mark.ensures (
    failed _ c.in-Some.start Unexpected (sym reading ∙ behind_none (set_step ring) (Brace, empty) (ring_more ring) source said c.in_ok-sums.end c.in-Some.start
    c.in-Some.behind c.in-Some.ensures.token other last)
    )

pub loop-all-preserved : goal.loop-all-preserved
loop-all-preserved c =
    let ring = c.args.ring.now in
    let source = c.args.source.now in
    let i = c.loop-all.invariant in
    let set = c.in_ok-sums.ensures.ok in
    let said = i.said ++ set.said ∷ [] in
    let on = item_read (set_step ring) (Brace, empty) (ring_more ring) (ring_more-fits ring) source c.loop-all.at i.said
    (Brace, empty) set.said c.in_ok-sums.end i.within set.read in
    let reading = sym on ∙ i.same in
    let is = sym c.is_mark.ensures ∙ c.if-not-is_mark.false in
    record {
      within = c.in-Some.ensures.within.2;
      said = said;
      same = sym (behind_more (set_step ring) (Brace, empty) (ring_more ring) source said c.in_ok-sums.end c.in-Some.start c.in-Some.behind
          c.in-Some.ensures.token is) ∙ reading;
      come = c.in_ok-add.ensures (length ring) i.said set.said i.come set.come;
    }
