use Rattle.std.proofs.Common.{◌+◌, refl, inl, inr, sym, arith, ap, Err, ◌∙◌}
use Rattle.std.proofs.KnownBytes.{Keeps-refl}
use Rattle.std.proofs.lemmas.Result.{err_from_is_err_and}
use Rattle.gf_session.proofs.SessionLaws.{talk-nothing, ended-by-line, ended-by-input, heard-on, talk-more, cut-off, turn-cause, cut-short, line-short}
use Rattle.gf_session.proofs.SessionLaws.{within-input, read-calm, write-calm-from}
use Rattle.gf_session.proofs.session.converse.Goals as goal

pub loop-heard-init : goal.loop-heard-init
loop-heard-init g c = record {
  talking = rw c.new-crossed.ensures.items (talk-nothing _ _ _ _ _ _);
  state = c.requires;
  short = omega arith;
  source_calm = refl;
  output_calm = refl;
}

pub returns-in-Err-ReadFault-clause-cause : goal.returns-in-Err-ReadFault-clause-cause
returns-in-Err-ReadFault-clause-cause g c =
    let so = c.loop-heard.invariant in
    let cut = c.in-Err-ReadFault.ensures.before_fault (ap Err c.in-Err-ReadFault.field-0-is) in (
      rw so.source_calm at (c.in-Err-ReadFault.ensures.fault (ap Err c.in-Err-ReadFault.field-0-is)),
      (
        c.loop-heard.taken + cut.0,
        cut.1,
        cut-off _ _ _ _ _ _ _ _ _ _ _ _ _ c.loop-heard.taken cut.0 so.talking cut.2 (Keeps-refl _),
      ),
    )

pub returns-in-Err-InputTooLong-clause-cause : goal.returns-in-Err-InputTooLong-clause-cause
returns-in-Err-InputTooLong-clause-cause g c =
    let so = c.loop-heard.invariant in
    let cut = c.in-Err-InputTooLong.ensures.long (ap Err c.in-Err-InputTooLong.field-0-is) in
    rw cut.1 at (cut-off _ _ _ _ _ _ _ _ _ _ _ _ _ c.loop-heard.taken cut.0 so.talking cut.2 (Keeps-refl _))

pub returns-in-Quit-clause-ended : goal.returns-in-Quit-clause-ended
returns-in-Quit-clause-ended g c =
    let so = c.loop-heard.invariant in
    inr (ended-by-line _ _ _ _ _ _ _ _ _ _ _ _ _ c.loop-heard.taken c.in-Ok.heard so.talking c.in-Ok.ensures.heard c.in-Quit.is (Keeps-refl _))

pub returns-in_err-turn-clause-cause : goal.returns-in_err-turn-clause-cause
returns-in_err-turn-clause-cause g c =
    let so = c.loop-heard.invariant in
    let p = err_from_is_err_and c.from_residual.result c.from_residual.ensures.1 in
    rw (p.1, p.2) (turn-cause _ _ _ _ _ _ _ _ _ _ _ _ _ _ _ _ _ _ _ _ c.loop-heard.taken c.in-Ok.heard c.in_err-turn.field-0.0 so.talking c.in-Ok.ensures.heard
    so.output_calm c.in_err-turn.ensures.cause)

pub returns-then-heard-clause-ended : goal.returns-then-heard-clause-ended
returns-then-heard-clause-ended g c =
    let so = c.loop-heard.invariant in
    let on = heard-on _ _ _ _ _ _ _ _ _ _ _ _ _ c.loop-heard.taken c.in-Ok.heard so.talking c.in-Ok.ensures.heard in
    inl (ended-by-input _ _ _ _ _ _ _ _ _ _ _ _ _ _ _ _ c.loop-heard.taken c.in-Ok.heard so.talking c.in-Ok.ensures.heard c.if-heard.true
    (c.in_ok-turn.ensures.taken _ _ on))

pub loop-heard-preserved : goal.loop-heard-preserved
loop-heard-preserved g c =
    let so = c.loop-heard.invariant in
    let on = heard-on _ _ _ _ _ _ _ _ _ _ _ _ _ c.loop-heard.taken c.in-Ok.heard so.talking c.in-Ok.ensures.heard in
    record {
      talking = talk-more _ _ _ _ _ _ _ _ _ _ _ _ _ _ _ _ c.loop-heard.taken c.in-Ok.heard so.talking c.in-Ok.ensures.heard c.if-heard.false
          (c.in_ok-turn.ensures.taken _ _ on);
      state = c.in_ok-turn.ensures.state;
      short = c.in-Ok.ensures.short;
      source_calm = c.in-Ok.ensures.calm (λ e. cc e) ∙ so.source_calm;
      output_calm = c.in_ok-turn.ensures.calm ∙ so.output_calm;
    }

pub returns-in-Err-ReadFault-clause-err_short : goal.returns-in-Err-ReadFault-clause-err_short
returns-in-Err-ReadFault-clause-err_short g c =
    let so = c.loop-heard.invariant in
    let cut = c.in-Err-ReadFault.ensures.before_fault (ap Err c.in-Err-ReadFault.field-0-is) in
    cut-short _ _ _ _ _ _ _ _ (c.loop-heard.taken + cut.0) (cut-off _ _ _ _ _ _ _ _ _ _ _ _ _ c.loop-heard.taken cut.0 so.talking cut.2 (Keeps-refl _)) cut.1

pub returns-in-Err-InputTooLong-clause-err_source_calm : goal.returns-in-Err-InputTooLong-clause-err_source_calm
returns-in-Err-InputTooLong-clause-err_source_calm g c =
    c.in-Err-InputTooLong.ensures.calm (λ e. cc (sym (ap Err c.in-Err-InputTooLong.field-0-is) ∙ e)) ∙ c.loop-heard.invariant.source_calm

pub returns-in-Quit-clause-short : goal.returns-in-Quit-clause-short
returns-in-Quit-clause-short g c =
    line-short _ _ _ _ _ _ _ _ _ _ _ _ _ c.loop-heard.taken c.in-Ok.heard c.loop-heard.invariant.talking c.in-Ok.ensures.heard c.in-Ok.ensures.short

pub returns-in_err-turn-clause-err_short : goal.returns-in_err-turn-clause-err_short
returns-in_err-turn-clause-err_short g c =
    let p = err_from_is_err_and c.from_residual.result c.from_residual.ensures.1 in
    rw (p.1, p.2) (within-input _ _ _ _ c.in_err-turn.field-0.0
    (line-short _ _ _ _ _ _ _ _ _ _ _ _ _ c.loop-heard.taken c.in-Ok.heard c.loop-heard.invariant.talking c.in-Ok.ensures.heard c.in-Ok.ensures.short))

pub returns-in_err-turn-clause-err_source_calm : goal.returns-in_err-turn-clause-err_source_calm
returns-in_err-turn-clause-err_source_calm g c =
    let p = err_from_is_err_and c.from_residual.result c.from_residual.ensures.1 in
    rw (p.1, p.2) (read-calm _ _ c.in_err-turn.field-0.0 (c.in-Ok.ensures.calm (λ e. cc e) ∙ c.loop-heard.invariant.source_calm))

pub returns-in_err-turn-clause-err_output_calm : goal.returns-in_err-turn-clause-err_output_calm
returns-in_err-turn-clause-err_output_calm g c =
    let p = err_from_is_err_and c.from_residual.result c.from_residual.ensures.1 in
    rw (p.1, p.2) (write-calm-from _ _ _ c.in_err-turn.field-0.0 c.loop-heard.invariant.output_calm c.in_err-turn.ensures.err_calm)

pub returns-then-heard-clause-short : goal.returns-then-heard-clause-short
returns-then-heard-clause-short g c =
    line-short _ _ _ _ _ _ _ _ _ _ _ _ _ c.loop-heard.taken c.in-Ok.heard c.loop-heard.invariant.talking c.in-Ok.ensures.heard c.in-Ok.ensures.short
