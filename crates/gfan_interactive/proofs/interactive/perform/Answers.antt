use Rattle.std.proofs.Common.{refl}
use Rattle.std.proofs.lemmas.Result.{err_from_is_err_and}
use Rattle.gf_frame.specs.Commands.{IsRefusedOn}
use Rattle.gfan_interactive.specs.Interactive.{IsNotConversed}
use Rattle.gfan_interactive.proofs.InteractiveLaws.{start_read, start_place, named_unopened, named_cut, unopened_refused}
use Rattle.gfan_interactive.proofs.interactive.perform.Goals as goal

pub returns-in_err-ring-clause-stopped : goal.returns-in_err-ring-clause-stopped
returns-in_err-ring-clause-stopped g c = λ name.
    let p = err_from_is_err_and c.from_residual.result c.from_residual.ensures.1 in
    rw (p.1, p.2) (IsNotConversed.on_text (IsRefusedOn.in_text c.in_err-ring.field-0.0 c.in_err-ring.ensures.err refl) refl refl)

pub returns-in-Err-clause-stopped : goal.returns-in-Err-clause-stopped
returns-in-Err-clause-stopped g c = λ name.
    let r = c.in_ok-ring.field-0 in
    IsNotConversed.on_text (unopened_refused name c.args.pairs c.args.source.now r.ring r.set c.in-Err.refusal c.in_ok-ring.ensures.ok
    (c.in-Err.ensures.err c.args.pairs)) refl refl

pub returns-in-Err-clause-told : goal.returns-in-Err-clause-told
returns-in-Err-clause-told g c =
    let r = c.in_ok-ring.field-0 in
    record {
      named = named_unopened c.args.source.now r.ring r.set c.args.pairs c.in-Err.refusal c.in_ok-ring.ensures.ok (c.in-Err.ensures.err c.args.pairs);
      ring = (c.in_ok-ring.ensures.ok.read.behind, c.in_ok-ring.ensures.ok.read.one);
    }

pub talk-requires-clause-place : goal.talk-requires-clause-place
talk-requires-clause-place g c =
    let r = c.in_ok-ring.field-0 in
    start_place _ r.set c.in-Ok.start c.in_ok-ring.ensures.variables (start_read c.args.source.now r.ring r.set c.in-Ok.start c.in_ok-ring.ensures.ok
    c.in-Ok.ensures.ok)

pub returns-in-Ok-talk-clause-done : goal.returns-in-Ok-talk-clause-done
returns-in-Ok-talk-clause-done g c =
    let r = c.in_ok-ring.field-0 in
    record {
      value = (r.ring, r.set);
      read = c.in_ok-ring.ensures.ok;
      held = record {
        start = c.in-Ok.start;
        is_start = start_read c.args.source.now r.ring r.set c.in-Ok.start c.in_ok-ring.ensures.ok c.in-Ok.ensures.ok;
        held = c.in-Ok-talk.ensures.held;
      };
      calm = c.in-Ok-talk.ensures.calm;
    }

pub returns-in-Err-talk-clause-stopped : goal.returns-in-Err-talk-clause-stopped
returns-in-Err-talk-clause-stopped g c = λ name.
    let r = c.in_ok-ring.field-0 in
    IsNotConversed.in_turns (r.ring, r.set) c.in_ok-ring.ensures.ok
    (record {
      start = c.in-Ok.start;
      is_start = start_read c.args.source.now r.ring r.set c.in-Ok.start c.in_ok-ring.ensures.ok c.in-Ok.ensures.ok;
      cut = c.in-Err-talk.ensures.cut;
    })

pub returns-in-Err-talk-clause-told : goal.returns-in-Err-talk-clause-told
returns-in-Err-talk-clause-told g c =
    let r = c.in_ok-ring.field-0 in
    record {
      named = named_cut c.args.pairs r.ring c.in-Ok.start _ _ _ _ c.in-Err-talk.refusal c.in-Err-talk.ensures.cut;
      ring = (c.in_ok-ring.ensures.ok.read.behind, c.in_ok-ring.ensures.ok.read.one);
    }
