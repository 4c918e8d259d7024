use Rattle.std.proofs.Common.{◌∙◌, sym, ap, length, Ok}
use Rattle.gf_text.specs.Tokens.{lexeme}
use Rattle.gf_text.specs.RingText.{ring_step, ring_at}
use Rattle.gf_text.specs.Given.{ring_move}
use Rattle.gf_text.specs.declared.error.Cause.TheVariants.{Ended}
use Rattle.gf_text.proofs.MachineLaws.{run_go, run_done, run_halt, run_ended, failed}
use Rattle.gf_text.proofs.TokensLaws.{behind-lexeme}
use Rattle.gf_text.proofs.ring_reader.names_from.Goals as goal

pub returns-in_default-clause-ring : goal.returns-in_default-clause-ring
returns-in_default-clause-ring c =
    let source = c.args.source.now in
    rw c.refused_at.ensures (
    failed (ring_at source c.args.from) (length source) Ended
    (sym c.loop-start.invariant.same ∙ run_ended ring_step (c.loop-start.place, c.loop-start.names) (length source) _ c.in_default.ensures.token)
    )

pub returns-in-Halt-clause-ring : goal.returns-in-Halt-clause-ring
returns-in-Halt-clause-ring c =
    let source = c.args.source.now in
    let move = sym c.in_ok-next.ensures ∙ ap (λ m. ring_move m c.step.new.names) c.in-Halt.is in
    rw c.refused_at-in-Halt.ensures (
    failed (ring_at source c.args.from) c.in-Some.start c.in-Halt.cause
    (sym c.loop-start.invariant.same ∙ run_halt ring_step (c.loop-start.place, c.loop-start.names) c.in-Halt.cause (length source) _
    (lexeme source c.in-Some.start c.in-Some.end) _ c.in-Some.ensures.token move)
    )

pub returns-in-Done-clause-ring : goal.returns-in-Done-clause-ring
returns-in-Done-clause-ring c =
    let source = c.args.source.now in
    let move = sym c.in_ok-next.ensures ∙ ap (λ m. ring_move m c.step.new.names) c.in-Done.is in
    sym c.loop-start.invariant.same
    ∙ run_done ring_step (c.loop-start.place, c.loop-start.names) c.step.new.names (length source) _ (lexeme source c.in-Some.start c.in-Some.end)
    _ c.in-Some.ensures.token move
    ∙ ap (λ n. Ok (c.step.new.names, n)) (behind-lexeme source c.in-Some.start c.in-Some.end c.in-Some.ensures.within.1 c.in-Some.ensures.within.2)

pub loop-start-preserved : goal.loop-start-preserved
loop-start-preserved c =
    let source = c.args.source.now in
    let move = sym c.in_ok-next.ensures ∙ ap (λ m. ring_move m c.step.new.names) c.in-Go.is in
    record {
      within = c.in-Some.ensures.within.2;
      same = sym (run_go ring_step (c.loop-start.place, c.loop-start.names) (c.in-Go.next, c.step.new.names) (length source) _
          (lexeme source c.in-Some.start c.in-Some.end) _ c.in-Some.ensures.token move)
          ∙ c.loop-start.invariant.same;
    }
