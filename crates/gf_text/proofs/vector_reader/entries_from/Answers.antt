use Rattle.std.proofs.Common.{◌∙◌, sym, ap, length, Ok, arith}
use Rattle.gf_text.specs.Tokens.{lexeme}
use Rattle.gf_text.specs.VectorText.{vector_step, vector_at}
use Rattle.gf_text.specs.GivenVector.{vector_move}
use Rattle.gf_text.specs.declared.error.Cause.TheVariants.{Ended}
use Rattle.gf_text.proofs.MachineLaws.{run_go, run_done, run_halt, run_ended, failed}
use Rattle.gf_text.proofs.TokensLaws.{behind-lexeme}
use Rattle.gf_text.proofs.vector_reader.entries_from.Goals as goal

pub returns-in_default-clause-vector : goal.returns-in_default-clause-vector
returns-in_default-clause-vector c =
    let source = c.args.source.now in
    rw c.refused_at.ensures (
    failed (vector_at source c.args.from) (length source) Ended
    (sym c.loop-start.invariant.same ∙ run_ended vector_step (c.loop-start.place, c.loop-start.entries.items) (length source) _ c.in_default.ensures.token)
    )

pub returns-in-Halt-clause-vector : goal.returns-in-Halt-clause-vector
returns-in-Halt-clause-vector c =
    let source = c.args.source.now in
    let move = sym c.in_ok-next.ensures ∙ ap (λ m. vector_move m c.step.new.entries.items) c.in-Halt.is in
    rw c.refused_at-in-Halt.ensures (
    failed (vector_at source c.args.from) c.in-Some.start c.in-Halt.cause
    (sym c.loop-start.invariant.same ∙ run_halt vector_step (c.loop-start.place, c.loop-start.entries.items) c.in-Halt.cause (length source) _
    (lexeme source c.in-Some.start c.in-Some.end) _ c.in-Some.ensures.token move)
    )

pub returns-in-Done-clause-vector : goal.returns-in-Done-clause-vector
returns-in-Done-clause-vector c =
    let source = c.args.source.now in
    let move = sym c.in_ok-next.ensures ∙ ap (λ m. vector_move m c.step.new.entries.items) c.in-Done.is in
    sym c.loop-start.invariant.same
    ∙ run_done vector_step (c.loop-start.place, c.loop-start.entries.items) c.step.new.entries.items (length source) _
    (lexeme source c.in-Some.start c.in-Some.end) _ c.in-Some.ensures.token move
    ∙ ap (λ n. Ok (c.step.new.entries.items, n)) (behind-lexeme source c.in-Some.start c.in-Some.end c.in-Some.ensures.within.1 c.in-Some.ensures.within.2)

pub loop-start-preserved : goal.loop-start-preserved
loop-start-preserved c =
    let source = c.args.source.now in
    let move = sym c.in_ok-next.ensures ∙ ap (λ m. vector_move m c.step.new.entries.items) c.in-Go.is in
    record {
      within = c.in-Some.ensures.within.2;
      forward = (let before = c.loop-start.invariant.forward in let next = c.in-Some.ensures.within.0 in let rises = c.in-Some.ensures.within.1 in omega arith);
      same = sym (run_go vector_step (c.loop-start.place, c.loop-start.entries.items) (c.in-Go.next, c.step.new.entries.items) (length source) _
          (lexeme source c.in-Some.start c.in-Some.end) _ c.in-Some.ensures.token move)
          ∙ c.loop-start.invariant.same;
    }
