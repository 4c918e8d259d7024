use Rattle.std.proofs.Common.{◌∙◌, ap, sym, length}
use Rattle.gf_text.proofs.MachineLaws.{run_go}
use Rattle.gf_fan_files.specs.declared.numbers.NumberState.TheVariants.{Unread}
use Rattle.gf_fan_files.specs.NumberText.{number_step}
use Rattle.gf_fan_files.specs.Lines.{content_from}
use Rattle.gf_fan_files.specs.FanText.{the_number, number_to, content_read}
use Rattle.gf_fan_files.specs.Found.{lexeme_of, tokens_left}
use Rattle.gf_fan_files.specs.Given.{number_move}
use Rattle.gf_fan_files.proofs.ReadingLaws.{below_read, read_ended, read_halted, read_done}
use Rattle.gf_fan_files.proofs.numbers.number_from.Goals as goal

pub returns-in_default-token_at : goal.returns-in_default-token_at
returns-in_default-token_at c =
    let source = c.args.source.now in
    let l = c.loop-token in
    let content = content_from source c.args.from in
    read_ended number_step (λ n. the_number n) (length source) (content_read (length source) (number_to c.args.limit) content) Unread content
    (below_read (length source) c.args.limit content l.invariant.below) l.state (tokens_left source l.place) l.invariant.same c.refused.result
    c.in_default-token_at.ensures.token c.refused.ensures

pub returns-in-Halt : goal.returns-in-Halt
returns-in-Halt c =
    let source = c.args.source.now in
    let l = c.loop-token in
    let content = content_from source c.args.from in
    let stops = ap (number_step l.state) (sym c.text_of.ensures) ∙ sym c.step-taken.ensures ∙ ap (λ m. number_move m) c.in-Halt.is in
    read_halted number_step (λ n. the_number n) (length source) (content_read (length source) (number_to c.args.limit) content) Unread content
    (below_read (length source) c.args.limit content l.invariant.below) l.state (tokens_left source l.place) l.invariant.same
    (lexeme_of source c.in-Some-token_at.token) (tokens_left source c.in-Some-token_at.rest) c.in-Some-token_at.ensures.token c.refused-in-Halt.result
    c.place_of.result c.in-Halt.reason stops (c.place_of.ensures source) c.refused-in-Halt.ensures

pub returns-in-Done : goal.returns-in-Done
returns-in-Done c =
    let source = c.args.source.now in
    let l = c.loop-token in
    let content = content_from source c.args.from in
    let ends = ap (number_step l.state) (sym c.text_of.ensures) ∙ sym c.step-taken.ensures ∙ ap (λ m. number_move m) c.in-Done.is in
    read_done number_step (λ n. the_number n) (length source) (content_read (length source) (number_to c.args.limit) content) Unread content
    (below_read (length source) c.args.limit content l.invariant.below) l.state (tokens_left source l.place) l.invariant.same
    (lexeme_of source c.in-Some-token_at.token) (tokens_left source c.in-Some-token_at.rest) c.in-Some-token_at.ensures.token c.in-Done.n ends

pub loop-token-preserved : goal.loop-token-preserved
loop-token-preserved c =
    let source = c.args.source.now in
    let l = c.loop-token in
    let goes = ap (number_step l.state) (sym c.text_of.ensures) ∙ sym c.step-taken.ensures ∙ ap (λ m. number_move m) c.in-Go.is in
    record {
      within = c.in-Some-token_at.ensures.rest;
      below = l.invariant.below;
      same = sym (run_go number_step l.state c.in-Go.next (length source) (tokens_left source l.place) (lexeme_of source c.in-Some-token_at.token)
          (tokens_left source c.in-Some-token_at.rest) c.in-Some-token_at.ensures.token goes) ∙ l.invariant.same;
    }
