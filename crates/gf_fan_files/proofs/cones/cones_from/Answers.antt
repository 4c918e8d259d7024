use Rattle.std.proofs.Common.{◌∙◌, refl, sym, ap, length}
use Rattle.gf_text.proofs.MachineLaws.{run_go}
use Rattle.gf_fan_files.specs.ConeText.{cone_step, cone_start}
use Rattle.gf_fan_files.specs.Lines.{content_from}
use Rattle.gf_fan_files.specs.FanText.{the_cones, cones, content_read}
use Rattle.gf_fan_files.specs.Found.{lexeme_of, tokens_left}
use Rattle.gf_fan_files.specs.Given.{cone_state, cone_move}
use Rattle.gf_fan_files.proofs.ReadingLaws.{read_ended, read_halted, read_done}
use Rattle.gf_fan_files.proofs.cones.cones_from.Goals as goal

pub returns-in_default : goal.returns-in_default
returns-in_default c =
    let source = c.args.source.now in
    let l = c.loop-token in
    let content = content_from source c.args.from in
    read_ended cone_step (λ cs. the_cones cs) (length source) (content_read (length source) cones content) cone_start content refl
    (cone_state l.list l.cones.items l.numbers.items) (tokens_left source l.place) l.invariant.same c.refused.result c.in_default.ensures.token
    c.refused.ensures

pub returns-in-Halt : goal.returns-in-Halt
returns-in-Halt c =
    let source = c.args.source.now in
    let l = c.loop-token in
    let content = content_from source c.args.from in
    let stops = ap (cone_step (cone_state l.list l.cones.items l.numbers.items)) (sym c.text_of.ensures) ∙ sym c.in_ok-taken.ensures ∙
    ap (λ m. cone_move m c.step.new.cones.items c.step.new.numbers.items) c.in-Halt.is in
    read_halted cone_step (λ cs. the_cones cs) (length source) (content_read (length source) cones content) cone_start content refl
    (cone_state l.list l.cones.items l.numbers.items) (tokens_left source l.place) l.invariant.same
    (lexeme_of source c.in-Some.token) (tokens_left source c.in-Some.rest) c.in-Some.ensures.token c.refused-in-Halt.result c.place_of.result c.in-Halt.reason
    stops (c.place_of.ensures source) c.refused-in-Halt.ensures

pub returns-in-Done : goal.returns-in-Done
returns-in-Done c =
    let source = c.args.source.now in
    let l = c.loop-token in
    let content = content_from source c.args.from in
    let ends = ap (cone_step (cone_state l.list l.cones.items l.numbers.items)) (sym c.text_of.ensures) ∙ sym c.in_ok-taken.ensures ∙
    ap (λ m. cone_move m c.step.new.cones.items c.step.new.numbers.items) c.in-Done.is in
    rw c.of.ensures (
    read_done cone_step (λ cs. the_cones cs) (length source) (content_read (length source) cones content) cone_start content refl
    (cone_state l.list l.cones.items l.numbers.items) (tokens_left source l.place) l.invariant.same
    (lexeme_of source c.in-Some.token) (tokens_left source c.in-Some.rest) c.in-Some.ensures.token c.step.new.cones.items ends
    )

pub loop-token-preserved : goal.loop-token-preserved
loop-token-preserved c =
    let source = c.args.source.now in
    let l = c.loop-token in
    let goes = ap (cone_step (cone_state l.list l.cones.items l.numbers.items)) (sym c.text_of.ensures) ∙ sym c.in_ok-taken.ensures ∙
    ap (λ m. cone_move m c.step.new.cones.items c.step.new.numbers.items) c.in-Go.is in
    record {
      within = c.in-Some.ensures.rest;
      same = sym (run_go cone_step (cone_state l.list l.cones.items l.numbers.items) (cone_state c.in-Go.next c.step.new.cones.items c.step.new.numbers.items)
          (length source) (tokens_left source l.place) (lexeme_of source c.in-Some.token) (tokens_left source c.in-Some.rest) c.in-Some.ensures.token goes) ∙
          l.invariant.same;
    }
