use Rattle.std.proofs.Common.{◌∙◌, refl, sym, ap, length}
use Rattle.gf_text.proofs.MachineLaws.{run_go}
use Rattle.gf_fan_files.specs.RowText.{row_state, row_step_at, row_step, row_start}
use Rattle.gf_fan_files.specs.Lines.{content_from}
use Rattle.gf_fan_files.specs.FanText.{the_rows, rows, content_read}
use Rattle.gf_fan_files.specs.Found.{lexeme_of, tokens_left}
use Rattle.gf_fan_files.specs.Given.{row_move}
use Rattle.gf_fan_files.proofs.ReadingLaws.{read_ended, read_halted, read_done}
use Rattle.gf_fan_files.proofs.rows.rows_from.Goals as goal

pub returns-in_default : goal.returns-in_default
returns-in_default c =
    let source = c.args.source.now in
    let l = c.loop-token in
    let content = content_from source c.args.from in
    read_ended row_step (λ rs. the_rows rs) (length source) (content_read (length source) rows content) row_start content refl
    (row_state l.rows.items l.row.items l.minus) (tokens_left source l.place) l.invariant.same c.refused.result c.in_default.ensures.token c.refused.ensures

pub returns-in-Halt : goal.returns-in-Halt
returns-in-Halt c =
    let source = c.args.source.now in
    let l = c.loop-token in
    let content = content_from source c.args.from in
    let stops = ap (row_step_at l.rows.items l.row.items l.minus) (sym c.text_of.ensures) ∙ sym c.in_ok-taken.ensures.step ∙
    ap (λ m. row_move m c.step.new.rows.items c.step.new.row.items) c.in-Halt.is in
    read_halted row_step (λ rs. the_rows rs) (length source) (content_read (length source) rows content) row_start content refl
    (row_state l.rows.items l.row.items l.minus) (tokens_left source l.place) l.invariant.same
    (lexeme_of source c.in-Some.token) (tokens_left source c.in-Some.rest) c.in-Some.ensures.token c.refused-in-Halt.result c.place_of.result c.in-Halt.reason
    stops (c.place_of.ensures source) c.refused-in-Halt.ensures

pub returns-in-Done : goal.returns-in-Done
returns-in-Done c =
    let source = c.args.source.now in
    let l = c.loop-token in
    let content = content_from source c.args.from in
    let ends = ap (row_step_at l.rows.items l.row.items l.minus) (sym c.text_of.ensures) ∙ sym c.in_ok-taken.ensures.step ∙
    ap (λ m. row_move m c.step.new.rows.items c.step.new.row.items) c.in-Done.is in
    rw c.of.ensures (
    read_done row_step (λ rs. the_rows rs) (length source) (content_read (length source) rows content) row_start content refl
    (row_state l.rows.items l.row.items l.minus) (tokens_left source l.place) l.invariant.same
    (lexeme_of source c.in-Some.token) (tokens_left source c.in-Some.rest) c.in-Some.ensures.token c.step.new.rows.items ends
    )

pub loop-token-preserved : goal.loop-token-preserved
loop-token-preserved c =
    let source = c.args.source.now in
    let l = c.loop-token in
    let goes = ap (row_step_at l.rows.items l.row.items l.minus) (sym c.text_of.ensures) ∙ sym c.in_ok-taken.ensures.step ∙
    ap (λ m. row_move m c.step.new.rows.items c.step.new.row.items) c.in-Go.is in
    record {
      within = c.in-Some.ensures.rest;
      range = c.step.ensures.range;
      same = sym (run_go row_step (row_state l.rows.items l.row.items l.minus) (row_state c.step.new.rows.items c.step.new.row.items c.in-Go.negative)
          (length source) (tokens_left source l.place) (lexeme_of source c.in-Some.token) (tokens_left source c.in-Some.rest) c.in-Some.ensures.token goes) ∙
          l.invariant.same;
    }
