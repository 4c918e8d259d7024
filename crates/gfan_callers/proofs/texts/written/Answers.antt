use Rattle.std.proofs.Common.{◌≤◌, Some, sym, ap, ◌∙◌, arith}
use Rattle.gfan_callers.proofs.WrittenLaws.{written_answer}
use Rattle.gfan_callers.proofs.texts.written.Goals as goal

pub returns-in-Done : goal.returns-in-Done
returns-in-Done g c = λ from_basis options workers asked.
    let text = c.in_ok-to_vec.ensures.items_if_clones_equal (λ x y h. h) in
    let held = c.in_ok-to_vec-in-Done.ensures.items_if_clones_equal (λ x y h. h) ∙ c.bytes.ensures in
    written_answer _ _ _ _ _ from_basis options workers c.args.input.now c.in_ok-to_vec-in-Done.field-0.items asked
    (c.new-source.ensures.left ∙ ap Some text, λ r. (let bad : 1 ≤ 0 = r in omega (arith, bad))) (ap (λ x. Some x.held) c.new-output.ensures)
    (ap Some (sym held)) (c.run.ensures.done c.in-Done.is)
