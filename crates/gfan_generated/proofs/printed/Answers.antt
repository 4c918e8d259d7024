use Rattle.std.proofs.Common.{ℕ, List, ◌++◌, codes, ap, ◌∙◌}
use Rattle.gfan_common.specs.Printing.{count_line}
use Rattle.gfan_generated.specs.Generated.{one_where, vector_line}
use Rattle.gfan_generated.proofs.SummaryLaws.{four_pieces}
use Rattle.gfan_generated.proofs.printed.Goals as goal

pub returns : goal.returns
returns c =
    let s = c.args.summary.now in
    four_pieces (count_line (codes "Bases: ") s.bases) (count_line (codes "Greatest degree: ") s.degree) (vector_line (codes "Sum of weights: ") s.weights)
    (count_line (codes "Complete: ") (one_where s.complete))
    c.push_line.new.text.items c.push_line-2.new.text.items c.push_vector.new.text.items c.push_line-3.new.text.items
    (c.in_ok-push_line.ensures ∙ ap (λ (t : List ℕ). t ++ count_line (codes "Bases: ") c.from.result) c.new-text.ensures.items ∙
    ap (λ (n : ℕ). count_line (codes "Bases: ") n) c.from.ensures)
    (c.in_ok-push_line-2.ensures ∙ ap (λ (n : ℕ). c.push_line.new.text.items ++ count_line (codes "Greatest degree: ") n) c.from-2.ensures)
    c.in_ok-push_vector.ensures
    (c.in_ok-push_line-3.ensures ∙ ap (λ (n : ℕ). c.push_vector.new.text.items ++ count_line (codes "Complete: ") n) c.one_where.ensures)
