use Rattle.std.proofs.Common.{◌++◌, codes, decimal, ap, ◌∙◌}
use Rattle.gf_fan_files.specs.FanWords.{cone_text, comment}
use Rattle.gf_fan_files.proofs.FanWordsLaws.{three_parts}
use Rattle.gf_fan_files.proofs.writer.push_told.Goals as goal

pub returns : goal.returns
returns c =
    three_parts c.args.out.now.items (cone_text c.args.cone.now.rays) (comment (codes "Dimension ")) (decimal c.args.cone.now.dim) _ _ _
    c.in_ok-push_bare.ensures c.in_ok-extend_from_slice.ensures.items (c.in_ok-push_number.ensures ∙ ap (λ n. c.extend_from_slice.new.self.items ++ decimal n)
    c.from.ensures)
