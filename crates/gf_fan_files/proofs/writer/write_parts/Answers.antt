use Rattle.std.proofs.Common.{ap, ◌∙◌, ◌++◌, List, ℕ}
use Rattle.gf_fan_files.specs.FanWords.{front_sections, back_sections, sections_text}
use Rattle.gf_fan_files.proofs.FanWordsLaws.{both_parts}
use Rattle.gf_fan_files.proofs.writer.write_parts.Goals as goal

pub returns : goal.returns
returns c =
    let p = c.args.parts.now in
    both_parts _ _ (front_sections p) (back_sections p) (c.in_ok-push_front.ensures ∙ ap (λ (l : List ℕ). l ++ sections_text (front_sections p))
    c.new-out.ensures.items) c.in_ok-push_back.ensures
