use Rattle.std.proofs.Common.{◌∷◌, [], ◌++◌, ap, ◌∙◌, map, List, ℕ, ℤ, append_assoc}
use Rattle.gf_fan_files.specs.FanWords.{spaced_entries, lines_text}
use Rattle.gf_fan_files.proofs.FanWordsLaws.{rows_text, three_parts}
use Rattle.gf_fan_files.proofs.writer.push_rows_section.Goals as goal

pub returns : goal.returns
returns c =
    let name = c.args.name.now in
    let text = lines_text (map (λ (r : List ℤ). spaced_entries r) c.args.rows.now) in
    three_parts c.args.out.now.items (name ++ 10 ∷ []) text (10 ∷ []) _ _ _
    c.in_ok-push_name.ensures (c.in_ok-push_rows.ensures ∙ ap (λ (l : List ℕ). c.push_name.new.out.items ++ l) (rows_text c.args.rows.now))
    c.in_ok-push.ensures.items
    ∙ ap (λ (l : List ℕ). c.args.out.now.items ++ l) (append_assoc name (10 ∷ []) (text ++ 10 ∷ []))
