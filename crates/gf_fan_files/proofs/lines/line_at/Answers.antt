use Rattle.std.proofs.Common.{◌≡◌, ◌+◌, ◌-◌, length, take, drop, take_while, arith, length-drop, ap, ◌∙◌}
use Rattle.std.proofs.lemmas.List.{take_rest}
use Rattle.gf_fan_files.specs.Lines.{goes_on_line, is_no_comment}
use Rattle.gf_fan_files.proofs.LinesLaws.{line_first}
use Rattle.gf_fan_files.proofs.lines.line_at.Goals as goal

pub returns-clause-line : goal.returns-clause-line
returns-clause-line c =
    let source = c.args.source.now in
    let at = c.args.at in
    let whole = c.line_length-whole.result in
    let rest = take_rest source at in
    line_first source at whole c.text_length-text.result c.requires
    (c.line_length-whole.ensures.size ∙ ap (λ l. length (take_while goes_on_line l)) rest)
    (c.text_length-text.ensures.size ∙ ap (λ l. length (take_while is_no_comment (take whole l))) rest)
    (length source)
    (let size : length (take (length source - at) (drop at source)) ≡ length source - at = ap length rest ∙ length-drop at source in let k =
    c.if-whole-rest.false in let within = c.requires in omega arith)

pub returns-then-whole-rest-clause-line : goal.returns-then-whole-rest-clause-line
returns-then-whole-rest-clause-line c =
    let source = c.args.source.now in
    let at = c.args.at in
    let whole = c.line_length-whole.result in
    let rest = take_rest source at in
    line_first source at whole c.text_length-text.result c.requires
    (c.line_length-whole.ensures.size ∙ ap (λ l. length (take_while goes_on_line l)) rest)
    (c.text_length-text.ensures.size ∙ ap (λ l. length (take_while is_no_comment (take whole l))) rest)
    (at + whole + 1)
    (let size : length (take (length source - at) (drop at source)) ≡ length source - at = ap length rest ∙ length-drop at source in let k =
    c.if-whole-rest.true in let within = c.requires in omega arith)
