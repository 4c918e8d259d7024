use Rattle.std.proofs.Common.{◌∙◌, sym, ap, take, arith}
use Rattle.std.proofs.lemmas.List.{length-take}
use Rattle.gf_text.specs.Tokens.{lexeme, lexemes, word_more}
use Rattle.gf_fan_files.specs.Lines.{with_name, sections_from}
use Rattle.gf_fan_files.proofs.LinesLaws.{is_name, cut_lexeme}
use Rattle.gf_fan_files.proofs.lines.line_between.Goals as goal

pub returns-in_default-word_from-clause-line : goal.returns-in_default-word_from-clause-line
returns-in_default-word_from-clause-line c =
    let source = c.args.source.now in
    let s = sections_from source c.args.next in
    let w = c.in-Some.ensures.within in
    c.requires.line
    ∙ is_name source c.args.from c.args.end s (lexeme (take c.args.end source) c.in-Some.start c.in-Some.behind)
    (lexemes word_more (take c.args.end source) c.in-Some.behind) c.in-Some.ensures.token c.in_default-word_from.ensures.token
    (sym c.is_section_name.ensures ∙ c.if-not-is_section_name.false)
    ∙ ap (λ x. with_name x s) (cut_lexeme source c.args.end c.in-Some.start c.in-Some.behind (let rises = w.1 in omega arith) (let fits = w.2 in let size =
    length-take c.args.end source in omega arith))
