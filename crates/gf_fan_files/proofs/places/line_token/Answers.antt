use Rattle.std.proofs.Common.{◌∷◌, ◌++◌, ap, length, arith}
use Rattle.std.proofs.lemmas.List.{length-take}
use Rattle.gf_fan_files.specs.Lines.{line_end, sections_from, front_place, content_from}
use Rattle.gf_fan_files.proofs.LinesLaws.{left_word}
use Rattle.gf_fan_files.proofs.places.line_token.Goals as goal

pub returns-clause-token : goal.returns-clause-token
returns-clause-token c =
    let source = c.args.source.now in
    let w = c.in-Some.ensures.within in
    ap (λ l. l ++ record { text = line_end; at = front_place (length source) (sections_from source c.args.next) } ∷ content_from source c.args.next)
    (left_word source c.args.at c.args.end c.in-Some.start c.in-Some.behind c.args.minus c.in-Some.ensures.token w.1 w.2 (let fits = w.2 in let size =
    length-take c.args.end source in omega arith) c.is_minus.result c.is_minus.ensures c.else-minus.either)
