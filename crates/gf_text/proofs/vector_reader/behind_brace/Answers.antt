use Rattle.std.proofs.Common.{◌∙◌, [], sym, ap, length, Ok}
use Rattle.gf_text.specs.Tokens.{word_more}
use Rattle.gf_text.specs.VectorText.{vector_step}
use Rattle.gf_text.specs.declared.vector_reader.VectorPlace.TheVariants.{Parenthesis}
use Rattle.gf_text.specs.declared.error.Cause.TheVariants.{Ended}
use Rattle.gf_text.proofs.MachineLaws.{failed}
use Rattle.gf_text.proofs.ListReadLaws.{first_ended, first_end, first_other}
use Rattle.gf_text.proofs.vector_reader.behind_brace.Goals as goal

pub returns-in_default-clause-vectors : goal.returns-in_default-clause-vectors
returns-in_default-clause-vectors c =
    let source = c.args.source.now in
    rw c.refused_at.ensures (failed _ (length source) Ended (first_ended vector_step (Parenthesis, []) word_more source
    [] c.args.from c.in_default.ensures.token))

pub returns-then-is_mark-clause-vectors : goal.returns-then-is_mark-clause-vectors
returns-then-is_mark-clause-vectors c =
    let source = c.args.source.now in
    let t = c.in-Some.ensures in
    let last = sym c.is_mark.ensures ∙ c.if-is_mark.true in
    first_end vector_step (Parenthesis, []) word_more source [] c.args.from c.in-Some.start c.in-Some.end t.token t.within.1 t.within.2 last
    ∙ ap (λ l. Ok (l, c.in-Some.end)) (sym c.new.ensures.items)

pub returns-clause-vectors : goal.returns-clause-vectors
returns-clause-vectors c =
    let source = c.args.source.now in
    let other = sym c.is_mark.ensures ∙ c.if-is_mark.false in
    rw (first_other vector_step (Parenthesis, []) word_more source [] c.args.from c.in-Some.start c.in-Some.end c.in-Some.ensures.token other)
    c.items_from.ensures.vectors
