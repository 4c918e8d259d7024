use Rattle.std.proofs.Common.{◌∙◌, [], sym, length}
use Rattle.gf_text.specs.Tokens.{word_more}
use Rattle.gf_text.specs.VectorText.{vector_step}
use Rattle.gf_text.specs.declared.vector_reader.VectorPlace.TheVariants.{Parenthesis}
use Rattle.gf_text.specs.declared.error.Cause.TheVariants.{Ended, Unexpected}
use Rattle.gf_text.proofs.MachineLaws.{failed}
use Rattle.gf_text.proofs.ListReadLaws.{opening_ended, opening_none, opening_brace}
use Rattle.gf_text.proofs.vector_reader.list_from.Goals as goal

pub returns-in_default-clause-vectors : goal.returns-in_default-clause-vectors
returns-in_default-clause-vectors c =
    let source = c.args.source.now in
    rw c.refused_at.ensures (failed _ (length source) Ended (opening_ended vector_step (Parenthesis, []) word_more source
    [] c.args.from c.in_default.ensures.token))

pub returns-then-not-is_mark-clause-vectors : goal.returns-then-not-is_mark-clause-vectors
returns-then-not-is_mark-clause-vectors c =
    let source = c.args.source.now in
    let other = sym c.is_mark.ensures ∙ c.if-not-is_mark.true in
    rw c.refused_at-then-not-is_mark.ensures (
    failed _ c.in-Some.start Unexpected (opening_none vector_step (Parenthesis, []) word_more source [] c.args.from c.in-Some.start c.in-Some.end
    c.in-Some.ensures.token other)
    )

pub returns-clause-vectors : goal.returns-clause-vectors
returns-clause-vectors c =
    let source = c.args.source.now in
    let is = sym c.is_mark.ensures ∙ c.if-not-is_mark.false in
    rw (opening_brace vector_step (Parenthesis, []) word_more source [] c.args.from c.in-Some.start c.in-Some.end c.in-Some.ensures.token is)
    c.behind_brace.ensures.vectors
