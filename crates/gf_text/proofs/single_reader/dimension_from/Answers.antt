use Rattle.std.proofs.Common.{refl, length, subst}
use Rattle.gf_text.specs.Machine.{Reads}
use Rattle.gf_text.specs.Tokens.{lexeme, lexemes, word_more}
use Rattle.gf_text.specs.VectorText.{most_entry}
use Rattle.gf_text.specs.SingleText.{IsDimensionText}
use Rattle.gf_text.specs.declared.error.Cause.TheVariants.{Ended, Unexpected, TooWide}
use Rattle.gf_text.proofs.MachineLaws.{run_halt, run_ended}
use Rattle.gf_text.proofs.TokensLaws.{behind-lexeme}
use Rattle.gf_text.proofs.SetTokensLaws.{le_false}
use Rattle.gf_text.proofs.SingleTextLaws.{single_step, takes_dimension, dimension_read, dimension_fault}
use Rattle.gf_text.proofs.single_reader.dimension_from.Goals as goal

pub returns-in_default-clause-err : goal.returns-in_default-clause-err
returns-in_default-clause-err c =
    let source = c.args.source.now in
    rw c.refused_at.ensures (
    dimension_fault (record { source = source; at = c.args.from }) (record { at = length source; cause = Ended })
    (run_ended (single_step takes_dimension) tt (length source) _ c.in_default.ensures.token)
    )

pub returns-in-None-clause-err : goal.returns-in-None-clause-err
returns-in-None-clause-err c =
    let source = c.args.source.now in
    let no = c.in-None.ensures in
    rw c.refused_at-in-None.ensures (
    dimension_fault (record { source = source; at = c.args.from }) (record { at = c.in-Some.start; cause = Unexpected })
    (run_halt (single_step takes_dimension) tt Unexpected (length source) _ (lexeme source c.in-Some.start c.in-Some.end) _ c.in-Some.ensures.token
    (rw no refl))
    )

pub returns-in-Wide-clause-err : goal.returns-in-Wide-clause-err
returns-in-Wide-clause-err c =
    let source = c.args.source.now in
    let x = lexeme source c.in-Some.start c.in-Some.end in
    let digits = c.in-Wide.ensures.0 in
    let wide = le_false _ most_entry c.in-Wide.ensures.1 in
    rw c.refused_at-in-Wide.ensures (
    dimension_fault (record { source = source; at = c.args.from }) (record { at = c.in-Some.start; cause = TooWide })
    (run_halt (single_step takes_dimension) tt TooWide (length source) _ x _ c.in-Some.ensures.token (rw (digits, wide) refl))
    )

pub returns-then-n-gt-MOST_DIMENSION-clause-err : goal.returns-then-n-gt-MOST_DIMENSION-clause-err
returns-then-n-gt-MOST_DIMENSION-clause-err c =
    let source = c.args.source.now in
    let x = lexeme source c.in-Some.start c.in-Some.end in
    let n = c.in-Within.n in
    let number = c.in-Within.ensures in
    let ends = behind-lexeme source c.in-Some.start c.in-Some.end c.in-Some.ensures.within.1 c.in-Some.ensures.within.2 in
    let xs = lexemes word_more source c.args.from in
    record {
      place = c.in-Some.end;
      text = subst (λ p. Reads IsDimensionText xs n p) ends (dimension_read (length source) xs _ x n c.in-Some.ensures.token number.0 number.1 number.2);
      many = c.if-n-gt-MOST_DIMENSION.true;
    }

pub returns-else-n-gt-MOST_DIMENSION-clause-ok : goal.returns-else-n-gt-MOST_DIMENSION-clause-ok
returns-else-n-gt-MOST_DIMENSION-clause-ok c =
    let source = c.args.source.now in
    let x = lexeme source c.in-Some.start c.in-Some.end in
    let n = c.in-Within.n in
    let number = c.in-Within.ensures in
    let ends = behind-lexeme source c.in-Some.start c.in-Some.end c.in-Some.ensures.within.1 c.in-Some.ensures.within.2 in
    let xs = lexemes word_more source c.args.from in
    record {
      text = subst (λ p. Reads IsDimensionText xs n p) ends (dimension_read (length source) xs _ x n c.in-Some.ensures.token number.0 number.1 number.2);
      few = c.if-n-gt-MOST_DIMENSION.false;
    }
