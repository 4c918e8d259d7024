use Rattle.std.proofs.Common.{◌∙◌, refl, sym, length, subst}
use Rattle.gf_text.specs.Machine.{Reads}
use Rattle.gf_text.specs.Tokens.{lexeme, lexemes, word_more}
use Rattle.gf_text.specs.SingleText.{IsNewNameText}
use Rattle.gf_text.specs.declared.error.Cause.TheVariants.{Ended, Unexpected, RepeatedName}
use Rattle.gf_text.proofs.MachineLaws.{run_halt, run_ended}
use Rattle.gf_text.proofs.TokensLaws.{behind-lexeme}
use Rattle.gf_text.proofs.SingleTextLaws.{single_step, takes_name, name_read, name_fault}
use Rattle.gf_text.proofs.single_reader.name_from.Goals as goal

pub returns-in_default-clause-err : goal.returns-in_default-clause-err
returns-in_default-clause-err c =
    let source = c.args.source.now in
    let names = c.args.ring.now in
    rw c.refused_at.ensures (
    name_fault names (record { source = source; at = c.args.from }) (record { at = length source; cause = Ended })
    (run_ended (single_step (takes_name names)) tt (length source) _ c.in_default.ensures.token)
    )

pub returns-then-not-is_name-clause-err : goal.returns-then-not-is_name-clause-err
returns-then-not-is_name-clause-err c =
    let source = c.args.source.now in
    let names = c.args.ring.now in
    let no = sym c.is_name.ensures ∙ c.if-not-is_name.true in
    rw c.refused_at-then-not-is_name.ensures (
    name_fault names (record { source = source; at = c.args.from }) (record { at = c.in-Some.start; cause = Unexpected })
    (run_halt (single_step (takes_name names)) tt Unexpected (length source) _ (lexeme source c.in-Some.start c.in-Some.end) _ c.in-Some.ensures.token
    (rw no refl))
    )

pub returns-then-has-clause-err : goal.returns-then-has-clause-err
returns-then-has-clause-err c =
    let source = c.args.source.now in
    let names = c.args.ring.now in
    let named = sym c.is_name.ensures ∙ c.if-not-is_name.false in
    let there = sym c.has.ensures ∙ c.if-has.true in
    rw c.refused_at-then-has.ensures (
    name_fault names (record { source = source; at = c.args.from }) (record { at = c.in-Some.start; cause = RepeatedName })
    (run_halt (single_step (takes_name names)) tt RepeatedName (length source) _ (lexeme source c.in-Some.start c.in-Some.end) _ c.in-Some.ensures.token
    (rw (named, there) refl))
    )

pub returns-clause-ok : goal.returns-clause-ok
returns-clause-ok c =
    let source = c.args.source.now in
    let names = c.args.ring.now in
    let x = lexeme source c.in-Some.start c.in-Some.end in
    let named = sym c.is_name.ensures ∙ c.if-not-is_name.false in
    let new = sym c.has.ensures ∙ c.if-has.false in
    let ends = behind-lexeme source c.in-Some.start c.in-Some.end c.in-Some.ensures.within.1 c.in-Some.ensures.within.2 in
    let xs = lexemes word_more source c.args.from in
    subst (λ p. Reads (IsNewNameText names) xs x.text p) ends (name_read names (length source) xs _ x c.in-Some.ensures.token named new)
