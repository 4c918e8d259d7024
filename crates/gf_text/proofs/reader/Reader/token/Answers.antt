use Rattle.std.proofs.Common.{refl, sym, ◌∙◌, subst}
use Rattle.gf_text.specs.Tokens.{lexemes, lexeme, word_more, Position}
use Rattle.gf_text.specs.TokensRead.{IsNoToken}
use Rattle.gf_text.proofs.reader.Reader.token.Goals as goal

pub returns-then-not-begins_token-clause-err : goal.returns-then-not-begins_token-clause-err
returns-then-not-begins_token-clause-err c =
    let source = c.self.inside.source.now in
    let said : IsNoToken (record { source = source; at = c.self.inside.at }) c.in-Some.start = record {
      first = lexeme source c.in-Some.start c.in-Some.end;
      others = lexemes word_more source c.in-Some.end;
      next = c.in-Some.ensures.token;
      unknown = sym c.begins_token.ensures ∙ c.if-not-begins_token.true;
      at = refl;
    } in
    rw c.refused_at-then-not-begins_token.ensures (subst (λ (p : Position). IsNoToken p c.in-Some.start) c.self.view_is said)
