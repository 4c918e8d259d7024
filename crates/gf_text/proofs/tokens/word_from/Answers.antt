use Rattle.std.proofs.lemmas.List.{take_rest}
use Rattle.gf_text.specs.Tokens.{word_more}
use Rattle.gf_text.proofs.TokensLaws.{token_at, no_token}
use Rattle.gf_text.proofs.tokens.word_from.Goals as goal

pub returns-then-start-source-clause-token : goal.returns-then-start-source-clause-token
returns-then-start-source-clause-token c = no_token word_more c.args.source.now c.args.at c.spaces.result c.requires (rw take_rest at c.spaces.ensures)
    c.if-start-source.true

pub returns-clause-token : goal.returns-clause-token
returns-clause-token c =
    let more = rw take_rest at c.word_more-more.ensures in
    rw more (token_at word_more c.args.source.now c.args.at c.spaces.result c.requires (rw take_rest at c.spaces.ensures) c.if-start-source.false)
