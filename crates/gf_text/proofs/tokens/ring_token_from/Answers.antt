use Rattle.std.proofs.Common.{arith}
use Rattle.std.proofs.lemmas.List.{take_rest}
use Rattle.gf_text.specs.Tokens.{ring_more}
use Rattle.gf_text.proofs.TokensLaws.{token_at, no_token, ring_more-fits, token-fits}
use Rattle.gf_text.proofs.tokens.ring_token_from.Goals as goal

pub returns-then-start-source-clause-token : goal.returns-then-start-source-clause-token
returns-then-start-source-clause-token c = no_token (ring_more c.args.ring.now) c.args.source.now c.args.at c.spaces.result c.requires.within
    (rw take_rest at c.spaces.ensures) c.if-start-source.true

pub overflow_add-result-2 : goal.overflow_add-result-2
overflow_add-result-2 c =
    let more = c.ring_more-more.ensures.value in
    let within = token-fits (ring_more c.args.ring.now) (ring_more-fits c.args.ring.now) c.args.source.now c.args.at c.spaces.result c.requires.within
    (rw take_rest at c.spaces.ensures) c.if-start-source.false in
    omega arith

pub returns-clause-token : goal.returns-clause-token
returns-clause-token c =
    let more = c.ring_more-more.ensures.value in
    rw more (token_at (ring_more c.args.ring.now) c.args.source.now c.args.at c.spaces.result c.requires.within (rw take_rest at c.spaces.ensures)
    c.if-start-source.false)

pub returns-clause-within : goal.returns-clause-within
returns-clause-within c =
    let more = c.ring_more-more.ensures.value in
    let within = token-fits (ring_more c.args.ring.now) (ring_more-fits c.args.ring.now) c.args.source.now c.args.at c.spaces.result c.requires.within
    (rw take_rest at c.spaces.ensures) c.if-start-source.false in
    (omega arith, omega arith, omega arith)
