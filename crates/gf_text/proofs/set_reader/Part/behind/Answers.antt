use Rattle.std.proofs.Common.{◌∙◌, sym, rules}
use Rattle.gf_text.proofs.SetTokensLaws.{no_name}
use Rattle.gf_text.proofs.set_reader.Part.behind.Goals as goal

pub returns : goal.returns
returns c =
    let word = sym c.is_word.ensures ∙ c.if-is_word.false in
    let none = no_name c.args.ring.now c.names-names.ensures.ring c.args.t.now word in
    rw (none, word) (search rules)
