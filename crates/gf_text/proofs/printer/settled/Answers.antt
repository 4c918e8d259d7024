use Rattle.std.proofs.Common.{◌∙◌, ap, sym, take}
use Rattle.gf_text.proofs.ToldLaws.{told_whole, told_front}
use Rattle.gf_text.proofs.printer.settled.Goals as goal

pub returns-then-is_ok-clause-ok : goal.returns-then-is_ok-clause-ok
returns-then-is_ok-clause-ok c = λ held text m n told. told_whole c.args.written held c.args.out.now.items m n text
    (sym c.is_ok.ensures.value ∙ c.if-is_ok.true) told

pub returns-clause-err : goal.returns-clause-err
returns-clause-err c = λ held text m n same told. c.truncate.ensures.items ∙ ap (λ k. take k c.args.out.now.items) same ∙ told_front c.args.written held
    c.args.out.now.items m n text told
