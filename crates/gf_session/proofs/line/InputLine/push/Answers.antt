use Rattle.std.proofs.Common.{◌≡◌, ◌∷◌, [], ◌++◌, take, ap, sym, ◌∙◌, arith}
use Rattle.std.proofs.lemmas.List.{take_all}
use Rattle.gf_session.proofs.LineLaws.{kept-more, kept-full}
use Rattle.gf_session.proofs.line.InputLine.push.Goals as goal

pub returns-then-self-lt-KEPT : goal.returns-then-self-lt-KEPT
returns-then-self-lt-KEPT c =
    kept-more c.self.inside.bytes c.self.inside.count c.args.byte c.if-self-lt-KEPT.true c.self.told ∙
    ap (λ kept. take 81 (kept ++ c.args.byte ∷ [])) c.self.view_is

pub returns-else-self-lt-KEPT : goal.returns-else-self-lt-KEPT
returns-else-self-lt-KEPT c =
    let all : take c.self.inside.count c.self.inside.bytes ≡ c.self.inside.bytes =
    take_all c.self.inside.count c.self.inside.bytes (omega (arith, c.self.told, c.if-self-lt-KEPT.false)) in
    let same : c.self.inside.bytes ≡ c.args.self.now = sym all ∙ c.self.view_is in
    rw same at (kept-full c.self.inside.bytes c.args.byte c.self.told)
