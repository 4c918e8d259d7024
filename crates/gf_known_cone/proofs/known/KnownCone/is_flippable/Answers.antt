use Rattle.std.proofs.Common.{◌↔◌, IsTrue}
use Rattle.gf_cone.specs.Crossing.{IsCrossable, IsFlipDecided}
use Rattle.gf_cone.proofs.AnswerLaws.{IfOk-weaker}
use Rattle.gf_cone.proofs.CrossingLaws.{decided_flip}
use Rattle.gf_known_cone.proofs.known.KnownCone.is_flippable.Goals as goal

pub returns-clause-told : goal.returns-clause-told
returns-clause-told c =
    IfOk-weaker (λ r. IsTrue r ↔ IsCrossable c.args.self.now c.args.index) (IsFlipDecided c.args.self.now c.args.index) c.decided.result
    (λ r h. decided_flip c.args.self.now c.args.index c.requires r h) c.decided.ensures.ok
