use Rattle.std.proofs.Common.{Bool, [], ◌∷◌, IfErr, sym, subst}
use Rattle.gf_frame.specs.Commands.{IsRefusedOn}
use Rattle.gfan_fans.specs.BasisTest.{intersection_by}
use Rattle.gfan_fans.proofs.tropical_intersection.answer.Goals as goal

pub returns-else-options-clause-err : goal.returns-else-options-clause-err
returns-else-options-clause-err g c =
    subst (λ (t : Bool). IfErr c.answer-else-options.result (λ e. IsRefusedOn (intersection_by t) (c.args.source.now ∷ []) e.refusal)) (sym c.if-options.false)
    c.answer-else-options.ensures.err
