use Rattle.std.proofs.Common.{[], ◌∷◌, Bool, IfErr, sym, subst}
use Rattle.gf_frame.specs.Commands.{IsRefusedOn}
use Rattle.gfan_sets.specs.WeightVector.{weights_command}
use Rattle.gfan_sets.proofs.weight_vector.answer.Goals as goal

pub returns-then-options-clause-err : goal.returns-then-options-clause-err
returns-then-options-clause-err c =
    subst (λ (l : Bool). IfErr c.of_list.result (λ e. IsRefusedOn (weights_command l c.args.options.echoed) (c.args.source.now ∷ []) e.refusal))
    (sym c.if-options.true) c.of_list.ensures.err

pub returns-else-options-clause-err : goal.returns-else-options-clause-err
returns-else-options-clause-err c =
    subst (λ (l : Bool). IfErr c.of_set.result (λ e. IsRefusedOn (weights_command l c.args.options.echoed) (c.args.source.now ∷ []) e.refusal))
    (sym c.if-options.false) c.of_set.ensures.err
