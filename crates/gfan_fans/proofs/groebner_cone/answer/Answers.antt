use Rattle.std.proofs.Common.{[], ◌∷◌, Bool, IfErr, sym, subst}
use Rattle.gf_frame.specs.Commands.{IsRefusedOn}
use Rattle.gfan_fans.specs.GroebnerCone.{cone_command}
use Rattle.gfan_fans.proofs.groebner_cone.answer.Goals as goal

pub returns-then-options-clause-err : goal.returns-then-options-clause-err
returns-then-options-clause-err c =
    subst (λ (v : Bool). IfErr c.of_vectors.result (λ e. IsRefusedOn (cone_command v c.args.options) (c.args.source.now ∷ []) e.refusal))
    (sym c.if-options.true) c.of_vectors.ensures.err

pub returns-else-options-clause-err : goal.returns-else-options-clause-err
returns-else-options-clause-err c =
    subst (λ (v : Bool). IfErr c.of_basis.result (λ e. IsRefusedOn (cone_command v c.args.options) (c.args.source.now ∷ []) e.refusal)) (sym c.if-options.false)
    c.of_basis.ensures.err
