use Rattle.std.proofs.Common.{[], ◌∷◌, IfErr, sym, subst}
use Rattle.gf_front.specs.declared.plain.PlainCommand.{PlainCommand}
use Rattle.gf_frame.specs.Commands.{IsRefusedOn}
use Rattle.gfan.specs.Commands.{plain_command}
use Rattle.gfan.proofs.commands.plain_answer.Goals as goal

pub returns-in-TropicalHypersurface-clause-err : goal.returns-in-TropicalHypersurface-clause-err
returns-in-TropicalHypersurface-clause-err g c =
    subst (λ (k : PlainCommand). IfErr c.answer-in-TropicalHypersurface.result (λ e. IsRefusedOn (plain_command k) (c.args.source.now ∷ []) e.refusal))
    (sym c.in-TropicalHypersurface.is) c.answer-in-TropicalHypersurface.ensures.err

pub returns-in-MinkowskiSum-clause-err : goal.returns-in-MinkowskiSum-clause-err
returns-in-MinkowskiSum-clause-err g c =
    subst (λ (k : PlainCommand). IfErr c.answer-in-MinkowskiSum.result (λ e. IsRefusedOn (plain_command k) (c.args.source.now ∷ []) e.refusal))
    (sym c.in-MinkowskiSum.is) c.answer-in-MinkowskiSum.ensures.err
