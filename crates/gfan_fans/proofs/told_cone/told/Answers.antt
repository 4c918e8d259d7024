use Rattle.std.proofs.Common.{sym, subst}
use Rattle.gfan_fans.specs.ToldCones.{IsUntoldAs}
use Rattle.gfan_fans.proofs.told_cone.told.Goals as goal

pub returns-in-Err-clause-err : goal.returns-in-Err-clause-err
returns-in-Err-clause-err c =
    subst (λ b. IsUntoldAs b c.args.options.certificates c.args.n c.args.inequalities.now c.args.equations.now c.of_sections.result) (sym c.if-options.false)
    (c.in-Err.error, c.of_sections.ensures, c.in-Err.ensures.err)
