use Rattle.std.proofs.Common.{length, subst}
use Rattle.gf_text.specs.declared.written.Written.{Written}
use Rattle.gf_text.specs.Sets.{IsIn}
use Rattle.gf_small.proofs.initial.written_form.Goals as goal

pub returns-in_ok-form-in-Nonzero-clause-variables : goal.returns-in_ok-form-in-Nonzero-clause-variables
returns-in_ok-form-in-Nonzero-clause-variables c = c.in_ok-form-in-Nonzero.ensures.variables.at (length c.args.weight.now)
    (subst (λ (f : Written). IsIn (length c.args.weight.now) f) c.in-Nonzero.is c.requires.same_variables)
