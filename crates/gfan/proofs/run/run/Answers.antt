use Rattle.std.proofs.Common.{subst}
use Rattle.gf_front.specs.declared.refusal.Refusal.TheVariants as refusals
use Rattle.gf_front.specs.declared.refusal.Status.TheVariants as statuses
use Rattle.gf_frame.specs.Programs.{IsRunRefused}
use Rattle.gf_frame.proofs.ProgramLaws.{same_refusal, run_clauses}
use Rattle.gfan.specs.Commands.{command_of}
use Rattle.gfan.proofs.CommandLaws.{lawful}
use Rattle.gfan.proofs.RunLaws.{limit_not_done, limit_told}
use Rattle.gfan.proofs.PlainInputLaws.{never_overflows}
use Rattle.gfan.proofs.run.run.Goals as goal

pub returns-in-Ok-clause-follows : goal.returns-in-Ok-clause-follows
returns-in-Ok-clause-follows g c = run_clauses command_of lawful _ _ _ _ _ statuses.Done (record { done = λ e. c.in-Ok.ensures.done; refused = λ r e. cc })

pub returns-in-Ok-clause-limit_always : goal.returns-in-Ok-clause-limit_always
returns-in-Ok-clause-limit_always g c =
    λ job texts most asked given past calm. absurd (limit_not_done _ _ _ _ _ job texts most asked given past c.in-Ok.ensures.done)

pub returns-in-Err-clause-refused : goal.returns-in-Err-clause-refused
returns-in-Err-clause-refused g c = λ refusal is. subst (IsRunRefused command_of _ _ _ _ _) (same_refusal c.in-Err.refused.refusal refusal is)
    c.in-Err.ensures.refused

pub returns-in-Err-clause-follows : goal.returns-in-Err-clause-follows
returns-in-Err-clause-follows g c =
    run_clauses command_of lawful _ _ _ _ _ (statuses.Refused c.in-Err.refused.refusal) (record {
      done = λ e. cc;
      refused = λ r e. subst (IsRunRefused command_of _ _ _ _ _) (same_refusal c.in-Err.refused.refusal r e) c.in-Err.ensures.refused;
    })

pub returns-in-Err-clause-limit_always : goal.returns-in-Err-clause-limit_always
returns-in-Err-clause-limit_always g c = λ job texts most asked given past calm. limit_told _ _ _ _ _ job texts most asked given past c.in-Err.refused.refusal
    calm c.in-Err.ensures.refused

pub returns-in-Ok-clause-binomials : goal.returns-in-Ok-clause-binomials
returns-in-Ok-clause-binomials g c = λ job texts o asked given plain e. cc

pub returns-in-Err-clause-binomials : goal.returns-in-Err-clause-binomials
returns-in-Err-clause-binomials g c = λ job texts o asked given plain e.
    never_overflows _ _ _ _ _ job texts o asked given plain (subst (IsRunRefused command_of _ _ _ _ _)
    (same_refusal c.in-Err.refused.refusal (refusals.Overflow o) e) c.in-Err.ensures.refused)
