-- If each polynomial is written as a monomial or as the difference of two, without numbers, no run of these commands reports the overflow of a coefficient:
-- `_buchberger`, `_bases`, `_saturation`, `_weightvector`, `_groebnercone`, `_tropicalintersection`, also with `--basistest`, `_ismarkedgroebnerbasis`,
-- `_doesidealcontain`; nor does one of `_generated`.
-- To cite: never_overflows. The rest are steps.
use Rattle.std.specs.Prelude.{◌≡◌, ℕ, List}
use Rattle.std.proofs.Common.{subst, inl, inr}
use Rattle.gf_frac.specs.declared.refusal.Overflow.{Overflow}
use Rattle.gf_front.specs.declared.command_line.Job.{Job}
use Rattle.gf_front.specs.declared.command_line.Job.TheVariants as jobs
use Rattle.gf_front.specs.declared.plain.PlainCommand.{PlainCommand}
use Rattle.gf_front.specs.declared.plain.PlainCommand.TheVariants as plains
use Rattle.gf_front.specs.declared.refusal.Refusal.TheVariants as refusals
use Rattle.gf_front.specs.Jobs.{IsJobOf}
use Rattle.gf_frame.specs.Seen.{Seen, OutputSeen}
use Rattle.gf_frame.specs.Loading.{AreLoaded}
use Rattle.gf_frame.specs.Commands.{IsRefusedOn}
use Rattle.gf_frame.specs.Runs.{TakesTurns, IsStoppedBy, AreGivenTexts}
use Rattle.gf_frame.specs.Programs.{IsRunRefused}
use Rattle.gf_frame.proofs.LoadingLaws.{loaded_known, unloaded_known}
use Rattle.gf_frame.proofs.WorkLaws.{once_alone, not_cut}
use Rattle.gf_frame.proofs.ProgramLaws.{stopped_as}
use Rattle.gfan_plain_theory.specs.WeightVector.{weight_vector_command}
use Rattle.gfan_plain_theory.proofs.WeightVectorLaws.{weight_once}
use Rattle.gfan_plain_theory.specs.GroebnerCone.{groebner_cone_command}
use Rattle.gfan_plain_theory.proofs.GroebnerConeLaws.{cone_once}
use Rattle.gfan_plain_theory.specs.BasisTest.{intersection_command}
use Rattle.gfan_plain_theory.proofs.BasisTestLaws.{intersection_once}
use Rattle.gfan_plain_theory.specs.PlainInputs.{AsksOfBinomials, IsOnBinomials}
use Rattle.gfan_plain_theory.proofs.PlainLaws.{plain_inputs}
use Rattle.gfan.specs.Commands.{plain_command, command_of}
use Rattle.gfan.proofs.CommandLaws.{lawful, plain_once}

-- ---- jobs

plain_never : (c : PlainCommand) (texts : List (List ℕ)) (x : Overflow) → AsksOfBinomials c texts →
    IsRefusedOn (plain_command c) texts (refusals.Overflow x) → ⊥
plain_never plains.IsMarkedGroebnerBasis texts x b h = plain_inputs.marks texts x b h
plain_never plains.DoesIdealContain texts x b h = plain_inputs.members texts x b h
plain_never _ texts x b h = absurd b

-- no job on such a source is refused so
job_never : (job : Job) (texts : List (List ℕ)) (x : Overflow) → IsOnBinomials job texts → IsRefusedOn (command_of job) texts (refusals.Overflow x) → ⊥
job_never (jobs.Buchberger o) texts x b h = plain_inputs.bases o texts x b h
job_never (jobs.Bases o) texts x b h = plain_inputs.lists o texts x b h
job_never (jobs.Generated o) texts x b h = plain_inputs.summaries o texts x h
job_never (jobs.Saturation o) texts x b h = plain_inputs.saturations o texts x b h
job_never (jobs.WeightVector o) texts x b h = plain_inputs.weights o texts x b h
job_never (jobs.GroebnerCone o) texts x b h = plain_inputs.cones o texts x b h
job_never (jobs.TropicalIntersection o) texts x b h = plain_inputs.prevarieties o texts x b h
job_never (jobs.Plain c) texts x b h = plain_never c texts x b h
job_never _ texts x b h = absurd b

-- ---- the run

takes_no_turns : (job : Job) (texts : List (List ℕ)) → IsOnBinomials job texts → TakesTurns (command_of job).writing → ⊥
takes_no_turns (jobs.Buchberger o) texts b t = t
takes_no_turns (jobs.Bases o) texts b t = t
takes_no_turns (jobs.Generated o) texts b t = t
takes_no_turns (jobs.Saturation o) texts b t = t
takes_no_turns (jobs.WeightVector o) texts b t = once_alone (weight_vector_command o).writing (weight_once o) t
takes_no_turns (jobs.GroebnerCone o) texts b t = once_alone (groebner_cone_command o).writing (cone_once o) t
takes_no_turns (jobs.TropicalIntersection o) texts b t = once_alone (intersection_command o).writing (intersection_once o) t
takes_no_turns (jobs.Plain c) texts b t = once_alone (plain_command c).writing (plain_once c) t
takes_no_turns _ texts b t = b

module _ (words : List (List ℕ)) (p q : Seen) (o s : OutputSeen) (job : Job) (texts : List (List ℕ)) (x : Overflow) (asked : IsJobOf words job)
    (given : AreGivenTexts (command_of job) p q texts) (b : IsOnBinomials job texts) where
  same_texts : (us : List (List ℕ)) (m : Seen) → AreLoaded (command_of job).reads p m us → us ≡ texts
  same_texts us m l = loaded_known (command_of job).reads p q m texts us (lawful job).input given.known l

  stopped : IsStoppedBy (command_of job) p q o s (refusals.Overflow x) → ⊥
  stopped (IsStoppedBy.in_loading u k e) = let m : refusals.Overflow x ≡ refusals.Memory =
      unloaded_known (command_of job).reads p q texts (refusals.Overflow x) (lawful job).input given.known given.short u in cc
  stopped (IsStoppedBy.in_work us l h left e) = job_never job texts x b (subst (λ z. IsRefusedOn (command_of job) z (refusals.Overflow x)) (same_texts us q l)
      h)
  stopped (IsStoppedBy.in_writing us text l w e rose part) = cc
  stopped (IsStoppedBy.in_turns us m l k) = not_cut (command_of job) (command_of job).writing us m q o s (refusals.Overflow x) (takes_no_turns job texts b) k

  pub never_overflows : IsRunRefused command_of words p q o s (refusals.Overflow x) → ⊥
  never_overflows h = elim (stopped_as command_of lawful words p q o s job (refusals.Overflow x) asked h) [
    | inl k ↦ stopped k
    | inr m ↦ (let e : refusals.Overflow x ≡ refusals.Memory = m.0 in cc)
  ]
