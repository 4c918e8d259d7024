-- What a run of a program does that has a command for each job, in one case for all commands. What the outside shows before and after, p and
-- q of the input and the files, and o and s of the output, stands in this order.
use Rattle.std.specs.Prelude.{◌≡◌, ◌⊎◌, ℕ, List}
use Rattle.std.specs.Io.KnownBytes.{Appends, Keeps}
use Rattle.gf_outside.specs.Faults.{Rose}
use Rattle.gf_front.specs.declared.command_line.Job.{Job}
use Rattle.gf_front.specs.declared.refusal.Refusal.{Refusal}
use Rattle.gf_front.specs.declared.refusal.Refusal.TheVariants as refusals
use Rattle.gf_front.specs.declared.refusal.Status.{Status}
use Rattle.gf_front.specs.declared.refusal.Status.TheVariants as statuses
use Rattle.gf_front.specs.Jobs.{IsMatched, IsJobOf}
use Rattle.gf_items.specs.Refusals.{IsOfNumbers, TellsSame}
use Rattle.gf_frame.specs.Seen.{Seen, OutputSeen}
use Rattle.gf_frame.specs.Loading.{AreLoaded, AreKnown, IsSomeLong, HaveInput, HaveFile, AreReadWithin, IsOneTooLong}
use Rattle.gf_frame.specs.Commands.{Command, IsBegunFor, IsRefusedAtOnce, IsRefusedOn, IsInReach, IsFixed, IsOfOutside}
use Rattle.gf_frame.specs.Runs.{TakesTurns, IsDoneBy, IsStoppedBy, AreCut, AreGivenTexts, IsHeard, IsJobRefused, LeavesInOutput}

-- ---- how it ends

-- the words ask for a job, and its command is done
pub record IsRunDone (command_of : Job → Command) (words : List (List ℕ)) (p q : Seen) (o s : OutputSeen) : Type 0 where
  pub job : Job
  pub asked : IsJobOf words job
  pub done : IsDoneBy (command_of job) p q o s

-- the table has no match for the words, and nothing moved; or there is no memory before a job is known; or the command of a job is stopped
pub data IsRunRefused (command_of : Job → Command) (words : List (List ℕ)) (p q : Seen) (o s : OutputSeen) (r : Refusal) : Type 0 where
  no_job : (IsMatched words → ⊥) → r ≡ refusals.Usage → q ≡ p → s ≡ o → IsRunRefused command_of words p q o s r
  no_memory : r ≡ refusals.Memory → q ≡ p → s ≡ o → IsRunRefused command_of words p q o s r
  of_job : (job : Job) → IsJobOf words job → IsStoppedBy (command_of job) p q o s r → IsRunRefused command_of words p q o s r

-- how it ends by its status
pub record IsRunEnded (command_of : Job → Command) (words : List (List ℕ)) (p q : Seen) (o s : OutputSeen) (status : Status) : Type 0 where
  pub done : status ≡ statuses.Done → IsRunDone command_of words p q o s
  pub refused : (r : Refusal) → status ≡ statuses.Refused r → IsRunRefused command_of words p q o s r

-- ---- what follows for its reader

-- the run is refused so, or there is no memory
abbrev pub IsRefusedWith : Status → Refusal → Type 0
IsRefusedWith status refusal = (status ≡ statuses.Refused refusal) ⊎ (status ≡ statuses.Refused refusals.Memory)

-- the run is refused so, or by other multipliers of the same set; or numbers of the work don't fit, or there is no memory
abbrev pub IsTestedWith : Status → Refusal → Type 0
IsTestedWith status refusal = (told : Refusal) × (status ≡ statuses.Refused told) × (TellsSame refusal told ⊎ IsOfNumbers told)

-- all is done, or there is no memory
abbrev pub IsDoneUnlessMemory : Status → Type 0
IsDoneUnlessMemory status = (status ≡ statuses.Done) ⊎ (status ≡ statuses.Refused refusals.Memory)

-- the words ask for a job, of whose command this holds
abbrev pub OfJobAsked : List (List ℕ) → (Job → Type 0) → Type 0
OfJobAsked words holds = (job : Job) × IsJobOf words job × holds job

-- the command reads the input: as one of its sources, or in turns
abbrev pub ReadsInput : Command → Type 0
ReadsInput c = HaveInput c.reads ⊎ TakesTurns c.writing

-- no job that the words ask for reads the input
abbrev pub AskForNoInput : (Job → Command) → List (List ℕ) → Type 0
AskForNoInput command_of words = (job : Job) → IsJobOf words job → ReadsInput (command_of job) → ⊥

-- no job that the words ask for reads a file
abbrev pub AskForNoFile : (Job → Command) → List (List ℕ) → Type 0
AskForNoFile command_of words = (job : Job) → IsJobOf words job → HaveFile (command_of job).reads → ⊥

-- the sources of the job were loaded, and it is refused at its limit; just the beginning of its text stands
pub record StandsAtLimit (command_of : Job → Command) (job : Job) (p q : Seen) (o s : OutputSeen) (most : ℕ) : Type 0 where
  pub texts : List (List ℕ)
  pub loaded : AreLoaded (command_of job).reads p q texts
  pub refused : IsRefusedOn (command_of job) texts (refusals.ListLimit most)
  pub text : List ℕ
  pub begun : IsBegunFor (command_of job) texts text (refusals.ListLimit most)
  pub gained : Appends o.held s.held text

-- one byte more than it may have was taken of a source of the job; or its turns are cut off for that
pub data IsTooMuchTaken (command_of : Job → Command) (job : Job) (p q : Seen) (o s : OutputSeen) : Type 0 where
  of_source : IsOneTooLong (command_of job).reads p q → IsTooMuchTaken command_of job p q o s
  in_turns : (texts : List (List ℕ)) (m : Seen) → AreLoaded (command_of job).reads p m texts
      → AreCut (command_of job) (command_of job).writing texts m q o s refusals.InputTooLong → IsTooMuchTaken command_of job p q o s

-- what a run promises besides
pub record RunClauses (command_of : Job → Command) (words : List (List ℕ)) (p q : Seen) (o s : OutputSeen) (status : Status) : Type 0 where
  -- Done, unless there is no memory, where nothing that the job may do leaves its limits
  pub complete : (job : Job) (texts : List (List ℕ)) → IsJobOf words job → AreGivenTexts (command_of job) p q texts → IsInReach (command_of job) texts
      → IsHeard (command_of job).writing p q → (Rose o.faults s.faults → ⊥) → IsDoneUnlessMemory status
  -- what is refused before any work, at the first offending place of a text or by its form, is refused so wherever that is so
  pub exact : (job : Job) (texts : List (List ℕ)) (refusal : Refusal) → IsJobOf words job → AreGivenTexts (command_of job) p q texts
      → IsRefusedAtOnce (command_of job) texts refusal → IsRefusedWith status refusal
  -- what is refused by a text, its form or a test is refused so, unless numbers of the work before don't fit
  pub fixed : (job : Job) (texts : List (List ℕ)) (refusal : Refusal) → IsJobOf words job → AreGivenTexts (command_of job) p q texts → IsFixed refusal
      → IsRefusedOn (command_of job) texts refusal → IsTestedWith status refusal
  -- any refusal that isn't of the words or the outside is one of the job for what is read
  pub job : (refusal : Refusal) → status ≡ statuses.Refused refusal → (IsOfOutside refusal → ⊥) →
      OfJobAsked words (λ job. IsJobRefused (command_of job) p q o s refusal)
  -- a list that comes to its limit has written just so many items, and goes on
  pub limit : (most : ℕ) → status ≡ statuses.Refused (refusals.ListLimit most) → OfJobAsked words (λ job. StandsAtLimit command_of job p q o s most)
  -- Usage exactly where the table has no match for the words
  pub usage : status ≡ statuses.Refused refusals.Usage → IsMatched words → ⊥
  pub usage_always : (IsMatched words → ⊥) → (status ≡ statuses.Refused refusals.Usage) ⊎ (status ≡ statuses.Refused refusals.Memory)
  -- a source that is too long is refused, and of any other no more is read than it may have
  pub long : (job : Job) (texts : List (List ℕ)) → IsJobOf words job → AreKnown (command_of job).reads p q texts → IsSomeLong texts →
      IsRefusedWith status refusals.InputTooLong
  pub too_long : status ≡ statuses.Refused refusals.InputTooLong → OfJobAsked words (λ job. IsTooMuchTaken command_of job p q o s)
  pub short : (job : Job) → IsJobOf words job → (TakesTurns (command_of job).writing → ⊥) → (status ≡ statuses.Refused refusals.InputTooLong → ⊥) →
      AreReadWithin (command_of job).reads p q
  -- Any refusal but that of a write leaves the output as it was if the words ask for no job, or memory runs out before a job is known; otherwise
  -- what a refusal of this job leaves there.
  pub quiet : (refusal : Refusal) → status ≡ statuses.Refused refusal → (refusal ≡ refusals.WriteFault → ⊥)
      → (((refusal ≡ refusals.Usage) ⊎ (refusal ≡ refusals.Memory)) × Keeps o.held s.held)
      ⊎ OfJobAsked words (λ job. LeavesInOutput (command_of job) p q o s refusal)
  -- a fault is answered only where a call of this run failed; and no other is counted
  pub read_fault : status ≡ statuses.Refused refusals.ReadFault → Rose p.input.faults q.input.faults ⊎ Rose p.files.faults q.files.faults
  pub open_fault : status ≡ statuses.Refused refusals.OpenFault → Rose p.files.unopened q.files.unopened
  pub write_fault : status ≡ statuses.Refused refusals.WriteFault → Rose o.faults s.faults
  pub input_calm : (status ≡ statuses.Refused refusals.ReadFault → ⊥) → q.input.faults ≡ p.input.faults
  pub files_calm : (status ≡ statuses.Refused refusals.ReadFault → ⊥) → q.files.faults ≡ p.files.faults
  pub open_calm : (status ≡ statuses.Refused refusals.OpenFault → ⊥) → q.files.unopened ≡ p.files.unopened
  pub output_calm : (status ≡ statuses.Refused refusals.WriteFault → ⊥) → s.faults ≡ o.faults
  -- what files hold stays
  pub files_kept : q.files.bytes ≡ p.files.bytes
