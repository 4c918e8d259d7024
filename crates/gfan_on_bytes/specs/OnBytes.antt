-- The texts that a job reads, if the input and the files are bytes in memory.
-- Laws: proofs/OnBytesLaws.antt.
use Rattle.std.specs.Prelude.{◌≡◌, ◌⊎◌, ℕ, List, [], map}
use Rattle.gf_outside.specs.Memory.{FileInMemory, bytes_or_none}
use Rattle.gf_front.specs.declared.command_line.Job.{Job}
use Rattle.gf_front.specs.declared.refusal.Refusal.{Refusal}
use Rattle.gf_front.specs.declared.refusal.Refusal.TheVariants as refusals
use Rattle.gf_front.specs.declared.refusal.Status.{Status}
use Rattle.gf_front.specs.declared.refusal.Status.TheVariants as statuses
use Rattle.gf_frame.specs.Loading.{Origin}
use Rattle.gf_frame.specs.Commands.{Command, IsBegunFor, IsRefusedAtStart, IsOfOutside}
use Rattle.gf_frame.specs.Runs.{TakesTurns}
use Rattle.gfan.specs.Commands.{command_of}

-- the bytes of a source: the input, or the file of this name; a name that no file has is that of an empty file
abbrev pub text_of : List ℕ → List FileInMemory → Origin → List ℕ
text_of input files Origin.the_input = input
text_of input files (Origin.a_file name) = bytes_or_none files name

-- the texts that the job reads, in the order in which it loads them
abbrev pub texts_of : List ℕ → List FileInMemory → Job → List (List ℕ)
texts_of input files job = map (text_of input files) (command_of job).reads

-- the job gives one answer, and not one to each line of its input
abbrev pub IsOneAnswer : Job → Type 0
IsOneAnswer job = TakesTurns (command_of job).writing → ⊥

-- all was done; or there was no memory, be it for the work or for the output
abbrev pub IsDoneUnlessMemory : Status → Type 0
IsDoneUnlessMemory status = (status ≡ statuses.Done) ⊎ (status ≡ statuses.Refused refusals.Memory) ⊎ (status ≡ statuses.Refused refusals.WriteFault)

-- what a refusal leaves of the output: nothing, if it is one of the words or the outside, or for want of memory, or if the texts are refused before anything is
-- written; otherwise the beginning of the text, as far as the command has written it before this refusal
abbrev pub IsLeftOnBytes : Command → List (List ℕ) → List ℕ → Refusal → Type 0
IsLeftOnBytes c texts out r = ((out ≡ []) × (IsOfOutside r ⊎ IsRefusedAtStart c texts r)) ⊎ IsBegunFor c texts out r
