-- What is left to do of a job on the texts of its sources. Laws: proofs/SourceLaws.antt.
use Rattle.std.specs.Prelude.{◌≡◌, ℕ, List, Vec, Result, Ok, Err}
use Rattle.std.specs.Global.{Global}
use Rattle.gf_front.specs.declared.command_line.Job.{Job}
use Rattle.gf_front.specs.declared.command_line.Job.TheVariants as jobs
use Rattle.gf_frame.specs.Commands.{WritesOnce, IsAnswered, IsRefusedOn}
use Rattle.gfan_common.specs.declared.refused.Refused.{Refused}
use Rattle.gfan.specs.declared.commands.Work.{Work}
use Rattle.gfan.specs.declared.commands.Work.TheVariants as works
use Rattle.gfan.specs.Commands.{command_of}
use Rattle.gfan.specs.Run.{IsOfLoaded}

-- the output of a job that writes once, as its work
abbrev pub as_text : Result (Vec ℕ Global) Refused → Result Work Refused
as_text (Ok text) = Ok (works.Text text)
as_text (Err refused) = Err refused

-- the job writes once, and this is its output; or it is a list with these options; or it takes turns, with these options
abbrev pub IsWorkFor : Job → List (List ℕ) → Work → Type 0
IsWorkFor job texts (works.Text text) = WritesOnce (command_of job).writing × IsAnswered (command_of job) texts text.items
IsWorkFor job texts (works.List given) = job ≡ jobs.Bases given.now
IsWorkFor job texts (works.Turns given) = job ≡ jobs.Interactive given.now

-- the job writes once, and is refused so; the refusal is told with the ring of its sources
pub record IsWorkRefused (job : Job) (texts : List (List ℕ)) (refused : Refused) : Type 0 where
  pub once : WritesOnce (command_of job).writing
  pub cause : IsRefusedOn (command_of job) texts refused.refusal
  pub told : IsOfLoaded (command_of job).reads texts refused
