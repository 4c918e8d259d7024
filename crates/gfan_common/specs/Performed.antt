-- The effect of a command on the output, for what it reads. The arguments are in this order: the content of the output before and after,
-- and its counts of faults before and after.
use Rattle.std.specs.Prelude.{◌≡◌, ◌⊎◌, ℕ, List, Option}
use Rattle.std.specs.Io.KnownBytes.{Appends, Keeps}
use Rattle.gf_outside.specs.Faults.{Rose}
use Rattle.gf_outside.specs.Moved.{AppendsPrefix}
use Rattle.gf_front.specs.declared.refusal.Refusal.{Refusal}
use Rattle.gf_front.specs.declared.refusal.Refusal.TheVariants as refusals
use Rattle.gf_frame.specs.Commands.{Command, IsWholeBy, IsBegunBy, IsCauseAtStart}

-- what the command writes was appended to the output
abbrev pub IsPerformedFor : (c : Command) → c.Value → Option (List ℕ) → Option (List ℕ) → Type 0
IsPerformedFor c a held holds = (text : List ℕ) × c.IsAnswer a text × Appends held holds text

-- what the command may have written before it is refused in this way was appended to the output
abbrev pub IsBegunAs : (c : Command) → c.Value → Option (List ℕ) → Option (List ℕ) → Refusal → Type 0
IsBegunAs c a held holds refusal = (text : List ℕ) × IsBegunBy c.writing a text refusal × Appends held holds text

-- why the command isn't performed, and what it leaves in other cases than a failed write and the limit of a list: what it may have written until
-- then; or nothing, if it is refused before anything is written, or if memory runs out
abbrev pub IsLeftFor : (c : Command) → c.Value → Option (List ℕ) → Option (List ℕ) → Refusal → Type 0
IsLeftFor c a held holds refusal =
    ((c.IsCause a refusal ⊎ (refusal ≡ refusals.Memory)) × IsBegunAs c a held holds refusal)
    ⊎ (((c.IsCause a refusal × IsCauseAtStart c.writing c.IsCause a refusal) ⊎ (refusal ≡ refusals.Memory)) × Keeps held holds)

-- why the command isn't performed, and what it leaves. If a write failed: a prefix of its whole text. If a list came to its limit: what it
-- wrote until then
abbrev pub IsStoppedFor : (c : Command) → c.Value → Option (List ℕ) → Option (List ℕ) → ℕ → ℕ → Refusal → Type 0
IsStoppedFor c a held holds written writes refusals.WriteFault =
    Rose written writes × ((text : List ℕ) × IsWholeBy c.writing c.IsAnswer a text × AppendsPrefix held holds text)
IsStoppedFor c a held holds written writes (refusals.ListLimit most) =
    c.IsCause a (refusals.ListLimit most) × IsBegunAs c a held holds (refusals.ListLimit most)
IsStoppedFor c a held holds written writes refusal = IsLeftFor c a held holds refusal
