-- How a run ended, by its status.
-- To cite: is_done, is_usage, matched, told_as. The rest are steps.
use Rattle.std.specs.Prelude.{◌≡◌, ℕ, zero, suc, List, Option}
use Rattle.std.proofs.Common.{refl, sym, ap, ◌∙◌, subst}
use Rattle.gf_front.specs.declared.command_line.Job.{Job}
use Rattle.gf_front.specs.declared.refusal.Refusal.{Refusal}
use Rattle.gf_front.specs.declared.refusal.Refusal.TheVariants as refusals
use Rattle.gf_front.specs.declared.refusal.Status.{Status}
use Rattle.gf_front.specs.declared.refusal.Status.TheVariants as statuses
use Rattle.gf_front.specs.Jobs.{IsMatched}
use Rattle.gf_front.specs.Lines.{code_of, code_of_refusal}
use Rattle.gf_frame.specs.Seen.{Seen, OutputSeen}
use Rattle.gf_frame.specs.Commands.{Command}
use Rattle.gf_frame.specs.Programs.{IsRunDone, IsRunRefused}
use Rattle.gfan_common.specs.Refused.{names_of}
use Rattle.gfan.specs.Run.{IsTold}
use Rattle.gfan_callers.specs.Told.{IsLineOf}

-- ---- which status it is

abbrev IsPositive : ℕ → Type 0
IsPositive zero = ⊥
IsPositive (suc n) = Unit {0}

abbrev IsNotTwo : ℕ → Type 0
IsNotTwo (suc (suc zero)) = ⊥
IsNotTwo _ = Unit {0}

positive : (r : Refusal) → IsPositive (code_of_refusal r)
positive refusals.Usage = tt
positive _ = tt

-- 0 is that of Done alone
pub is_done : (status : Status) (code : ℕ) → code ≡ code_of status → code ≡ 0 → status ≡ statuses.Done
is_done statuses.Done code e none = refl
is_done (statuses.Refused r) code e none = absurd (subst IsPositive (sym e ∙ none) (positive r))

usage_of : (r : Refusal) → code_of_refusal r ≡ 2 → r ≡ refusals.Usage
usage_of refusals.Usage e = refl
usage_of _ e = absurd (subst IsNotTwo e tt)

-- and 2 is that of Usage alone
pub is_usage : (status : Status) (code : ℕ) → code ≡ code_of status → code ≡ 2 → status ≡ statuses.Refused refusals.Usage
is_usage statuses.Done code e two = absurd (subst IsNotTwo (sym e ∙ two) tt)
is_usage (statuses.Refused r) code e two = ap (λ x. statuses.Refused x) (usage_of r (sym e ∙ two))

-- ---- what it says

module _ (command_of : Job → Command) (words : List (List ℕ)) (p q : Seen) (o s : OutputSeen) where
  asked : (r : Refusal) → (r ≡ refusals.Usage → ⊥) → (r ≡ refusals.Memory → ⊥) → IsRunRefused command_of words p q o s r → IsMatched words
  asked r u m (IsRunRefused.no_job n e same out) = absurd (u e)
  asked r u m (IsRunRefused.no_memory e same out) = absurd (m e)
  asked r u m (IsRunRefused.of_job job j h) = j.matched

  -- neither 2 nor 7 is that of words without a match
  pub matched : (status : Status) (code : ℕ) → code ≡ code_of status → (status ≡ statuses.Done → IsRunDone command_of words p q o s) →
      ((r : Refusal) → status ≡ statuses.Refused r → IsRunRefused command_of words p q o s r) → (code ≡ 2 → ⊥) → (code ≡ 7 → ⊥) → IsMatched words
  matched statuses.Done code e done refused u m = (done refl).asked.matched
  matched (statuses.Refused r) code e done refused u m =
      asked r (λ k. u (e ∙ ap code_of_refusal k)) (λ k. m (e ∙ ap code_of_refusal k)) (refused r refl)

-- the line is that of a refusal with this status
module _ (words : List (List ℕ)) (bytes : List ℕ → Option (List ℕ)) (left leaves : Option (List ℕ)) (given gives : ℕ) where
  pub told_as : (held holds : Option (List ℕ)) (before now : ℕ) (status : Status) (code : ℕ) → code ≡ code_of status →
      ((r : Refusal) → status ≡ statuses.Refused r → IsTold words r bytes left leaves given gives held holds before now) → (code ≡ 0 → ⊥) →
      IsLineOf code held holds before now
  told_as held holds before now statuses.Done code e told n = absurd (n e)
  told_as held holds before now (statuses.Refused r) code e told n =
      let t = told r refl in
      record { refusal = r; names = names_of t.ring; code_is = e; written = t.written }
