-- What a session has done so far, and why it is cut off.
use Rattle.std.specs.Prelude.{◌≡◌, ℕ, ◌≤◌, Bool, true, List, [], length, flat_map, Option}
use Rattle.std.specs.Io.KnownBytes.{IsAtEnd}
use Rattle.gf_outside.specs.Faults.{Rose}
use Rattle.gf_outside.specs.Moved.{TookAtMost}
use Rattle.gf_session.specs.declared.session.SessionError.{SessionError}
use Rattle.gf_session.specs.declared.session.SessionError.TheVariants as errors
use Rattle.gf_session.specs.Lines.{HasNoFeed, ended, as_taken}
use Rattle.gf_session.specs.Sessions.{Rules, Trail, AreSteps, IsTalk, IsBrokenOff, IsReplyUnwritten, IsStuck}

-- the session is here by these steps, and each line that was taken was answered
pub record IsTalking {P S : Type 0} (r : Rules P) (joins : P → S → P → Type 0) (s : Trail P) (here : P) (steps : List S) (left leaves : Option (List ℕ))
    (given gives : ℕ) (held holds : Option (List ℕ)) (taken : ℕ) : Type 0 where
  pub lines : List (List ℕ)
  pub t : Trail P
  pub is_here : t.here ≡ here
  pub are_steps : AreSteps joins steps t
  pub talk : IsTalk r s t left leaves given gives held holds lines []
  pub count : taken ≡ length (flat_map ended lines)

-- a line was taken behind those that were answered
pub record IsLeftOff {P : Type 0} (r : Rules P) (s : Trail P) (left leaves : Option (List ℕ)) (given gives : ℕ) (held holds : Option (List ℕ)) : Type 0 where
  pub lines : List (List ℕ)
  pub last : List ℕ
  pub is_last : Bool
  pub t : Trail P
  pub pure : HasNoFeed last
  pub ends : is_last ≡ true → IsAtEnd leaves
  pub talk : IsTalk r s t left leaves given gives held holds lines (as_taken is_last last)

-- why a session is cut off, and what was taken and written until then; the faults of the source and of the output, each before and after,
-- stand last
abbrev pub IsCause : {P E : Type 0} → Rules P → (P → E → Type 0) → Trail P → Option (List ℕ) → Option (List ℕ) → ℕ → ℕ → Option (List ℕ) → Option (List ℕ) → ℕ →
    ℕ → ℕ → ℕ → SessionError E → Type 0
IsCause r refuses s left leaves given gives held holds read reads written writes errors.ReadFault =
    Rose read reads × ((n : ℕ) × (n ≤ 67108864) × IsBrokenOff r s left leaves given gives held holds n)
IsCause r refuses s left leaves given gives held holds read reads written writes errors.InputTooLong =
    IsBrokenOff r s left leaves given gives held holds 67108865
IsCause r refuses s left leaves given gives held holds read reads written writes errors.WriteFault =
    Rose written writes × IsReplyUnwritten r s left leaves given gives held holds
IsCause r refuses s left leaves given gives held holds read reads written writes errors.Memory = IsLeftOff r s left leaves given gives held holds
IsCause r refuses s left leaves given gives held holds read reads written writes (errors.Refused e) = IsStuck r refuses s left leaves given gives held holds e

-- a fault of the source is counted only where it is told; the faults before and after stand first
abbrev pub IsReadCalm : {E : Type 0} → ℕ → ℕ → SessionError E → Type 0
IsReadCalm read reads errors.ReadFault = Unit {0}
IsReadCalm read reads _ = reads ≡ read

-- no more was taken than an input may have, but where it is too long
abbrev pub IsWithinInput : {E : Type 0} → Option (List ℕ) → Option (List ℕ) → ℕ → ℕ → SessionError E → Type 0
IsWithinInput left leaves given gives errors.InputTooLong = Unit {0}
IsWithinInput left leaves given gives _ = TookAtMost left leaves given gives 67108864
