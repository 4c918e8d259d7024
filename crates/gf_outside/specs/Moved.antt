-- What a call took from a source or added to a sink, where that is told, and how many bytes it counted.
-- `Consumes`, `Appends` and `Keeps`, for bytes that may be unknown, are std's.
-- Laws: proofs/MovedLaws.antt.
use Rattle.std.specs.Prelude.{◌≡◌, ℕ, ◌+◌, ◌-◌, ◌^◌, ◌≤◌, min, Result, MatchResult, List, [], length, take, Some, None}
use Rattle.std.specs.declared.option.Option.{Option}
use Rattle.std.specs.Io.KnownBytes.{Consumes, Appends}

-- ---- sources

-- the count went up by n, or stands at its last value
abbrev pub Counts : ℕ → ℕ → ℕ → Type 0
Counts before now n = (min (before + n) (2 ^ 64 - 1) ≤ now) × (now ≤ before + n)

-- a call counts what it moved, and nothing where it failed
abbrev pub CountsMoved : {E : Type 0} → ℕ → ℕ → Result ℕ E → Type 0
CountsMoved before now result = MatchResult result (λ n. Counts before now n) (λ _. Counts before now 0)

-- these bytes were taken: what was left began with them and lost them, and the count went up by their number
pub record Took (old new : Option (List ℕ)) (before now : ℕ) (bytes : List ℕ) : Type 0 where
  pub bytes_left : Consumes old new bytes
  pub count : Counts before now (length bytes)

-- just n bytes were taken
pub record TookExactly (old new : Option (List ℕ)) (before now n : ℕ) : Type 0 where
  pub bytes : List ℕ
  pub took : Took old new before now bytes
  pub exactly : length bytes ≡ n

-- n bytes or fewer were taken
pub record TookAtMost (old new : Option (List ℕ)) (before now n : ℕ) : Type 0 where
  pub bytes : List ℕ
  pub took : Took old new before now bytes
  pub at_most : length bytes ≤ n

-- nothing is left of a file, since none is chosen, and nothing was given
pub record NothingIsChosen (left : Option (List ℕ)) (before now : ℕ) : Type 0 where
  pub none : left ≡ Some []
  pub given : now ≡ before

-- what is left of the chosen file; nothing where none is chosen
abbrev pub left_of : {F : Type 0} → (F → Option (List ℕ)) → Option F → Option (List ℕ)
left_of remaining None = Some []
left_of remaining (Some file) = remaining file

-- ---- sinks

-- what is held grew by a prefix of these bytes
abbrev pub AppendsPrefix : Option (List ℕ) → Option (List ℕ) → List ℕ → Type 0
AppendsPrefix old new bytes = (n : ℕ) × (n ≤ length bytes) × Appends old new (take n bytes)
