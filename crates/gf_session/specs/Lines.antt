-- How a line is taken from a source. What is left of the source before and after, and how many bytes it gave before and after, stand in
-- this order. Laws: proofs/LineLaws.antt.
use Rattle.std.specs.Prelude.{◌≡◌, ◌⊎◌, ℕ, ◌+◌, Bool, true, List, [], ◌∷◌, ◌++◌, length, All, Option, if◌then◌else◌}
use Rattle.std.specs.Io.KnownBytes.{IsAtEnd}
use Rattle.gf_outside.specs.Moved.{Took}
use Rattle.gf_session.specs.declared.line.Heard.{Heard}
use Rattle.gf_session.specs.Choices.{choice_of, narrowed}

-- there is no line feed in it
abbrev pub HasNoFeed : List ℕ → Type 0
HasNoFeed bytes = All (λ b. b ≡ 10 → ⊥) bytes

-- a line with its line feed
abbrev pub ended : List ℕ → List ℕ
ended line = line ++ 10 ∷ []

-- a line as it stands in the input: the last one may have no line feed
abbrev pub as_taken : Bool → List ℕ → List ℕ
as_taken is_last line = if is_last then line else ended line

-- a line was taken, and what is heard is what it asks for; the last one is followed by nothing. So many bytes were taken before
pub record IsLineHeard (left leaves : Option (List ℕ)) (given gives before : ℕ) (heard : Heard) : Type 0 where
  pub line : List ℕ
  pub pure : HasNoFeed line
  pub choice : heard.choice ≡ narrowed (choice_of line)
  pub took : Took left leaves given gives (as_taken heard.is_last line)
  pub ends : heard.is_last ≡ true → IsAtEnd leaves
  pub count : heard.taken ≡ before + length (as_taken heard.is_last line)

-- a beginning of a line was taken, or a line with its line feed
abbrev pub IsBegun : List ℕ → Type 0
IsBegun bytes = (line : List ℕ) × HasNoFeed line × ((bytes ≡ line) ⊎ (bytes ≡ ended line))

-- so many bytes of a line were taken, and it isn't heard
pub record IsCut (left leaves : Option (List ℕ)) (given gives count : ℕ) : Type 0 where
  pub bytes : List ℕ
  pub begun : IsBegun bytes
  pub took : Took left leaves given gives bytes
  pub exactly : length bytes ≡ count
