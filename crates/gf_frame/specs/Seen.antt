-- What the outside shows of itself at one time: the input, the files and the output.
use Rattle.std.specs.Prelude.{ℕ, List, Option}

-- the input: what is left of it, how many bytes it gave, and its count of failed reads
pub record InputSeen : Type 0 where
  pub left : Option (List ℕ)
  pub given : ℕ
  pub faults : ℕ

-- files: what they hold by their names, what is left of the one that is read, how many bytes they gave, and their counts of failed
-- openings and of failed reads
pub record FilesSeen : Type 0 where
  pub bytes : List ℕ → Option (List ℕ)
  pub left : Option (List ℕ)
  pub given : ℕ
  pub unopened : ℕ
  pub faults : ℕ

-- both
pub record Seen : Type 0 where
  pub input : InputSeen
  pub files : FilesSeen

-- the output: what it holds, and its count of failed writes
pub record OutputSeen : Type 0 where
  pub held : Option (List ℕ)
  pub faults : ℕ

-- both, by their parts
abbrev pub seen : Option (List ℕ) → ℕ → ℕ → (List ℕ → Option (List ℕ)) → Option (List ℕ) → ℕ → ℕ → ℕ → Seen
seen left given faults bytes rest told unopened unread = record {
  input = record { left = left; given = given; faults = faults };
  files = record { bytes = bytes; left = rest; given = told; unopened = unopened; faults = unread };
}

-- the output, by its parts
abbrev pub output_seen : Option (List ℕ) → ℕ → OutputSeen
output_seen held faults = record { held = held; faults = faults }
