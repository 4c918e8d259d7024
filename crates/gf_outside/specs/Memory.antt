-- What a source and a sink in memory are: their bytes, and what they do at each call.
use Rattle.std.specs.Prelude.{ℕ, ◌+◌, ◌-◌, ◌^◌, min, List, [], Contains, Option, Some, None, get_or, bytes_eq, option_map}
use Rattle.std.specs.List.{position_from}

-- how many bytes a call may move, the numbers of the calls that fail, and how many calls there were
pub record Script : Type 0 where
  pub most : ℕ
  pub failing : List ℕ
  pub calls : ℕ

-- the script after one more call; the count of calls stands still at the last value of a `u64`
abbrev pub next_call : Script → Script
next_call s = record { most = s.most; failing = s.failing; calls = min (s.calls + 1) (2 ^ 64 - 1) }

-- the call to come is one that fails
abbrev pub FailsNow : Script → Type 0
FailsNow s = Contains s.failing s.calls

-- a source in memory: the bytes that are left, how many it gave, its script, and its faults
pub record SourceInMemory : Type 0 where
  pub left : List ℕ
  pub given : ℕ
  pub script : Script
  pub faults : ℕ

-- a sink in memory: the bytes that were written, its script, and its faults
pub record SinkInMemory : Type 0 where
  pub held : List ℕ
  pub script : Script
  pub faults : ℕ

-- ---- files

-- a file in memory: its name and its bytes
pub record FileInMemory : Type 0 where
  pub name : List ℕ
  pub bytes : List ℕ

-- the place of the first file of this name
abbrev pub place_named : List FileInMemory → List ℕ → Option ℕ
place_named files name = position_from (λ f. bytes_eq f.name name) 0 files

-- the bytes of the file at this place; none where there is no place
abbrev pub bytes_at : List FileInMemory → Option ℕ → List ℕ
bytes_at files None = []
bytes_at files (Some place) = (get_or files place (record { name = []; bytes = [] })).bytes

-- the bytes of the first file of this name, where there is one
abbrev pub bytes_named : List FileInMemory → List ℕ → Option (List ℕ)
bytes_named files name = option_map (λ place. bytes_at files (Some place)) (place_named files name)

-- the bytes of the first file of this name, and none where there is no such file
abbrev pub bytes_or_none : List FileInMemory → List ℕ → List ℕ
bytes_or_none files name = bytes_at files (place_named files name)

-- files in memory: what they are, and what is left of the chosen one
pub record NamedFiles : Type 0 where
  pub files : List FileInMemory
  pub left : List ℕ

-- files in memory with a script: how many bytes they gave, and their faults
pub record FilesInMemory : Type 0 where
  pub named : NamedFiles
  pub given : ℕ
  pub script : Script
  pub unopened : ℕ
  pub faults : ℕ
