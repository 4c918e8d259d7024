-- The line of a refusal of a run. The arguments are in this order: the arguments of the program, the bytes of files by their names, the
-- rest of the input before and after, the number of bytes that were read of it before and after, and the content of the sink of faults
-- before and after.
use Rattle.std.specs.Prelude.{◌≡◌, ◌⊎◌, ℕ, ◌≤◌, List, [], ◌∷◌, length, IfSome, Option, Some}
use Rattle.std.specs.Io.KnownBytes.{IsAtEnd, Keeps}
use Rattle.gf_outside.specs.Moved.{Took}
use Rattle.gf_front.specs.declared.refusal.Refusal.{Refusal}
use Rattle.gf_front.specs.declared.command_line.Job.{Job}
use Rattle.gf_front.specs.Jobs.{IsJobOf}
use Rattle.gf_front.specs.Lines.{line}
use Rattle.gf_frame.specs.Loading.{Origin}
use Rattle.gfan_common.specs.declared.refused.Refused.{Refused}
use Rattle.gfan_common.specs.Refused.{IsUnnamed, names_of, IsNamedBy, IsRingOf, IsOfSource, WrittenAsFar}
use Rattle.gfan.specs.Commands.{command_of}

-- these bytes are all the rest of the input, and are no more than an input may have
pub record ReadWhole (left leaves : Option (List ℕ)) (given gives : ℕ) (source : List ℕ) : Type 0 where
  pub took : Took left leaves given gives source
  pub end : IsAtEnd leaves
  pub short : length source ≤ 67108864

-- all of the input was read, and it begins with the text of this ring
pub record IsRingOfInput (left leaves : Option (List ℕ)) (given gives : ℕ) (names : List (List ℕ)) : Type 0 where
  pub source : List ℕ
  pub read : ReadWhole left leaves given gives source
  pub ring : IsRingOf source names

-- the arguments request a job that reads a single file, and this file begins with the text of this ring
pub record IsRingOfFile (words : List (List ℕ)) (bytes : List ℕ → Option (List ℕ)) (names : List (List ℕ)) : Type 0 where
  pub job : Job
  pub asked : IsJobOf words job
  pub name : List ℕ
  pub reads : (command_of job).reads ≡ Origin.a_file name ∷ []
  pub source : List ℕ
  pub is : Keeps (bytes name) (Some source)
  pub ring : IsRingOf source names

-- the refusal has a message, and its ring is that of the input or of the only file that the job reads
pub record IsOfSources (words : List (List ℕ)) (bytes : List ℕ → Option (List ℕ)) (left leaves : Option (List ℕ)) (given gives : ℕ) (refused : Refused) :
    Type 0 where
  pub named : IsNamedBy refused.ring refused.refusal
  pub ring : IfSome refused.ring (λ names. IsRingOfInput left leaves given gives names ⊎ IsRingOfFile words bytes names)

-- the refusal has a message. If the input is read last, after at most two files, its ring is that of the text of the input; for other
-- sources it has no ring
abbrev pub IsOfLoaded : List Origin → List (List ℕ) → Refused → Type 0
IsOfLoaded (Origin.the_input ∷ []) (source ∷ []) refused = IsOfSource source refused
IsOfLoaded (Origin.a_file name ∷ (Origin.the_input ∷ [])) (file ∷ (source ∷ [])) refused = IsOfSource source refused
IsOfLoaded (Origin.a_file name ∷ (Origin.a_file other ∷ (Origin.the_input ∷ []))) (file ∷ (second ∷ (source ∷ []))) refused = IsOfSource source refused
IsOfLoaded origins texts refused = IsUnnamed refused

-- A prefix of the line of the refusal was appended to the sink of faults, and the whole line unless its count of faults rose. Monomials are
-- printed with the names of the ring with which the input begins, or the only file that the job reads.
pub record IsTold (words : List (List ℕ)) (refusal : Refusal) (bytes : List ℕ → Option (List ℕ)) (left leaves : Option (List ℕ)) (given gives : ℕ)
    (held holds : Option (List ℕ)) (before now : ℕ) : Type 0 where
  pub ring : Option (List (List ℕ))
  pub of_sources : IsOfSources words bytes left leaves given gives (record { refusal = refusal; ring = ring })
  pub written : WrittenAsFar held holds before now (line (names_of ring) refusal)
