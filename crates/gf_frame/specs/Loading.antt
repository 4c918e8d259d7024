-- Sources by their names: the input, or a file. They are loaded one after another, each of them whole.
use Rattle.std.specs.Prelude.{◌≡◌, ◌⊎◌, ℕ, ◌<◌, ◌≤◌, List, [], ◌∷◌, length, Some}
use Rattle.std.specs.Io.KnownBytes.{IsAtEnd, Keeps}
use Rattle.gf_outside.specs.Faults.{Rose}
use Rattle.gf_outside.specs.Moved.{Took, TookExactly, TookAtMost}
use Rattle.gf_front.specs.declared.refusal.Refusal.{Refusal}
use Rattle.gf_front.specs.declared.refusal.Refusal.TheVariants as refusals
use Rattle.gf_frame.specs.Seen.{InputSeen, FilesSeen, Seen}

-- where a text comes from
pub data Origin : Type 0 where
  the_input : Origin
  a_file : List ℕ → Origin

-- ---- a source that is loaded

-- these are all bytes of the input, no more than a source may have, and files are as before
pub record IsInputLoaded (p q : Seen) (text : List ℕ) : Type 0 where
  pub took : Took p.input.left q.input.left p.input.given q.input.given text
  pub end : IsAtEnd q.input.left
  pub short : length text ≤ 67108864
  pub calm : q.input.faults ≡ p.input.faults
  pub files : q.files ≡ p.files

-- these are all bytes of the file of this name, no more than a source may have, and the input is as before
pub record IsFileLoaded (name : List ℕ) (p q : Seen) (text : List ℕ) : Type 0 where
  pub is : Keeps (p.files.bytes name) (Some text)
  pub took : Took (p.files.bytes name) q.files.left p.files.given q.files.given text
  pub short : length text ≤ 67108864
  pub kept : q.files.bytes ≡ p.files.bytes
  pub opened : q.files.unopened ≡ p.files.unopened
  pub calm : q.files.faults ≡ p.files.faults
  pub input : q.input ≡ p.input

-- this is the whole text of the source, be it the input or a file
abbrev pub IsLoaded : Origin → Seen → Seen → List ℕ → Type 0
IsLoaded Origin.the_input p q text = IsInputLoaded p q text
IsLoaded (Origin.a_file name) p q text = IsFileLoaded name p q text

-- ---- a source that isn't

-- why the input isn't loaded
abbrev pub IsInputCause : InputSeen → InputSeen → Refusal → Type 0
IsInputCause i j refusals.ReadFault = Rose i.faults j.faults × TookAtMost i.left j.left i.given j.given 67108864
IsInputCause i j refusals.InputTooLong = TookExactly i.left j.left i.given j.given 67108865
IsInputCause i j refusals.Memory = TookAtMost i.left j.left i.given j.given 67108864
IsInputCause i j _ = ⊥

-- no byte of the file is given, or no more than a source may have
abbrev pub IsWithinFile : List ℕ → FilesSeen → FilesSeen → Type 0
IsWithinFile name f g = (g.given ≡ f.given) ⊎ TookAtMost (f.bytes name) g.left f.given g.given 67108864

-- why a file isn't loaded
abbrev pub IsFileCause : List ℕ → FilesSeen → FilesSeen → Refusal → Type 0
IsFileCause name f g refusals.OpenFault = Rose f.unopened g.unopened × (g.given ≡ f.given)
IsFileCause name f g refusals.ReadFault = Rose f.faults g.faults × TookAtMost (f.bytes name) g.left f.given g.given 67108864
IsFileCause name f g refusals.InputTooLong = TookExactly (f.bytes name) g.left f.given g.given 67108865
IsFileCause name f g refusals.Memory = IsWithinFile name f g
IsFileCause name f g _ = ⊥

-- the input isn't loaded, for this cause; a fault of it is counted only where that is the cause, and the files are as before
pub record IsInputUnloaded (p q : Seen) (r : Refusal) : Type 0 where
  pub cause : IsInputCause p.input q.input r
  pub calm : (r ≡ refusals.ReadFault → ⊥) → q.input.faults ≡ p.input.faults
  pub files : q.files ≡ p.files

-- the file of this name isn't loaded, for this cause; a fault is counted only where that is the cause, what files hold stays, and the input
-- is as before
pub record IsFileUnloaded (name : List ℕ) (p q : Seen) (r : Refusal) : Type 0 where
  pub cause : IsFileCause name p.files q.files r
  pub kept : q.files.bytes ≡ p.files.bytes
  pub open_calm : (r ≡ refusals.OpenFault → ⊥) → q.files.unopened ≡ p.files.unopened
  pub calm : (r ≡ refusals.ReadFault → ⊥) → q.files.faults ≡ p.files.faults
  pub input : q.input ≡ p.input

-- the source isn't loaded, be it the input or a file
abbrev pub IsUnloaded : Origin → Seen → Seen → Refusal → Type 0
IsUnloaded Origin.the_input p q r = IsInputUnloaded p q r
IsUnloaded (Origin.a_file name) p q r = IsFileUnloaded name p q r

-- ---- several sources

-- the texts of these sources, loaded in this order
abbrev pub AreLoaded : List Origin → Seen → Seen → List (List ℕ) → Type 0
AreLoaded [] p q [] = q ≡ p
AreLoaded [] p q (t ∷ ts) = ⊥
AreLoaded (o ∷ os) p q [] = ⊥
AreLoaded (o ∷ os) p q (t ∷ ts) = (m : Seen) × IsLoaded o p m t × AreLoaded os m q ts

-- some are loaded, and the next one isn't
abbrev pub AreUnloaded : List Origin → Seen → Seen → Refusal → Type 0
AreUnloaded [] p q r = ⊥
AreUnloaded (o ∷ os) p q r = IsUnloaded o p q r ⊎ ((t : List ℕ) × (m : Seen) × IsLoaded o p m t × AreUnloaded os m q r)

-- ---- sources that are known

-- the bytes of the source are known, and no fault of it is counted from before to now
abbrev pub IsKnown : Origin → Seen → Seen → List ℕ → Type 0
IsKnown Origin.the_input p q text = (p.input.left ≡ Some text) × (Rose p.input.faults q.input.faults → ⊥)
IsKnown (Origin.a_file name) p q text = (p.files.bytes name ≡ Some text) × (Rose p.files.unopened q.files.unopened → ⊥) × (Rose p.files.faults q.files.faults →
    ⊥)

-- so it is with each of these sources, and these are their texts
abbrev pub AreKnown : List Origin → Seen → Seen → List (List ℕ) → Type 0
AreKnown [] p q [] = Unit {0}
AreKnown [] p q (t ∷ ts) = ⊥
AreKnown (o ∷ os) p q [] = ⊥
AreKnown (o ∷ os) p q (t ∷ ts) = IsKnown o p q t × AreKnown os p q ts

-- none has more bytes than a source may have; one has
abbrev pub AreShort : List (List ℕ) → Type 0
AreShort [] = Unit {0}
AreShort (t ∷ ts) = (length t ≤ 67108864) × AreShort ts

-- one of the texts has more bytes than a source may have
abbrev pub IsSomeLong : List (List ℕ) → Type 0
IsSomeLong [] = ⊥
IsSomeLong (t ∷ ts) = (67108864 < length t) ⊎ IsSomeLong ts

-- ---- which sources there are

-- the input is one of the sources
abbrev pub HaveInput : List Origin → Type 0
HaveInput [] = ⊥
HaveInput (Origin.the_input ∷ os) = Unit {0}
HaveInput (Origin.a_file name ∷ os) = HaveInput os

-- a file is one of the sources
abbrev pub HaveFile : List Origin → Type 0
HaveFile [] = ⊥
HaveFile (Origin.the_input ∷ os) = HaveFile os
HaveFile (Origin.a_file name ∷ os) = Unit {0}

-- the input isn't read twice
abbrev pub HaveInputOnce : List Origin → Type 0
HaveInputOnce [] = Unit {0}
HaveInputOnce (Origin.the_input ∷ os) = HaveInput os → ⊥
HaveInputOnce (Origin.a_file name ∷ os) = HaveInputOnce os

-- how much is read: no more of any source than it may have
abbrev pub IsReadWithin : Origin → Seen → Seen → Type 0
IsReadWithin Origin.the_input p q = TookAtMost p.input.left q.input.left p.input.given q.input.given 67108864
IsReadWithin (Origin.a_file name) p q = IsWithinFile name p.files q.files

-- some are loaded, of the next one no more is read than it may have, and of those behind it nothing; or all are loaded
abbrev pub AreReadWithin : List Origin → Seen → Seen → Type 0
AreReadWithin [] p q = q ≡ p
AreReadWithin (o ∷ os) p q = IsReadWithin o p q ⊎ ((t : List ℕ) × (m : Seen) × IsLoaded o p m t × AreReadWithin os m q)

-- of one of them one byte more than it may have was taken
abbrev pub IsTooLong : Origin → Seen → Seen → Type 0
IsTooLong Origin.the_input p q = TookExactly p.input.left q.input.left p.input.given q.input.given 67108865
IsTooLong (Origin.a_file name) p q = TookExactly (p.files.bytes name) q.files.left p.files.given q.files.given 67108865

-- the sources before one are loaded, and of that one a byte more than it may have was taken
abbrev pub IsOneTooLong : List Origin → Seen → Seen → Type 0
IsOneTooLong [] p q = ⊥
IsOneTooLong (o ∷ os) p q = IsTooLong o p q ⊎ ((t : List ℕ) × (m : Seen) × IsLoaded o p m t × IsOneTooLong os m q)
