-- What a fan file says: the sections that are looked at, read from left to right.
-- Which sections these are, and what they hold, is a table, by the version of the file.
-- Laws: proofs/FanTextLaws.antt.
use Rattle.std.specs.Prelude.{◌≡◌, ◌⊎◌, ℕ, ◌+◌, ◌&&◌, nat_le, nat_eq, Bool, true, false, List, [], ◌∷◌, ◌++◌, length, bytes_eq, is_some, if◌then◌else◌, Result}
use Rattle.std.specs.Prelude.{Ok, Err, Option, Some, None, ℤ}
use Rattle.gf_text.specs.declared.TheConstants.{MOST_VARIABLES}
use Rattle.gf_text.specs.Machine.{Lexeme, texts, Fault, IsFault, run}
use Rattle.gf_text.specs.Kinds.{IsNumberKind}
use Rattle.gf_text.specs.Tokens.{is_number, decimal_value}
use Rattle.gf_text.specs.RingText.{has}
use Rattle.gf_text.specs.declared.error.Cause.TheVariants as causes
use Rattle.gf_fan_files.specs.declared.error.FanFileError.{FanFileError}
use Rattle.gf_fan_files.specs.declared.error.FanFileError.TheVariants as errors
use Rattle.gf_fan_files.specs.Lines.{Section, sections, content_tokens, end_before}
use Rattle.gf_fan_files.specs.RowText.{row_step, row_start, AreRowTexts}
use Rattle.gf_fan_files.specs.ConeText.{cone_step, cone_start, AreConeTexts, most_number}
use Rattle.gf_fan_files.specs.NumberText.{number_step, IsOneNumberText}
use Rattle.gf_fan_files.specs.declared.numbers.NumberState.TheVariants.{Unread}
use Rattle.gf_fan_files.specs.Refused.{refused_at, refused_before}

-- ---- contents

-- what a section holds: a number up to a limit, rows, lists of ray numbers, or what isn't looked at
pub data ContentKind : Type 0 where
  number_to : ℕ → ContentKind
  rows : ContentKind
  cones : ContentKind
  any : ContentKind

-- what was read of it
pub data Content : Type 0 where
  the_number : ℕ → Content
  the_rows : List (List ℤ) → Content
  the_cones : List (List ℕ) → Content
  passed : Content

-- these tokens are a content of this kind
abbrev pub IsContentText : ContentKind → List (List ℕ) → Content → Type 0
IsContentText k ts (the_number n) = (limit : ℕ) × (k ≡ number_to limit) × IsOneNumberText ts n × (nat_le n limit ≡ true)
IsContentText k ts (the_rows rs) = (k ≡ rows) × AreRowTexts ts rs
IsContentText k ts (the_cones cs) = (k ≡ cones) × AreConeTexts ts cs
IsContentText k ts passed = k ≡ any

-- what was read of a content, in a text of this length
abbrev pub held : {A : Type 0} → (A → Content) → ℕ → Result (A × ℕ) Fault → Result Content FanFileError
held make length (Ok a) = Ok (make a.0)
held make length (Err f) = Err (refused_before length f)

-- a first number that is past the limit but not too wide
abbrev pub is_above : ℕ → List Lexeme → Bool
is_above limit [] = false
is_above limit (x ∷ xs) = is_number x.text && (nat_le (decimal_value x.text) most_number && nat_le (limit + 1) (decimal_value x.text))

-- the number that the first token is; 0 where there is none
abbrev pub first_value : List Lexeme → ℕ
first_value [] = 0
first_value (x ∷ xs) = decimal_value x.text

-- a content of this kind, read from its tokens, in a text of this length
abbrev pub content_read : ℕ → ContentKind → List Lexeme → Result Content FanFileError
content_read length (number_to limit) xs = if is_above limit xs then Err (errors.TooManyVariables (first_value xs))
    else held (λ n. the_number n) length (run number_step Unread length xs)
content_read length rows xs = held (λ rs. the_rows rs) length (run row_step row_start length xs)
content_read length cones xs = held (λ cs. the_cones cs) length (run cone_step cone_start length xs)
content_read length any xs = Ok passed

-- ---- tables

-- the sections that are looked at, with what they hold
abbrev pub Table : Type 0
Table = List (List ℕ × ContentKind)

-- what a section of this name holds
abbrev pub kind_in : Table → List ℕ → ContentKind
kind_in [] name = any
kind_in (e ∷ es) name = if bytes_eq e.0 name then e.1 else kind_in es name

-- AMBIENT_DIM
abbrev pub ambient_dim : List ℕ
ambient_dim = 65 ∷ 77 ∷ 66 ∷ 73 ∷ 69 ∷ 78 ∷ 84 ∷ 95 ∷ 68 ∷ 73 ∷ 77 ∷ []

-- RAYS
abbrev pub rays_name : List ℕ
rays_name = 82 ∷ 65 ∷ 89 ∷ 83 ∷ []

-- LINEALITY_SPACE
abbrev pub lineality_space : List ℕ
lineality_space = 76 ∷ 73 ∷ 78 ∷ 69 ∷ 65 ∷ 76 ∷ 73 ∷ 84 ∷ 89 ∷ 95 ∷ 83 ∷ 80 ∷ 65 ∷ 67 ∷ 69 ∷ []

-- FILE_VERSION
abbrev pub file_version : List ℕ
file_version = 70 ∷ 73 ∷ 76 ∷ 69 ∷ 95 ∷ 86 ∷ 69 ∷ 82 ∷ 83 ∷ 73 ∷ 79 ∷ 78 ∷ []

-- MAXIMAL_INTERIORS
abbrev pub maximal_interiors : List ℕ
maximal_interiors = 77 ∷ 65 ∷ 88 ∷ 73 ∷ 77 ∷ 65 ∷ 76 ∷ 95 ∷ 73 ∷ 78 ∷ 84 ∷ 69 ∷ 82 ∷ 73 ∷ 79 ∷ 82 ∷ 83 ∷ []

-- MAXIMAL_CONES
abbrev pub maximal_cones : List ℕ
maximal_cones = 77 ∷ 65 ∷ 88 ∷ 73 ∷ 77 ∷ 65 ∷ 76 ∷ 95 ∷ 67 ∷ 79 ∷ 78 ∷ 69 ∷ 83 ∷ []

-- ---- versions

-- the version 2
abbrev pub is_second : Option ℕ → Bool
is_second None = false
is_second (Some v) = nat_eq v 2

-- the number that a version's text begins with, 0 where it begins with none
abbrev pub version_number : List Lexeme → ℕ
version_number [] = 0
version_number (x ∷ xs) = if is_number x.text && nat_le (decimal_value x.text) most_number then decimal_value x.text else 0

-- the version that these sections, in a text of this length, tell: by FILE_VERSION where it is the first, else none
abbrev pub version_in : ℕ → List Section → Option ℕ
version_in length [] = None
version_in length (s ∷ ss) = if bytes_eq file_version s.name then Some (version_number (content_tokens (end_before length ss) s.content)) else None

-- the version that a text tells
abbrev pub told_version : List ℕ → Option ℕ
told_version source = version_in (length source) (sections source)

-- a version that is known: none, 1, 2
abbrev pub IsKnownVersion : Option ℕ → Type 0
IsKnownVersion None = Unit {0}
IsKnownVersion (Some v) = (v ≡ 1) ⊎ (v ≡ 2)

-- what FILE_VERSION holds, where a version is told; elsewhere it isn't looked at
abbrev pub version_kind : Option ℕ → ContentKind
version_kind None = any
version_kind (Some v) = number_to most_number

-- what MAXIMAL_INTERIORS holds in the version 2; elsewhere it isn't looked at
abbrev pub interiors_kind : Bool → ContentKind
interiors_kind true = rows
interiors_kind false = any

-- the sections of a fan file of this version that are looked at: AMBIENT_DIM, RAYS, LINEALITY_SPACE, MAXIMAL_CONES; FILE_VERSION where it tells
-- the version; and in the version 2 MAXIMAL_INTERIORS
abbrev pub fan_table : Option ℕ → Table
fan_table v = (ambient_dim, number_to MOST_VARIABLES) ∷ (rays_name, rows) ∷ (lineality_space, rows) ∷ (maximal_cones, cones) ∷ (file_version, version_kind v) ∷
    (maximal_interiors, interiors_kind (is_second v)) ∷ []

-- the table of the version that the text tells
abbrev pub told_table : List ℕ → Table
told_table source = fan_table (told_version source)

-- the name that is looked for in the version 2 alone
abbrev pub wanted_last : Bool → List (List ℕ)
wanted_last true = maximal_interiors ∷ []
wanted_last false = []

-- the names of sections that are looked for, in order
abbrev pub wanted : Option ℕ → List (List ℕ)
wanted v = ambient_dim ∷ rays_name ∷ lineality_space ∷ maximal_cones ∷ wanted_last (is_second v)

-- ---- the sections, from left to right

-- names of sections, with what they hold
abbrev pub Named : Type 0
Named = List (List ℕ × Content)

-- a content of this name in front of those behind it; the first refusal counts
abbrev pub then_content : Result Content FanFileError → List ℕ → Result Named FanFileError → Result Named FanFileError
then_content (Err e) name later = Err e
then_content (Ok c) name (Err e) = Err e
then_content (Ok c) name (Ok all) = Ok ((name, c) ∷ all)

-- what these sections hold, behind sections of these names, in a text of this length
abbrev pub sections_read : Table → ℕ → List (List ℕ) → List Section → Result Named FanFileError
sections_read table length seen [] = Ok []
sections_read table length seen (s ∷ ss) = if has seen s.name then Err (refused_at s.at causes.RepeatedName)
    else then_content (content_read length (kind_in table s.name) (content_tokens (end_before length ss) s.content)) s.name
    (sections_read table length (seen ++ s.name ∷ []) ss)

-- what a text says by this table
abbrev pub text_read : Table → List ℕ → Result Named FanFileError
text_read table source = sections_read table (length source) [] (sections source)

-- ---- the grammar

-- These sections, behind sections of these names, hold this.
abbrev pub AreHeld : Table → ℕ → List (List ℕ) → List Section → Named → Type 0
AreHeld table length seen [] all = all ≡ []
AreHeld table length seen (s ∷ ss) [] = ⊥
AreHeld table length seen (s ∷ ss) (h ∷ hs) = (has seen s.name ≡ false) × (h.0 ≡ s.name)
    × IsContentText (kind_in table s.name) (texts (content_tokens (end_before length ss) s.content)) h.1 × AreHeld table length (seen ++ s.name ∷ []) ss hs

-- ---- the first fault

-- the tokens are no text of the grammar
abbrev pub AreNoText : {A : Type 0} → (List (List ℕ) → A → Type 0) → List Lexeme → Type 0
AreNoText {A} grammar xs = (a : A) → grammar (texts xs) a → ⊥

-- a fault among the tokens of a content, which are no text: at the first token after which none goes on to a text, of its kind
abbrev pub IsFaultOf : {A : Type 0} → (List (List ℕ) → A → Type 0) → ℕ → List Lexeme → FanFileError → Type 0
IsFaultOf grammar length xs e = (f : Fault) × AreNoText grammar xs × IsFault grammar (IsNumberKind grammar) xs length f × (e ≡ refused_before length f)

-- a content of this kind is refused so
abbrev pub IsContentFault : ℕ → ContentKind → List Lexeme → FanFileError → Type 0
IsContentFault length (number_to limit) xs e = ((is_above limit xs ≡ true) × (e ≡ errors.TooManyVariables (first_value xs))) ⊎
    ((is_above limit xs ≡ false) × IsFaultOf IsOneNumberText length xs e)
IsContentFault length rows xs e = IsFaultOf AreRowTexts length xs e
IsContentFault length cones xs e = IsFaultOf AreConeTexts length xs e
IsContentFault length any xs e = ⊥

-- The first of these sections that is at fault is refused so: its name was there already, or its content is at fault.
abbrev pub IsFirstFault : Table → ℕ → List (List ℕ) → List Section → FanFileError → Type 0
IsFirstFault table length seen [] e = ⊥
IsFirstFault table length seen (s ∷ ss) e = let xs = content_tokens (end_before length ss) s.content in
    ((has seen s.name ≡ true) × (e ≡ refused_at s.at causes.RepeatedName))
    ⊎ ((has seen s.name ≡ false) × IsContentFault length (kind_in table s.name) xs e)
    ⊎ ((has seen s.name ≡ false) × ((c : Content) × IsContentText (kind_in table s.name) (texts xs) c) × IsFirstFault table length (seen ++ s.name ∷ []) ss e)

-- ---- what is looked for

-- what the section of this name holds
abbrev pub found : List ℕ → Named → Option Content
found name [] = None
found name (h ∷ hs) = if bytes_eq h.0 name then Some h.1 else found name hs

-- a section of this name is there
abbrev pub is_there : Named → List ℕ → Bool
is_there all name = is_some (found name all)

-- the first of these names that isn't there
abbrev pub first_missing : List (List ℕ) → Named → Option (List ℕ)
first_missing [] all = None
first_missing (n ∷ ns) all = if is_there all n then first_missing ns all else Some n
