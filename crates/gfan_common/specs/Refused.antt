-- A refusal with the ring whose names its message uses.
use Rattle.std.specs.Prelude.{◌≡◌, ℕ, List, [], Option, None, Some, IfSome}
use Rattle.std.specs.Io.KnownBytes.{Appends}
use Rattle.std.specs.Borrow.{Bor}
use Rattle.std.specs.Option.{option_copied}
use Rattle.gf_outside.specs.Faults.{Rose}
use Rattle.gf_outside.specs.Moved.{AppendsPrefix}
use Rattle.gf_front.specs.declared.refusal.Refusal.{Refusal}
use Rattle.gf_front.specs.Lines.{HasNames}
use Rattle.gfan_common.specs.declared.refused.Refused.{Refused}
use Rattle.gf_text.specs.Rings.{IsRingRead}

-- a refusal without a ring
abbrev pub without_names : Refusal → Refused
without_names refusal = record { refusal = refusal; ring = None }

-- the names of the ring; none if no ring is given
abbrev pub names_of : Option (List (List ℕ)) → List (List ℕ)
names_of None = []
names_of (Some names) = names

-- each monomial of the refusal is in the variables of the ring, which is given if there is a monomial
abbrev pub IsNamedBy : Option (List (List ℕ)) → Refusal → Type 0
IsNamedBy ring refusal = (lent : Option (Bor (List (List ℕ)))) → option_copied lent ≡ ring → HasNames lent refusal

-- the source begins with the text of this ring
abbrev pub IsRingOf : List ℕ → List (List ℕ) → Type 0
IsRingOf source names = (at : ℕ) × IsRingRead (record { source = source; at = 0 }) at names

-- the refusal has a message, and its ring is that of the source
pub record IsOfSource (source : List ℕ) (refused : Refused) : Type 0 where
  pub named : IsNamedBy refused.ring refused.refusal
  pub ring : IfSome refused.ring (IsRingOf source)

-- a prefix of the text was appended to the sink, and the whole text unless its count of faults rose
pub record WrittenAsFar (held holds : Option (List ℕ)) (before now : ℕ) (text : List ℕ) : Type 0 where
  pub part : AppendsPrefix held holds text
  pub all : (Rose before now → ⊥) → Appends held holds text

-- the refusal has no monomials, and comes without a ring
pub record IsUnnamed (e : Refused) : Type 0 where
  pub ring : e.ring ≡ None
  pub named : IsNamedBy None e.refusal
