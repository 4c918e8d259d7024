-- Checks of the input of the small tools, and of those on cones.
use Rattle.std.specs.Prelude.{◌≡◌, ℕ, ◌+◌, ◌<◌, ◌≤◌, List, [], ◌∷◌, Some, ℤ}
use Rattle.gf_poly.specs.Marking.{MarkedPolynomial}
use Rattle.gf_text.specs.declared.TheConstants.{MOST_VARIABLES}
use Rattle.gf_text.specs.declared.written.Written.{Written}
use Rattle.gf_text.specs.Sets.{AreNonzero, IsFirstZero}
use Rattle.gf_front.specs.declared.refusal.Refusal.{Refusal}
use Rattle.gf_front.specs.declared.refusal.Refusal.TheVariants as refusals
use Rattle.gf_items.specs.Checks.{Check}
use Rattle.gfan_common.specs.Forms.{FitsVariables, IsLengthRefusal}

-- the check that a vector has an entry for each of n variables
abbrev pub for_variables : ℕ → List ℤ → Check
for_variables n vector = record { Holds = FitsVariables n (Some vector); Fails = IsLengthRefusal n (Some vector) }

-- the check that each of several vectors has an entry for each of n variables, one after another
abbrev pub for_each : ℕ → List (List ℤ) → List Check
for_each n [] = []
for_each n (w ∷ ws) = for_variables n w ∷ for_each n ws

-- the refusal for a space of dimension 0: it has the numbers 0 and 1
abbrev pub IsSpaceRefusal : ℕ → Refusal → Type 0
IsSpaceRefusal n (refusals.Dimensions left right) = (left ≡ 0) × (right ≡ 1) × (n ≡ 0)
IsSpaceRefusal n _ = ⊥

-- the check that there is a variable
abbrev pub for_space : ℕ → Check
for_space n = record { Holds = 1 ≤ n; Fails = IsSpaceRefusal n }

-- no polynomial of the set is zero
abbrev pub HasNoZero : List Written → Type 0
HasNoZero ws = (ms : List MarkedPolynomial) × AreNonzero ws ms

-- the refusal for a zero polynomial: it has the index of the first one, and 0 as the number of the set, which is the only one
abbrev pub IsZeroRefusal : List Written → Refusal → Type 0
IsZeroRefusal ws (refusals.ZeroPolynomial set index) = (set ≡ 0) × IsFirstZero ws index
IsZeroRefusal ws _ = ⊥

-- the check that no polynomial is zero
abbrev pub without_zero : List Written → Check
without_zero ws = record { Holds = HasNoZero ws; Fails = IsZeroRefusal ws }

-- the refusal for a ring that can't have one more variable: it has the new number
abbrev pub IsRoomRefusal : ℕ → Refusal → Type 0
IsRoomRefusal n (refusals.TooManyVariables count) = (count ≡ n + 1) × (MOST_VARIABLES ≤ n)
IsRoomRefusal n _ = ⊥

-- the check that there may be one more variable
abbrev pub for_one_more : ℕ → Check
for_one_more n = record { Holds = n < MOST_VARIABLES; Fails = IsRoomRefusal n }
