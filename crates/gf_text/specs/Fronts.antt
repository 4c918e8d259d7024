-- How much two texts have in common at their fronts, and what is known of it.
-- Laws: proofs/FrontsLaws.antt.
use Rattle.std.specs.Prelude.{◌≡◌, ℕ, suc, ◌<◌, ◌≤◌, nat_eq, List, [], ◌∷◌, length, get_or, drop, if◌then◌else◌}
use Rattle.gf_text.specs.declared.fronts.Found.{Found}
use Rattle.gf_text.specs.declared.fronts.Known.{Known}
use Rattle.gf_text.specs.declared.fronts.Known.TheVariants.{Exactly, AtLeast}

-- how many bytes two texts have in common at their fronts
abbrev pub common_front : List ℕ → List ℕ → ℕ
common_front [] bs = 0
common_front (a ∷ more) [] = 0
common_front (a ∷ more) (b ∷ bs) = if nat_eq a b then suc (common_front more bs) else 0

-- For its first places, how much a name has from there on in common with its front.
abbrev pub IsTable : List ℕ → List ℕ → Type 0
IsTable name table = (i : ℕ) → i < length table → get_or table i 0 ≡ common_front name (drop i name)

-- What is known of a place of a source: at least so many of the name's first bytes are there.
abbrev pub IsFound : List ℕ → List ℕ → Found → Type 0
IsFound name source found = found.size ≤ common_front name (drop found.at source)

-- nothing is known
abbrev pub nowhere : Found
nowhere = record { at = 0; size = 0 }

-- the same for each of these names
abbrev pub AreFound : List (List ℕ) → List ℕ → List Found → Type 0
AreFound names source all = (i : ℕ) → i < length names → IsFound (get_or names i []) source (get_or all i nowhere)

-- What is known of a number.
abbrev pub IsKnown : Known → ℕ → Type 0
IsKnown (Exactly k) n = n ≡ k
IsKnown (AtLeast k) n = k ≤ n
