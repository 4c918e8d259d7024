-- What is left of a tree at a path, by the mark of the walker that stands there.
-- The paths are those below the walker's top, all of which begin alike, so that they compare as whole paths do.
-- Laws: proofs/LeftLaws.antt, which has that the two forms agree.
use Rattle.std.specs.Prelude.{◌≡◌, List, [], ◌∷◌, ◌++◌, ◌⊎◌}
use Rattle.gf_reverse_search.specs.declared.mark.Mark.{Mark}
use Rattle.gf_reverse_search.specs.declared.mark.Mark.TheVariants.{Before, After, Listed, Finished}
use Rattle.gf_reverse_search.specs.Path.{Precedes, Begins}

-- the path q is left at the path r: it isn't below r; it is above r; it is above r, and not under a label up to a; it is above r, and not under r
abbrev pub IsLeft : {L : Type 0} → (L → L → Type 0) → Mark L → List L → List L → Type 0
IsLeft lt Before r q = (r ≡ q) ⊎ Precedes lt r q
IsLeft lt Listed r q = Precedes lt r q
IsLeft {L} lt (After a) r q = Precedes lt r q × ((b : L) → (lt b a ⊎ (b ≡ a)) → Begins (r ++ b ∷ []) q → ⊥)
IsLeft lt Finished r q = Precedes lt r q × (Begins r q → ⊥)

-- ---- the same by recursion on the path

-- a mark at a node lets the path q below it pass
abbrev pub IsBelowMark : {L : Type 0} → (L → L → Type 0) → Mark L → List L → Type 0
IsBelowMark lt Before q = Unit {0}
IsBelowMark lt Listed [] = ⊥
IsBelowMark lt Listed (c ∷ q) = Unit {0}
IsBelowMark lt (After a) [] = ⊥
IsBelowMark lt (After a) (c ∷ q) = lt a c
IsBelowMark lt Finished q = ⊥

-- q is left at r: it leaves r to the right, or goes on from r where the mark lets it pass
abbrev pub IsOpen : {L : Type 0} → (L → L → Type 0) → Mark L → List L → List L → Type 0
IsOpen lt m [] q = IsBelowMark lt m q
IsOpen lt m (c ∷ r) [] = ⊥
IsOpen lt m (c ∷ r) (b ∷ q) = lt c b ⊎ ((c ≡ b) × IsOpen lt m r q)
