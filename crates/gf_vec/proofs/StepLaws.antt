-- The first operation of a list that leaves the range.
use Rattle.std.proofs.Common.{List, [], ◌∷◌, inl, inr}
use Rattle.gf_vec.specs.Steps.{IsWide, IsFirstWide}
use Rattle.gf_vec.specs.declared.error.WideVector.{WideVector}

-- it does leave it
pub IsWide-first : (e : WideVector) (steps : List WideVector) → IsFirstWide e steps → IsWide e
IsWide-first e [] h = absurd h
IsWide-first e (s ∷ steps) (inl h) = h.1
IsWide-first e (s ∷ steps) (inr h) = IsWide-first e steps h.1
