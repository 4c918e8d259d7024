use Rattle.std.proofs.Common.{◌≡◌, ℕ, List, length, take, All, Contains}
use Rattle.gf_fan.proofs.maximal.is_top.Given as goal

abbrev pub invariant-loop-top : goal.invariant-loop-top
invariant-loop-top l = (t : List ℕ) → Contains (take l.top-index l.tops) t → (length t ≡ length l.own → ⊥) → All (Contains t) l.own → ⊥
