use Rattle.std.proofs.Common.{◌≡◌, ℕ, ◌<◌, get_or, List, ℤ}
use Rattle.gf_vec.proofs.lists.is_one_of.Given as goal

abbrev pub invariant-loop-y : goal.invariant-loop-y
invariant-loop-y l = (j : ℕ) (d : List ℤ) → j < l.y-index → get_or l.vectors j d ≡ l.x → ⊥
