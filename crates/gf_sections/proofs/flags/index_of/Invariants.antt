use Rattle.std.proofs.Common.{◌≡◌, ℕ, ◌<◌, get_or, List, ℤ}
use Rattle.gf_sections.proofs.flags.index_of.Given as goal

abbrev pub invariant-loop-index : goal.invariant-loop-index
invariant-loop-index l = (j : ℕ) (d : List ℤ) → j < l.index → get_or l.rows j d ≡ l.x → ⊥
