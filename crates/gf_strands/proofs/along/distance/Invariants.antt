use Rattle.std.specs.Prelude.{◌≡◌, ℕ, ◌<◌, get_or, pos, ◌+ℤ◌, ◌*ℤ◌}
use Rattle.gf_exponents_theory.specs.Exponents.{entry}
use Rattle.gf_strands.proofs.along.distance.Given as goal

abbrev pub invariant-entries : goal.invariant-entries
invariant-entries l = (j : ℕ) → j < l.i → pos (entry l.x j) ≡ pos (entry l.y j) +ℤ l.k *ℤ get_or l.normal j (pos 0)
