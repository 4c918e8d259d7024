use Rattle.std.proofs.Common.{pos, ◌≤ℤ◌}
use Rattle.gf_vec.specs.Vector.{dot}
use Rattle.gf_initial_monomials.proofs.OutcomeLaws.{AllPass}
use Rattle.gf_initial_monomials.proofs.cutting.is_negative_on_none.Given as goal

abbrev pub invariant-loop-v : goal.invariant-loop-v
invariant-loop-v l = AllPass (λ v. pos 0 ≤ℤ dot l.row v) l.vectors l.v-index
