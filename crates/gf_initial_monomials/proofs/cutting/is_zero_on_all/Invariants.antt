use Rattle.std.proofs.Common.{pos, ◌≡◌}
use Rattle.gf_vec.specs.Vector.{dot}
use Rattle.gf_initial_monomials.proofs.OutcomeLaws.{AllPass}
use Rattle.gf_initial_monomials.proofs.cutting.is_zero_on_all.Given as goal

abbrev pub invariant-loop-v : goal.invariant-loop-v
invariant-loop-v l = AllPass (λ v. dot l.row v ≡ pos 0) l.vectors l.v-index
