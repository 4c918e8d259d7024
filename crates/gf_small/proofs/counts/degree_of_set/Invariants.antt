use Rattle.std.proofs.Common.{◌≡◌, map, take}
use Rattle.gf_small.specs.Degrees.{greatest, total_degree}
use Rattle.gf_small.proofs.counts.degree_of_set.Given as goal

abbrev pub invariant-members : goal.invariant-members
invariant-members l = l.most ≡ greatest (map (λ b. total_degree b.poly) (take l.i l.items))
