use Rattle.std.proofs.Common.{◌≡◌, ◌≤◌, ◌*◌, ◌^◌, ◌+ℤ◌, unsigned_abs, drop}
use Rattle.gf_vec.specs.Vector.{dot}
use Rattle.gf_cone.proofs.narrow.short_dot.Given as goal

abbrev pub invariant-entries : goal.invariant-entries
invariant-entries l = (l.sum +ℤ dot (drop l.i l.xs) (drop l.i l.ys) ≡ dot l.xs l.ys) × (unsigned_abs l.sum ≤ l.i * 2 ^ 57)
