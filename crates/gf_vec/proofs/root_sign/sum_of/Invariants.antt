use Rattle.std.proofs.Common.{◌≡◌, ◌≤◌, ◌*◌, ◌^◌, ◌+ℤ◌, unsigned_abs, drop}
use Rattle.gf_vec.specs.RootSign.{total_of}
use Rattle.gf_vec.proofs.root_sign.sum_of.Given as goal

abbrev pub invariant-loop-x : goal.invariant-loop-x
invariant-loop-x l = (l.sum +ℤ total_of (drop l.x-index l.xs) ≡ total_of l.fn.xs) × (unsigned_abs l.sum ≤ l.x-index * 2 ^ 64)
