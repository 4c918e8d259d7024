use Rattle.std.proofs.Common.{◌≡◌, ℕ, ◌<◌, List, ℤ, get_or, pos}
use Rattle.gf_vec.specs.Vector.{dot}
use Rattle.gf_fan_files.proofs.certificates.all_zero.Given as goal

-- the rows so far
abbrev pub invariant-loop-h : goal.invariant-loop-h
invariant-loop-h l = (k : ℕ) (d : List ℤ) → k < l.h-index → dot (get_or l.rows k d) l.v ≡ pos 0
