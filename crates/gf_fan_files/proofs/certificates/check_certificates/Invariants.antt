use Rattle.std.proofs.Common.{ℕ, ◌<◌}
use Rattle.gf_fan_files.specs.Certificates.{IsInsideAt}
use Rattle.gf_fan_files.proofs.certificates.check_certificates.Given as goal

-- the rows so far lie inside their cones
abbrev pub invariant-loop-place : goal.invariant-loop-place
invariant-loop-place l = (k : ℕ) → k < l.place → IsInsideAt l.n l.cones l.rows k
