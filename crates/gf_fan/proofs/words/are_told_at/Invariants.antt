use Rattle.std.proofs.Common.{ℕ, ◌<◌, get_or}
use Rattle.gf_fan.specs.Words.{IsToldAt}
use Rattle.gf_fan.proofs.words.are_told_at.Given as goal

abbrev pub invariant-loop-b : goal.invariant-loop-b
invariant-loop-b l = (b : ℕ) → b < l.b → IsToldAt l.known l.left l.right (get_or l.own b 0) (get_or l.others b 0) b
