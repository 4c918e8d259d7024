use Rattle.std.proofs.Common.{◌≡◌, ◌≤◌, ◌+◌, ◌-◌, drop}
use Rattle.gf_text.specs.Fronts.{common_front}
use Rattle.gf_text.proofs.fronts.common_front.Given as goal

abbrev pub invariant-loop-size : goal.invariant-loop-size
invariant-loop-size l = record {
  within : l.size ≤ l.most;
  rest : l.size + common_front (drop l.size l.left) (drop l.size l.right) ≡ common_front l.left l.right;
}

abbrev pub decreases-loop-size : goal.decreases-loop-size
decreases-loop-size l = l.most - l.size
