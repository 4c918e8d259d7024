use Rattle.std.proofs.Common.{◌<◌, length, take, All}
use Rattle.gf_cuts.specs.Heights.{IsThinned}
use Rattle.gf_cuts.proofs.thinning.thinned_once.Given as goal

abbrev pub invariant-loop-x : goal.invariant-loop-x
invariant-loop-x l = record {
  thin : IsThinned l.rows (take l.x-index l.indices) l.kept.items;
  inside : All (λ x. x < length l.rows) l.kept.items;
}
