use Rattle.std.proofs.Common.{◌≡◌, length}
use Rattle.gf_refine.proofs.pairs.no_holders.Given as goal

abbrev pub invariant-loop-i : goal.invariant-loop-i
invariant-loop-i l = length l.out.items ≡ l._i
