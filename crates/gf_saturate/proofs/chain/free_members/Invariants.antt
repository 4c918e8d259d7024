use Rattle.std.proofs.Common.{◌≡◌, take}
use Rattle.gf_saturate.specs.Widening.{left_over}
use Rattle.gf_saturate.specs.Chains.{AreSplit}
use Rattle.gf_saturate.proofs.chain.free_members.Given as goal

abbrev pub invariant-members : goal.invariant-members
invariant-members l = (l.all.items ≡ left_over l.n (take l.i l.items)) × AreSplit l.n (take l.i l.items)
