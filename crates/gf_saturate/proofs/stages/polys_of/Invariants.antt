use Rattle.std.proofs.Common.{◌≡◌, take}
use Rattle.gf_poly.specs.Marking.{polys}
use Rattle.gf_saturate.proofs.stages.polys_of.Given as goal

abbrev pub invariant-members : goal.invariant-members
invariant-members l = l.all.items ≡ polys (take l.i l.items)
