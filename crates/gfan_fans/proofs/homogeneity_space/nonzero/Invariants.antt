use Rattle.std.proofs.Common.{◌≡◌, take}
use Rattle.gfan_fans.specs.HomogeneitySpace.{nonzero_of}
use Rattle.gfan_fans.proofs.homogeneity_space.nonzero.Given as goal

-- those of the polynomials so far
abbrev pub invariant-polynomials : goal.invariant-polynomials
invariant-polynomials l = l.found.items ≡ nonzero_of (take l.read-index l.set)
