use Rattle.std.proofs.Common.{[], refl, sym}
use Rattle.gf_reverse_search.proofs.walker.Walker.below.Goals as goal

-- its own node is its top
pub invariant_of-result : goal.invariant_of-result
invariant_of-result g c = record { node = c.requires; top = c.args.here; path = []; at = record { leads = refl; long = sym c.zero.ensures } }
