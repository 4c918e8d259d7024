use Rattle.std.proofs.Common.{◌≡◌, map, take}
use Rattle.gf_small.specs.LeadingTerms.{leading_set}
use Rattle.gfan_sets.proofs.leading_terms.leading_sets.Given as goal

-- those of the sets so far
abbrev pub invariant-sets : goal.invariant-sets
invariant-sets l = l.found.items ≡ map leading_set (take l.set-index l.sets)
