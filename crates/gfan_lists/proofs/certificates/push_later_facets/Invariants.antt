use Rattle.std.proofs.Common.{◌≡◌, ◌++◌, flat_map, take}
use Rattle.gfan_lists.specs.Certificates.{later_facet_text}
use Rattle.gfan_lists.proofs.certificates.push_later_facets.Given as goal

-- the facets so far are added
abbrev pub invariant-facets : goal.invariant-facets
invariant-facets l = l.text.items ≡ l.initial.text.items ++ flat_map later_facet_text (take l.facet-index l.facets)
