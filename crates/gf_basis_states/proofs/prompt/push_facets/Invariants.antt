use Rattle.std.proofs.Common.{◌≡◌, ◌++◌, take}
use Rattle.gf_basis_states.specs.Prompts.{facet_lines}
use Rattle.gf_basis_states.proofs.prompt.push_facets.Given as goal

-- the lines so far are added
abbrev pub invariant-facets : goal.invariant-facets
invariant-facets l = l.text.items ≡ l.initial.text.items ++ facet_lines 0 (take l.i l.normals)
