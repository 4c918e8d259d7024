use Rattle.gf_basis_states.proofs.CrossableLaws.{AreCrossableBefore}
use Rattle.gf_basis_states.proofs.crossable.crossable_normals.Given as goal

-- those at the states before are listed
abbrev pub invariant-states : goal.invariant-states
invariant-states l = AreCrossableBefore l.basis.variables l.region l.basis.items l.known-inside.cone l.state l.list.items
