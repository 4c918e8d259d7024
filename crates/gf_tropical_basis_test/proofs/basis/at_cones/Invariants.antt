use Rattle.std.specs.Prelude.{◌≡◌, None}
use Rattle.gf_duality_theory.specs.Faces.{Rows, cone_of}
use Rattle.gf_initial_monomials.specs.Outcomes.{HasOutcome}
use Rattle.gf_initial_monomials.specs.Passing.{ArePassedIn}
use Rattle.gf_initial_monomials.proofs.OutcomeLaws.{AllPass}
use Rattle.gf_tropical_basis_test.specs.Verdicts.{maximal_rows}
use Rattle.gf_tropical_basis_test.proofs.basis.at_cones.Given as goal

abbrev pub invariant-indices : goal.invariant-indices
invariant-indices l = AllPass (λ (c : Rows). HasOutcome l.basis.variables l.basis.items l.cone.normals c None) (maximal_rows l.fan) l.i ×
    (l.seen ≡ l.basis.variables) × ArePassedIn l.basis.variables l.basis.items (cone_of l.cone.normals) l.initial.passed l.passed
