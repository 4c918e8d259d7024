use Rattle.std.specs.Prelude.{◌≡◌}
use Rattle.gf_rays.specs.Cones.{rows_of}
use Rattle.gf_initial_monomials.specs.Outcomes.{PassesAt}
use Rattle.gf_initial_monomials.specs.Passing.{ArePassedIn}
use Rattle.gf_initial_monomials.proofs.OutcomeLaws.{AllPass}
use Rattle.gf_initial_monomials.proofs.faces.at_faces.Given as goal

abbrev pub invariant-faces : goal.invariant-faces
invariant-faces l = AllPass (PassesAt l.basis.items l.cone) l.faces l.i × (l.seen ≡ l.basis.variables) ×
    ArePassedIn l.basis.variables l.basis.items (rows_of l.cone) l.initial.passed l.passed
