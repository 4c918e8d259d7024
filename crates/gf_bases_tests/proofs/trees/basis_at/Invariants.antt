use Rattle.std.specs.Prelude.{◌≡◌}
use Rattle.gf_facets_theory.specs.Regions.{all_positive}
use Rattle.gf_bases_tests.proofs.trees.basis_at.Given as goal

abbrev pub invariant-steps : goal.invariant-steps
invariant-steps l = l.walker.region ≡ all_positive l.n
