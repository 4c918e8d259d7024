use Rattle.std.proofs.Common.{◌≡◌, List, [], ◌++◌, ℤ, sym, ap, ◌∙◌, subst}
use Rattle.gf_gordan.specs.Alternative.{IsSolvable}
use Rattle.gf_facets_theory.specs.Regions.{Region}
use Rattle.gf_facets_theory.specs.Systems.{units}
use Rattle.gf_bases_tests.proofs.cones.flip_of.Goals as goal

pub flippable-requires-clause-interior : goal.flippable-requires-clause-interior
flippable-requires-clause-interior c =
    let v = c.args.cone.now.variables in
    let rows : c.args.cone.now.beside ≡ c.in_ok-region.region.rows ++ units v v =
    c.requires.beside ∙ ap (λ (k : Region). k.rows ++ units v v) (sym c.in_ok-region.ensures) in
    subst (λ (b : List (List ℤ)). IsSolvable v (c.args.cone.now.normals ++ b) []) rows c.requires.interior
