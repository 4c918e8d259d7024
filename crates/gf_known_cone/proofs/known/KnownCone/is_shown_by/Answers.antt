use Rattle.std.proofs.Common.{subst, [], ◌∷◌, List, ℤ}
use Rattle.gf_gordan.specs.Alternative.{IsSolution}
use Rattle.gf_cone.specs.Cones.{ConeRows, other_rows, normal_at}
use Rattle.gf_known_cone.proofs.known.KnownCone.is_shown_by.Goals as goal

pub returns : goal.returns
returns c = λ t.
    let P : ConeRows → List ℤ → Type 0 = λ k w. IsSolution k.variables (other_rows k c.args.index) (normal_at k c.args.index ∷ []) w in
    subst (λ (k : ConeRows). P k c.args.witness.now) c.self.view_is (subst (P c.self.inside.cone) c.as_slice-entries.ensures.value (c.shows.ensures t))
