-- Fans that have the same cones.
use Rattle.std.specs.Prelude.{◌≡◌, map, Contains}
use Rattle.gf_duality_theory.specs.Faces.{SameCone}
use Rattle.gf_rays.specs.Cones.{rows_of}
use Rattle.gf_fan.specs.declared.cones.FanCone.{FanCone}
use Rattle.gf_fan.specs.FanLists.{FanLists, rank_of}

-- each cone of g is one of f, and each of f is one of g, by whatever rows
pub record HaveSameCones (f g : FanLists) : Type 0 where
  pub ambient : g.ambient ≡ f.ambient
  pub each : (l : FanCone) → Contains g.cones l → (k : FanCone) × (Contains f.cones k × SameCone f.ambient (rows_of k.cone) (rows_of l.cone))
  pub every : (k : FanCone) → Contains f.cones k → (l : FanCone) × (Contains g.cones l × SameCone f.ambient (rows_of k.cone) (rows_of l.cone))

-- they differ in nothing but the rows of their cones and what is counted of them: the lineality basis, the basis of its
-- complement, the rays, the dimension of each cone and the numbers of its rays, the indices of the maximal ones
pub record HaveSameLists (f g : FanLists) : Type 0 where
  pub ambient : g.ambient ≡ f.ambient
  pub lineality : g.lineality ≡ f.lineality
  pub orthogonal : g.orthogonal ≡ f.orthogonal
  pub rays : g.rays ≡ f.rays
  pub cones : map rank_of g.cones ≡ map rank_of f.cones
  pub maximal : g.maximal ≡ f.maximal
