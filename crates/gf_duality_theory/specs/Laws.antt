-- The theorems on cones that functions of this crate name.
use Rattle.std.specs.Prelude.{◌≡◌, ◌↔◌, ℕ, List, [], ℤ, pos, ◌<ℤ◌, length, Contains}
use Rattle.gf_vec.specs.Vector.{dot}
use Rattle.gf_duality_theory.specs.Rays.{IsRays}
use Rattle.gf_duality_theory.specs.Faces.{Rows, SameCone, IsInterior, IsFacetRow, IsWitness, IsPartAt, IsOfFullDimension, cone_of, sum_of}

-- two systems of one cone have one lineality basis and one list of rays
abbrev pub RaysAreUnique : Type 0
RaysAreUnique = (n : ℕ) (c d : Rows) (lin rays lines others : List (List ℤ)) → SameCone n c d → IsRays n c.inequalities c.equations lin rays →
    IsRays n d.inequalities d.equations lines others → (lin ≡ lines) × (rays ≡ others)

-- the sum of the rays is in the interior; it is positive on all inequalities where some vector is; and where a row has a
-- witness, the sum of the rays on which it is zero is one
pub record SumsOfRaysAreInside : Type 0 where
  pub interior : (n : ℕ) (c : Rows) (lin rays : List (List ℤ)) → IsRays n c.inequalities c.equations lin rays → IsInterior n c (sum_of n rays)
  pub positive : (n : ℕ) (rows lin rays : List (List ℤ)) (w h : List ℤ) → IsRays n rows [] lin rays → length w ≡ n →
      ((k : List ℤ) → Contains rows k → pos 0 <ℤ dot k w) → Contains rows h → pos 0 <ℤ dot h (sum_of n rays)
  pub witness : (n : ℕ) (rows lin rays part : List (List ℤ)) (a v : List ℤ) → IsRays n rows [] lin rays → IsPartAt rays a part → Contains rows a →
      IsWitness n rows a v → IsWitness n rows a (sum_of n part)

-- where some vector is positive on all inequalities, and these are primitive, those of facets are those with a witness
abbrev pub FacetsHaveWitnesses : Type 0
FacetsHaveWitnesses = (n : ℕ) (rows lin rays : List (List ℤ)) (w a : List ℤ) → IsOfFullDimension n rows lin rays w → Contains rows a →
    IsFacetRow n (cone_of rows) a ↔ ((v : List ℤ) × IsWitness n rows a v)
