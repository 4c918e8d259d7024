-- What rays and lineality vectors generate, by the cone of the vectors on which no ray is negative and each lineality vector is
-- zero: the dual cone.
-- Laws: proofs/GeneratedLaws.antt.
use Rattle.std.specs.Prelude.{◌≡◌, ◌↔◌, ◌⊎◌, ℕ, List, ℤ, pos, ◌<ℤ◌, length}
use Rattle.gf_vec.specs.Vector.{dot}
use Rattle.gf_gordan.specs.Alternative.{AreRows}
use Rattle.gf_duality_theory.specs.Rays.{Satisfies, Generated, IsRays}

-- y is in the dual cone, and v is negative on it
pub record SeparatesFrom (n : ℕ) (rays lineality : List (List ℤ)) (v y : List ℤ) : Type 0 where
  pub width : length y ≡ n
  pub dual : Satisfies rays lineality y
  pub negative : dot v y <ℤ pos 0

-- Farkas' lemma: each vector is generated or negative on a vector of the dual cone, and none is both. Source: Farkas, Theorie der
-- einfachen Ungleichungen (1902).
pub record FarkasLemma : Type 0 where
  pub one : (n : ℕ) (rays lineality : List (List ℤ)) (v : List ℤ) → AreRows n rays → AreRows n lineality → length v ≡ n →
      Generated n rays lineality v ⊎ ((y : List ℤ) × SeparatesFrom n rays lineality v y)
  pub not_both : (n : ℕ) (rays lineality : List (List ℤ)) (v y : List ℤ) → AreRows n rays → AreRows n lineality → Generated n rays lineality v →
      SeparatesFrom n rays lineality v y → ⊥

-- the cone whose rows are the rays and the lineality basis of the dual cone has exactly what was generated
abbrev pub DualsOfDuals : Type 0
DualsOfDuals = (n : ℕ) (rays lineality lines duals : List (List ℤ)) (v : List ℤ) → AreRows n rays → AreRows n lineality → IsRays n rays lineality lines duals →
    length v ≡ n → Satisfies duals lines v ↔ Generated n rays lineality v
