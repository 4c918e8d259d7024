-- Vectors that passed at a basis, and what is known of them at another. Laws: proofs/PassingLaws.antt.
use Rattle.std.specs.Prelude.{◌≡◌, ◌⊎◌, ℕ, List, ℤ, length, Contains}
use Rattle.gf_poly.specs.Marking.{MarkedPolynomial}
use Rattle.gf_duality_theory.specs.Faces.{Rows, IsInCone}
use Rattle.gf_initial_monomials.specs.Outcomes.{HasNoMonomialAt}

-- at each of the vectors that is in the cone c the ideal of the initial forms of bs has no polynomial with a single term
abbrev pub AreKnownIn : ℕ → List MarkedPolynomial → Rows → List (List ℤ) → Type 0
AreKnownIn n bs c vs = (v : List ℤ) → Contains vs v → length v ≡ n → IsInCone c v → HasNoMonomialAt n bs v

-- v is in the cone c, and at v the ideal of the initial forms of bs has no polynomial with a single term
pub record HasPassedIn (n : ℕ) (bs : List MarkedPolynomial) (c : Rows) (v : List ℤ) : Type 0 where
  pub long : length v ≡ n
  pub inside : IsInCone c v
  pub none : HasNoMonomialAt n bs v

-- each vector of the new list is one of the old list, or has passed in the cone c
abbrev pub ArePassedIn : ℕ → List MarkedPolynomial → Rows → List (List ℤ) → List (List ℤ) → Type 0
ArePassedIn n bs c old new = (v : List ℤ) → Contains new v → Contains old v ⊎ HasPassedIn n bs c v
