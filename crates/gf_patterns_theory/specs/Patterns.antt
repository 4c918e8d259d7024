-- Patterns: the exponents of greatest weight, by the maximum convention, and the closed cones of vectors with a pattern.
-- A polynomial is seen by its points, which are its exponents as whole vectors.
-- Source: Maclagan, Sturmfels, Introduction to Tropical Geometry, 2.3, 3.1.
use Rattle.std.specs.Prelude.{◌≡◌, ◌≢◌, ℕ, List, map, ℤ, pos, ◌≤ℤ◌, length, Contains, ◌↔◌}
use Rattle.gf_vec.specs.Vector.{dot}
use Rattle.gf_poly.specs.Polynomial.{Terms}
use Rattle.gf_duality_theory.specs.Faces.{Rows, IsInCone}
use Rattle.gf_patterns_theory.specs.Refinements.{IsFaceOfSome}

-- the exponents of a polynomial as whole vectors
abbrev pub points : Terms → List (List ℤ)
points f = map (λ t. map pos t.mono) f

-- s is in the pattern at u: it is one of the points, and none is higher
pub record IsHighest (A : List (List ℤ)) (u s : List ℤ) : Type 0 where
  pub listed : Contains A s
  pub highest : (b : List ℤ) → Contains A b → dot b u ≤ℤ dot s u

-- the pattern at u has all of S
abbrev pub HasPattern : List (List ℤ) → List (List ℤ) → List ℤ → Type 0
HasPattern A S u = (s b : List ℤ) → Contains S s → Contains A b → dot b u ≤ℤ dot s u

-- the pattern at u contains that at w
abbrev pub ContainsPattern : List (List ℤ) → List ℤ → List ℤ → Type 0
ContainsPattern A w u = (s : List ℤ) → IsHighest A w s → IsHighest A u s

-- so for each polynomial of a list
abbrev pub ContainsPatterns : List (List (List ℤ)) → List ℤ → List ℤ → Type 0
ContainsPatterns As w u = (A : List (List ℤ)) → Contains As A → ContainsPattern A w u

-- f is the closed cone of w: it holds the vectors whose patterns contain those at w
abbrev pub IsClosedCone : ℕ → List (List (List ℤ)) → List ℤ → Rows → Type 0
IsClosedCone n As w f = (u : List ℤ) → length u ≡ n → IsInCone f u ↔ ContainsPatterns As w u

-- w is on the hypersurface: the pattern there has at least two members
pub record IsOnHypersurface (A : List (List ℤ)) (w : List ℤ) : Type 0 where
  pub one : List ℤ
  pub two : List ℤ
  pub other : one ≢ two
  pub first : IsHighest A w one
  pub second : IsHighest A w two

-- w is on every hypersurface
abbrev pub IsOnPrevariety : List (List (List ℤ)) → List ℤ → Type 0
IsOnPrevariety As w = (A : List (List ℤ)) → Contains As A → IsOnHypersurface A w

-- any vector will do
abbrev pub IsAnywhere : List (List (List ℤ)) → List ℤ → Type 0
IsAnywhere As w = Unit {0}

-- f is the closed cone of some vector that is admitted
pub record IsClosedConeOf (Admitted : List (List (List ℤ)) → List ℤ → Type 0) (n : ℕ) (As : List (List (List ℤ))) (f : Rows) : Type 0 where
  pub vector : List ℤ
  pub width : length vector ≡ n
  pub admitted : Admitted As vector
  pub closed : IsClosedCone n As vector f

-- the faces of the cones are exactly the closed cones of the vectors that are admitted
pub record ArePatternCones (Admitted : List (List (List ℤ)) → List ℤ → Type 0) (n : ℕ) (As : List (List (List ℤ))) (cones : List Rows) : Type 0 where
  pub each : (f : Rows) → IsFaceOfSome n cones f → IsClosedConeOf Admitted n As f
  pub every : (w : List ℤ) → length w ≡ n → Admitted As w → (f : Rows) × (IsFaceOfSome n cones f × IsClosedCone n As w f)

-- the faces are the prevariety of the polynomials, of a single one its hypersurface
abbrev pub IsPrevariety : ℕ → List (List (List ℤ)) → List Rows → Type 0
IsPrevariety = ArePatternCones IsOnPrevariety

-- the faces are the Minkowski fan of the polynomials: the normal fan of the sum of their Newton polytopes
abbrev pub IsMinkowskiFan : ℕ → List (List (List ℤ)) → List Rows → Type 0
IsMinkowskiFan = ArePatternCones IsAnywhere

-- each list has a point: no polynomial is zero
abbrev pub HavePoints : List (List (List ℤ)) → Type 0
HavePoints As = (A : List (List ℤ)) → Contains As A → (b : List ℤ) × Contains A b
