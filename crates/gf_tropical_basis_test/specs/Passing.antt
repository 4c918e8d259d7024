-- Vectors that passed at one basis of an ideal pass at each other one. Laws: proofs/PassingLaws.antt.
use Rattle.std.specs.Prelude.{◌≡◌, ℕ, List, ℤ, length, Contains}
use Rattle.gf_poly.specs.Polynomial.{Terms}
use Rattle.gf_poly.specs.Marking.{MarkedPolynomial}
use Rattle.gf_duality_theory.specs.Faces.{cone_of}
use Rattle.gf_facets_theory.specs.Normals.{AreNormals}
use Rattle.gf_initial_monomials.specs.Passing.{AreKnownIn, ArePassedIn}
use Rattle.gf_tropical_basis_test.specs.Tests.{IsMonomialFree}

-- at each of the vectors that is in the closed cone of bs the ideal of the initial forms of bs has no polynomial with a single term
abbrev pub AreKnownAt : ℕ → List MarkedPolynomial → List (List ℤ) → Type 0
AreKnownAt n bs vs = (normals : List (List ℤ)) → AreNormals bs normals → AreKnownIn n bs (cone_of normals) vs

-- each vector of the new list is one of the old list, or has passed in the closed cone of bs
abbrev pub ArePassedAt : ℕ → List MarkedPolynomial → List (List ℤ) → List (List ℤ) → Type 0
ArePassedAt n bs old new = (normals : List (List ℤ)) × AreNormals bs normals × ArePassedIn n bs (cone_of normals) old new

-- each of the vectors has n entries, and the initial ideal at it has no polynomial with a single term
abbrev pub AreMonomialFree : ℕ → List Terms → List (List ℤ) → Type 0
AreMonomialFree n fs vs = (v : List ℤ) → Contains vs v → (length v ≡ n) × IsMonomialFree n fs v
