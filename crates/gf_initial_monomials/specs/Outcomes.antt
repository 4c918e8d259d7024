-- At which vectors of a closed cone the initial ideal has a polynomial with a single term: one vector for each face, and the first of them.
-- Laws: proofs/FormLaws.antt, proofs/OutcomeLaws.antt.
-- Source: Maclagan, Sturmfels, Introduction to Tropical Geometry, 2.6.
use Rattle.std.specs.Prelude.{◌≡◌, ℕ, ◌++◌, ◌<◌, Bool, true, false, List, ℤ, Option, Some, None, Contains, length, take, slice_index_or}
use Rattle.gf_poly.specs.Polynomial.{Terms}
use Rattle.gf_poly.specs.Marking.{MarkedPolynomial, polys}
use Rattle.gf_saturate.specs.Tasks.{HaveRingVariables}
use Rattle.gf_duality_theory.specs.Rays.{IsRays}
use Rattle.gf_duality_theory.specs.Faces.{Rows, sum_of}
use Rattle.gf_fans_theory.specs.FaceLists.{numbered}
use Rattle.gf_rays.specs.Cones.{RowsAndRays}
use Rattle.gf_rays.specs.Faces.{AreFaces}
use Rattle.gf_rays.specs.declared.faces.Face.{Face}
use Rattle.gf_initial_theory.specs.Parts.{AreInitialParts}
use Rattle.gf_saturation_theory.specs.Saturations.{HasOneTermMember}

-- ---- at a vector

-- fs are the initial forms at v of the members of bs
pub record AreFormsAt (v : List ℤ) (bs : List MarkedPolynomial) (fs : List Terms) : Type 0 where
  pub parts : List MarkedPolynomial
  pub are_parts : AreInitialParts v bs parts
  pub polys_are : polys parts ≡ fs

-- they are, and each of their terms has n exponents
pub record AreKeptFormsAt (n : ℕ) (v : List ℤ) (bs : List MarkedPolynomial) (fs : List Terms) : Type 0 where
  pub forms : AreFormsAt v bs fs
  pub variables : HaveRingVariables n fs

-- the ideal of the initial forms of bs at v has a polynomial with a single term
pub record HasMonomialAt (n : ℕ) (bs : List MarkedPolynomial) (v : List ℤ) : Type 0 where
  pub forms : List Terms
  pub are_forms : AreFormsAt v bs forms
  pub member : HasOneTermMember n forms

-- the ideal of the initial forms of bs at v has no polynomial with a single term
pub record HasNoMonomialAt (n : ℕ) (bs : List MarkedPolynomial) (v : List ℤ) : Type 0 where
  pub forms : List Terms
  pub are_forms : AreFormsAt v bs forms
  pub none : HasOneTermMember n forms → ⊥

-- true: the ideal of the initial forms at v has a polynomial with a single term. False: it has none
abbrev pub TellsMonomial : ℕ → List MarkedPolynomial → List ℤ → Bool → Type 0
TellsMonomial n bs v true = HasMonomialAt n bs v
TellsMonomial n bs v false = HasNoMonomialAt n bs v

-- ---- the first in a list that fails

-- x is in the list, and all elements before it pass
pub record IsReached {A : Type 0} (Passes : A → Type 0) (xs : List A) (x : A) : Type 0 where
  pub index : ℕ
  pub inside : index < length xs
  pub here : slice_index_or xs index x ≡ x
  pub earlier : (y : A) → Contains (take index xs) y → Passes y

-- some vector: the first element of the list that doesn't pass fails at this vector. None: all pass
abbrev pub IsFirstThatFails : {A : Type 0} → (A → Type 0) → (List ℤ → A → Type 0) → List A → Option (List ℤ) → Type 0
IsFirstThatFails {A} Passes Fails xs None = (x : A) → Contains xs x → Passes x
IsFirstThatFails {A} Passes Fails xs (Some v) = (x : A) × IsReached Passes xs x × Fails v x

-- ---- the faces of a cone

-- the vector that is tried for a face: the sum of its rays
abbrev pub vector_of : RowsAndRays → Face → List ℤ
vector_of c f = sum_of c.ambient (numbered c.rays f.rays)

-- at the vector of the face there is no monomial in the ideal of the initial forms
abbrev pub PassesAt : List MarkedPolynomial → RowsAndRays → Face → Type 0
PassesAt bs c f = HasNoMonomialAt c.ambient bs (vector_of c f)

-- v is the vector of the face, and at v there is a monomial in the ideal of the initial forms
abbrev pub FailsAt : List MarkedPolynomial → RowsAndRays → List ℤ → Face → Type 0
FailsAt bs c v f = (v ≡ vector_of c f) × HasMonomialAt c.ambient bs v

-- ---- the intersection of a cone with the closed cone of a basis

-- d is the part of the cone c on which none of the rows is negative, with its rays
pub record IsCutBy (c : Rows) (n : ℕ) (rows : List (List ℤ)) (d : RowsAndRays) : Type 0 where
  pub ambient : d.ambient ≡ n
  pub inequalities : d.inequalities ≡ c.inequalities ++ rows
  pub equations : d.equations ≡ c.equations
  pub are_rays : IsRays n d.inequalities d.equations d.lineality d.rays

-- the faces of this part, by dimension and then by the numbers of their rays, have this outcome
pub record HasOutcome (n : ℕ) (bs : List MarkedPolynomial) (rows : List (List ℤ)) (c : Rows) (v : Option (List ℤ)) : Type 0 where
  pub cut : RowsAndRays
  pub is_cut : IsCutBy c n rows cut
  pub faces : List Face
  pub are_faces : AreFaces cut faces
  pub outcome : IsFirstThatFails (PassesAt bs cut) (FailsAt bs cut) faces v
