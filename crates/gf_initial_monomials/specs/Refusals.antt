-- Why it isn't decided whether an initial ideal has a polynomial with a single term.
use Rattle.std.specs.Prelude.{◌≡◌, ℕ, ◌++◌, ◌<◌, ◌≤◌, ◌^◌, List, ℤ, pos, length, get_or, unsigned_abs}
use Rattle.gf_poly.specs.Polynomial.{Terms}
use Rattle.gf_poly.specs.Marking.{MarkedPolynomial}
use Rattle.gf_vec.specs.Vector.{zeros}
use Rattle.gf_vec.specs.Steps.{IsFirstWide}
use Rattle.gf_vec.specs.declared.error.VecError.{VecError}
use Rattle.gf_vec.specs.declared.error.VecError.TheVariants as vectors
use Rattle.gf_gordan.specs.declared.error.ConeOverflow.{ConeOverflow}
use Rattle.gf_gordan.specs.declared.error.GordanError.{GordanError}
use Rattle.gf_gordan.specs.declared.error.GordanError.TheVariants as cones
use Rattle.gf_saturate.specs.Saturating.{IsSaturateRefusal}
use Rattle.gf_duality_theory.specs.Faces.{Rows}
use Rattle.gf_fans_theory.specs.FaceLists.{numbered}
use Rattle.gf_rays.specs.Cones.{RowsAndRays}
use Rattle.gf_rays.specs.Faces.{AreFaces}
use Rattle.gf_rays.specs.Reached.{IsRaysStep}
use Rattle.gf_rays.specs.Sums.{adding_steps}
use Rattle.gf_rays.specs.declared.faces.Face.{Face}
use Rattle.gf_initial_monomials.specs.declared.error.InitialError.{InitialError}
use Rattle.gf_initial_monomials.specs.declared.error.InitialError.TheVariants.{Cone, Wide, Entry, Saturation, Memory}
use Rattle.gf_initial_monomials.specs.Outcomes.{AreKeptFormsAt, IsReached, IsCutBy, PassesAt, vector_of}

-- ---- refusals of other crates

-- the refusal of an operation on cones: the step that leaves its range, or memory runs out
abbrev pub of_cone_refusal : GordanError → InitialError
of_cone_refusal (cones.Cone s) = Cone s
of_cone_refusal cones.Memory = Memory

-- the refusal of an operation on vectors: the operation that leaves its range, or memory runs out
abbrev pub of_vector_refusal : VecError → InitialError
of_vector_refusal (vectors.Wide w) = Wide w
of_vector_refusal vectors.Memory = Memory

-- ---- causes

-- the entry at i is greater than 2^63 in absolute value, and no entry before it is
pub record IsFirstWideEntry (v : List ℤ) (i : ℕ) : Type 0 where
  pub inside : i < length v
  pub past : 2 ^ 63 < unsigned_abs (get_or v i (pos 0))
  pub earlier : (j : ℕ) → j < i → unsigned_abs (get_or v j (pos 0)) ≤ 2 ^ 63

-- why the vector v can't be tested: its first entry that is greater than 2^63 in absolute value; or a refusal of the saturation of the
-- ideal of the initial forms at v
abbrev pub IsVectorRefusal : ℕ → List MarkedPolynomial → List ℤ → ℕ → InitialError → Type 0
IsVectorRefusal n bs v pairs (Cone s) = ⊥
IsVectorRefusal n bs v pairs (Wide w) = ⊥
IsVectorRefusal n bs v pairs (Entry i x) = IsFirstWideEntry v i × (x ≡ get_or v i (pos 0))
IsVectorRefusal n bs v pairs (Saturation r) = (forms : List Terms) × AreKeptFormsAt n v bs forms × IsSaturateRefusal n forms pairs r
IsVectorRefusal n bs v pairs Memory = Unit {0}

-- why the face f of the cone c can't be tested: the first partial sum of its rays that leaves the range; or a refusal at the sum
abbrev pub IsRefusedAtFace : List MarkedPolynomial → RowsAndRays → ℕ → InitialError → Face → Type 0
IsRefusedAtFace bs c pairs (Wide w) f = IsFirstWide w (adding_steps (zeros c.ambient) (numbered c.rays f.rays))
IsRefusedAtFace bs c pairs (Cone s) f = ⊥
IsRefusedAtFace bs c pairs (Entry i x) f = IsVectorRefusal c.ambient bs (vector_of c f) pairs (Entry i x)
IsRefusedAtFace bs c pairs (Saturation r) f = IsVectorRefusal c.ambient bs (vector_of c f) pairs (Saturation r)
IsRefusedAtFace bs c pairs Memory f = Unit {0}

-- a refusal at one of these faces, and all faces before it pass; or memory runs out
pub data IsFaceRefusal (bs : List MarkedPolynomial) (c : RowsAndRays) (faces : List Face) (pairs : ℕ) (e : InitialError) : Type 0 where
  at_face : (f : Face) → IsReached (PassesAt bs c) faces f → IsRefusedAtFace bs c pairs e f → IsFaceRefusal bs c faces pairs e
  no_memory : e ≡ Memory → IsFaceRefusal bs c faces pairs e

-- why the cone c can't be tested: a refusal of finding the rays of its intersection with the cone of these rows, or one at a face of this;
-- or memory runs out
pub data IsConeRefusal (n : ℕ) (bs : List MarkedPolynomial) (rows : List (List ℤ)) (c : Rows) (pairs : ℕ) (e : InitialError) : Type 0 where
  at_rays : (s : ConeOverflow) → IsRaysStep n (c.inequalities ++ rows) c.equations s → e ≡ Cone s → IsConeRefusal n bs rows c pairs e
  at_faces : (cut : RowsAndRays) (faces : List Face) → IsCutBy c n rows cut → AreFaces cut faces → IsFaceRefusal bs cut faces pairs e →
      IsConeRefusal n bs rows c pairs e
  no_memory : e ≡ Memory → IsConeRefusal n bs rows c pairs e
