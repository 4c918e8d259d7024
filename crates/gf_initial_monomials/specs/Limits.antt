-- When the only possible error is that memory runs out. Laws: proofs/LimitLaws.antt.
use Rattle.std.specs.Prelude.{ℕ, List, ◌++◌, ℤ, Contains}
use Rattle.gf_poly.specs.Polynomial.{Terms}
use Rattle.gf_poly.specs.Marking.{MarkedPolynomial}
use Rattle.gf_vec.specs.Vector.{zeros}
use Rattle.gf_vec.specs.Steps.{NoneWide}
use Rattle.gf_order.specs.Weights.{AreBounded}
use Rattle.gf_saturate.specs.Bases.{IsWantOfMemory}
use Rattle.gf_saturate.specs.Saturating.{AreStepsWithinLimits}
use Rattle.gf_duality_theory.specs.Faces.{Rows}
use Rattle.gf_fans_theory.specs.FaceLists.{numbered}
use Rattle.gf_rays.specs.Cones.{RowsAndRays, AreRaysWithinLimits}
use Rattle.gf_rays.specs.Faces.{AreFaces}
use Rattle.gf_rays.specs.Sums.{adding_steps}
use Rattle.gf_rays.specs.declared.faces.Face.{Face}
use Rattle.gf_initial_monomials.specs.declared.error.InitialError.{InitialError}
use Rattle.gf_initial_monomials.specs.declared.error.InitialError.TheVariants.{Cone, Wide, Entry, Saturation, Memory}
use Rattle.gf_initial_monomials.specs.Outcomes.{AreKeptFormsAt, IsCutBy, vector_of}

-- memory ran out, in a saturation or elsewhere
abbrev pub IsMemoryWanted : InitialError → Type 0
IsMemoryWanted (Cone s) = ⊥
IsMemoryWanted (Wide w) = ⊥
IsMemoryWanted (Entry i x) = ⊥
IsMemoryWanted (Saturation r) = IsWantOfMemory r
IsMemoryWanted Memory = Unit {0}

-- no partial sum of the rays of the face leaves the range, no entry of their sum is greater than 2^63 in absolute value, and in the saturation of the initial
-- forms at this sum the runs by the rule of the program stay within their limits
pub record IsFaceWithinLimits (bs : List MarkedPolynomial) (c : RowsAndRays) (pairs : ℕ) (f : Face) : Type 0 where
  pub sums : NoneWide (adding_steps (zeros c.ambient) (numbered c.rays f.rays))
  pub entries : AreBounded (vector_of c f)
  pub runs : (forms : List Terms) → AreKeptFormsAt c.ambient (vector_of c f) bs forms → AreStepsWithinLimits c.ambient forms pairs

-- no operation of finding the rays of the intersection of the cone c with the cone of these rows leaves the range, and each face of the
-- intersection is within its limits
pub record AreFacesWithinLimits (n : ℕ) (bs : List MarkedPolynomial) (rows : List (List ℤ)) (c : Rows) (pairs : ℕ) : Type 0 where
  pub rays : AreRaysWithinLimits n (c.inequalities ++ rows) c.equations
  pub faces : (cut : RowsAndRays) (faces : List Face) (f : Face) → IsCutBy c n rows cut → AreFaces cut faces → Contains faces f →
      IsFaceWithinLimits bs cut pairs f
