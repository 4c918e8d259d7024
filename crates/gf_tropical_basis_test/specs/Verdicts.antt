-- What a verdict says, and the first vector that fails. Laws: proofs/VerdictLaws.antt.
-- Source: Maclagan, Sturmfels, Introduction to Tropical Geometry, 2.6.
use Rattle.std.specs.Prelude.{◌≡◌, ℕ, List, ℤ, Option, Some, None, map, length}
use Rattle.gf_poly.specs.Polynomial.{Terms}
use Rattle.gf_poly.specs.Marking.{MarkedPolynomial, MarkedPolynomials}
use Rattle.gf_duality_theory.specs.Faces.{Rows}
use Rattle.gf_fan.specs.FanLists.{FanLists}
use Rattle.gf_fan.specs.MaximalCones.{maximal_of}
use Rattle.gf_refine.specs.FanRows.{cone_rows}
use Rattle.gf_patterns_theory.specs.Patterns.{points, IsOnPrevariety}
use Rattle.gf_tropical.specs.TropicalFans.{IsPrevarietyFan}
use Rattle.gf_tropical.specs.DifferenceRows.{IsByDifferences}
use Rattle.gf_facets_theory.specs.Normals.{AreNormals}
use Rattle.gf_reverse_theory.specs.Lists.{IsListFor}
use Rattle.gf_tree.specs.Ideals.{ideal_by}
use Rattle.gf_tropical_basis_test.specs.Tests.{IsMonomialFree}
use Rattle.gf_initial_monomials.specs.Outcomes.{IsFirstThatFails, HasOutcome}
use Rattle.gf_tropical_basis_test.specs.declared.verdict.Verdict.{Verdict}
use Rattle.gf_tropical_basis_test.specs.declared.verdict.Verdict.TheVariants.{Yes, No}

-- ---- the theorem

-- yes: at no vector of the prevariety the initial ideal has a polynomial with a single term. No: v is on the prevariety, and the initial ideal
-- at v has one
abbrev pub IsVerdict : ℕ → List Terms → Verdict → Type 0
IsVerdict n fs Yes = (w : List ℤ) → length w ≡ n → IsOnPrevariety (map points fs) w → IsMonomialFree n fs w
IsVerdict n fs (No v) = (length v ≡ n) × IsOnPrevariety (map points fs) v × (IsMonomialFree n fs v → ⊥)

-- ---- the first vector that fails

-- the fan of the prevariety of fs, with maximal cones whose rows are differences of two exponents of one polynomial
pub record IsTestFan (n : ℕ) (fs : List Terms) (h : FanLists) : Type 0 where
  pub prevariety : IsPrevarietyFan n (map points fs) h
  pub rows : IsByDifferences (map points fs) h

-- the rows of the maximal cones of a fan, in order
abbrev pub maximal_rows : FanLists → List Rows
maximal_rows h = cone_rows (maximal_of h)

-- the outcome of the test of the cones, one after another, with the closed cone of the basis bs
pub record HasBasisOutcome (n : ℕ) (cones : List Rows) (bs : List MarkedPolynomial) (v : Option (List ℤ)) : Type 0 where
  pub normals : List (List ℤ)
  pub are_normals : AreNormals bs normals
  pub outcome : IsFirstThatFails (λ (c : Rows). HasOutcome n bs normals c None) (λ (u : List ℤ) (c : Rows). HasOutcome n bs normals c (Some u)) cones v

-- the outcome of the test of the bases of the ideal of fs, one after another, in the order of their paths
pub record HaveBasesOutcome (n : ℕ) (fs : List Terms) (cones : List Rows) (v : Option (List ℤ)) : Type 0 where
  pub bases : List MarkedPolynomials
  pub are_bases : IsListFor (ideal_by n fs) bases
  pub outcome : IsFirstThatFails (λ (b : MarkedPolynomials). HasBasisOutcome n cones b.items None) (λ (u : List ℤ) (b : MarkedPolynomials).
      HasBasisOutcome n cones b.items (Some u)) bases v

-- the vector of a verdict of no
abbrev pub outcome_of : Verdict → Option (List ℤ)
outcome_of Yes = None
outcome_of (No v) = Some v

-- the verdict by the maximal cones of the prevariety: if it is no, its vector is the first that fails
pub record IsFirstVerdict (n : ℕ) (fs : List Terms) (verdict : Verdict) : Type 0 where
  pub fan : FanLists
  pub is_fan : IsPrevarietyFan n (map points fs) fan
  pub outcome : HaveBasesOutcome n fs (maximal_rows fan) (outcome_of verdict)
