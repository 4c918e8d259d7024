-- Cones with few small rows: their descriptions stay within all limits.
-- Laws: proofs/RayLines.antt, proofs/SmallRays.antt, proofs/FewVectors.antt, proofs/SmallFans.antt, proofs/ConeRowLaws.antt, proofs/ToldLimits.antt,
-- proofs/LinearCones.antt.
use Rattle.std.specs.Prelude.{◌≡◌, ◌⊎◌, ℕ, ◌+◌, ◌≤◌, true, false, List, [], length, ℤ, pos, ◌<ℤ◌, Contains}
use Rattle.gf_vec.specs.Vector.{dot}
use Rattle.gf_gordan.specs.Alternative.{AreRows}
use Rattle.gf_gordan.specs.Sizes.{HaveEntriesUpTo}
use Rattle.gf_rays.specs.Limits.{has_room}
use Rattle.gf_poly.specs.Marking.{MarkedPolynomials}
use Rattle.gf_reduced.specs.Markings.{IsMarkedGroebnerBasis}
use Rattle.gf_reduced.specs.Terms.{AreReduced}
use Rattle.gf_front.specs.declared.options.GroebnerConeOptions.{GroebnerConeOptions}
use Rattle.gfan_fans.specs.ToPolyhedralFan.{inequalities_of}
use Rattle.gfan_fans.specs.ToldCones.{IsTellingWithin}
use Rattle.gfan_fans.specs.GroebnerCone.{IsBasisConeWithin}
use Rattle.gfan_theory.specs.Linear.{IsLinearSet}

-- by the bounds of double description there is room for up to so many inequalities with n entries up to b
abbrev pub HasRoomUpTo : ℕ → ℕ → ℕ → Type 0
HasRoomUpTo n b count = (k : ℕ) → k ≤ count → has_room n b k ≡ true

-- how many inequalities such rows come to: each inequality, the unit vectors if the cone is restricted to the non-negative orthant, and two for each equation
abbrev pub row_count : GroebnerConeOptions → ℕ → List (List ℤ) → List (List ℤ) → ℕ
row_count o n hs es = length (inequalities_of o.restricted n hs) + (length es + length es)

-- inequalities and equations with n entries up to b, for all of which there is room
pub record AreFewRows (o : GroebnerConeOptions) (n b : ℕ) (hs es : List (List ℤ)) : Type 0 where
  pub some : 1 ≤ n
  pub few : n ≤ 3
  pub low : 1 ≤ b
  pub high : b ≤ 500
  pub inequalities_width : AreRows n hs
  pub equations_width : AreRows n es
  pub inequalities : HaveEntriesUpTo b hs
  pub equations : HaveEntriesUpTo b es
  pub room : HasRoomUpTo n b (row_count o n hs es)

-- The cone of such rows is described in sections without certificates, and as a fan, also in the non-negative orthant; and of one equation alone, or of
-- inequalities that some vector makes positive, in sections with certificates. So the premise of completeness of `_groebnercone --vectorinput` is met.
pub record ConesOfFewRowsFit : Type 0 where
  pub sections : (o : GroebnerConeOptions) (n b : ℕ) (hs es : List (List ℤ)) → o.as_fan ≡ false → o.certificates ≡ false → AreFewRows o n b hs es →
      IsTellingWithin o n hs es
  pub fans : (o : GroebnerConeOptions) (n b : ℕ) (hs es : List (List ℤ)) → o.as_fan ≡ true → AreFewRows o n b hs es → IsTellingWithin o n hs es
  pub flat : (o : GroebnerConeOptions) (n b : ℕ) (es : List (List ℤ)) → o.as_fan ≡ false → o.restricted ≡ false → length es ≤ 1 → AreFewRows o n b [] es →
      IsTellingWithin o n [] es
  pub certified : (o : GroebnerConeOptions) (n b : ℕ) (hs : List (List ℤ)) (w : List ℤ) → o.as_fan ≡ false → AreFewRows o n b hs [] → length w ≡ n →
      ((t : List ℤ) → Contains (inequalities_of o.restricted n hs) t → pos 0 <ℤ dot t w) → IsTellingWithin o n hs []

-- there is room for four rows in two variables with entries up to 1, three up to 4, two up to 50; in three variables for two rows with entries up to 1
pub record FewRowsHaveRoom : Type 0 where
  pub four : HasRoomUpTo 2 1 4
  pub three : HasRoomUpTo 2 4 3
  pub two : HasRoomUpTo 2 50 2
  pub space : HasRoomUpTo 3 1 2

-- The cone of a reduced basis of variables and differences of variables, in at most three variables, is described in sections, also with certificates and in
-- the non-negative orthant; and as a fan, in the non-negative orthant if there are at most two variables. So the premise of completeness of `_groebnercone`
-- is met.
pub record ConesOfLinearSetsFit : Type 0 where
  pub sections : (o : GroebnerConeOptions) (s : MarkedPolynomials) → o.as_fan ≡ false → IsLinearSet s → 1 ≤ s.variables → s.variables ≤ 3 →
      IsMarkedGroebnerBasis s.variables s.items → AreReduced s.items → IsBasisConeWithin o s
  pub fans : (o : GroebnerConeOptions) (s : MarkedPolynomials) → o.as_fan ≡ true → (o.restricted ≡ false) ⊎ (s.variables ≤ 2) → IsLinearSet s →
      1 ≤ s.variables → s.variables ≤ 3 → IsMarkedGroebnerBasis s.variables s.items → AreReduced s.items → IsBasisConeWithin o s
