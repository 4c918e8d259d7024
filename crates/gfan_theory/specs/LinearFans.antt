-- Fans of the closed cones of bases of variables and differences of variables: they are found and written within all limits.
-- Laws: proofs/LinearFans.antt.
use Rattle.std.specs.Prelude.{◌≡◌, ◌⊎◌, ℕ, ◌≤◌, Bool, false, List, [], ◌∷◌, length, Contains}
use Rattle.std.specs.List.{AllZip}
use Rattle.gf_poly.specs.Marking.{MarkedPolynomials}
use Rattle.gf_reduced.specs.Markings.{IsMarkedGroebnerBasis}
use Rattle.gf_reduced.specs.Terms.{AreReduced}
use Rattle.gf_rays.specs.Cones.{RowsAndRays}
use Rattle.gf_fan.specs.Pairs.{AreMeeting}
use Rattle.gfan_fans.specs.ToPolyhedralFan.{IsConeOfSet, AreSetsWithin}
use Rattle.gfan_theory.specs.Linear.{IsLinearSet}

-- a reduced basis of variables and differences of variables in n variables, for its marking
pub record IsReducedLinearBasis (n : ℕ) (s : MarkedPolynomials) : Type 0 where
  pub linear : IsLinearSet s
  pub variables : s.variables ≡ n
  pub basis : IsMarkedGroebnerBasis s.variables s.items
  pub reduced : AreReduced s.items

-- The premise of completeness of `_topolyhedralfan` is met by a single such basis, in at most three variables, or two if its cone is restricted to the
-- non-negative orthant; and without that, by a list of them whose cones meet in faces of both, as those of one ideal do: of any bases in two variables, and of
-- bases of one member in three.
pub record FansOfLinearSetsFit : Type 0 where
  pub one : (cut : Bool) (n : ℕ) (s : MarkedPolynomials) → 1 ≤ n → n ≤ 3 → (cut ≡ false) ⊎ (n ≤ 2) → IsReducedLinearBasis n s → AreSetsWithin cut n (s ∷ [])
  pub several : (n : ℕ) (sets : List MarkedPolynomials) → 1 ≤ n → n ≤ 3 → (n ≤ 2) ⊎ ((s : MarkedPolynomials) → Contains sets s → length s.items ≤ 1) →
      ((s : MarkedPolynomials) → Contains sets s → IsReducedLinearBasis n s) →
      ((cones : List RowsAndRays) → AllZip (IsConeOfSet false) sets cones → AreMeeting n cones) → AreSetsWithin false n sets
