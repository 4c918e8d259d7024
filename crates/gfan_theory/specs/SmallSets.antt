-- Polynomials with small exponents in few variables, whose homogeneity space is found within all limits.
-- Laws: proofs/SpaceLimits.antt.
use Rattle.std.specs.Prelude.{ℕ, ◌≤◌, ◌≡◌, List, length, All, Contains, Option, ℤ}
use Rattle.gf_poly.specs.declared.Term.{Term}
use Rattle.gf_poly.specs.Polynomial.{HasVariables}
use Rattle.gf_poly.specs.Marking.{MarkedPolynomial, MarkedPolynomials}
use Rattle.gf_small.specs.Statistics.{members_of}
use Rattle.gf_text.specs.declared.written.Written.{Written}
use Rattle.gfan_sets.specs.Stats.{stats_command}
use Rattle.gfan_fans.specs.HomogeneitySpace.{nonzero_of, homogeneity_space_command}

-- the marked monomial and the terms of the polynomial have n exponents, none greater than b
pub record IsSmall (n b : ℕ) (f : MarkedPolynomial) : Type 0 where
  pub mark_width : length f.head ≡ n
  pub mark : All (λ e. e ≤ b) f.head
  pub width : HasVariables n f.poly
  pub terms : (t : Term) → Contains f.poly t → All (λ e. e ≤ b) t.mono

-- so for each of these polynomials
abbrev pub AreSmall : ℕ → ℕ → List MarkedPolynomial → Type 0
AreSmall n b fs = (f : MarkedPolynomial) → Contains fs f → IsSmall n b f

-- the premise of completeness of `_stats` is met in at most three variables with exponents up to 3
abbrev pub StatisticsOfSmallSetsFit : Type 0
StatisticsOfSmallSetsFit = (ring : List (List ℕ)) (sets : List MarkedPolynomials) → 1 ≤ length ring → length ring ≤ 3 →
    AreSmall (length ring) 3 (members_of sets) → stats_command.IsWithin (ring, sets)

-- so is that of `_homogeneityspace`
abbrev pub SpacesOfSmallSetsFit : Type 0
SpacesOfSmallSetsFit = (ring : List (List ℕ)) (set : List Written) (vector : Option (List ℤ)) → 1 ≤ length ring → length ring ≤ 3 →
    AreSmall (length ring) 3 (nonzero_of set) → homogeneity_space_command.IsWithin (ring, (set, vector))
