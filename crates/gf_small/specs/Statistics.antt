-- Statistics of a list of marked sets.
use Rattle.std.specs.Prelude.{◌≡◌, ℕ, All, List, [], map, flat_map, length}
use Rattle.gf_poly.specs.Marking.{MarkedPolynomial, MarkedPolynomials}
use Rattle.gf_gordan.specs.declared.error.GordanError.{GordanError}
use Rattle.gf_rays.specs.Cones.{AreRaysWithinLimits}
use Rattle.gf_facets_theory.specs.Rows.{rows_of_polynomials}
use Rattle.gf_small.specs.declared.counts.Stats.{Stats}
use Rattle.gf_small.specs.Degrees.{greatest}
use Rattle.gf_small.specs.Counts.{least, degree_of_set, count_of_terms}
use Rattle.gf_small.specs.HomogeneitySpace.{HasSpaceDimension, IsSpaceCause}

-- all polynomials of these sets, one set after another
abbrev pub members_of : List MarkedPolynomials → List MarkedPolynomial
members_of sets = flat_map (λ s. s.items) sets

-- the statistics of these sets in n variables
pub record AreStatistics (n : ℕ) (sets : List MarkedPolynomials) (s : Stats) : Type 0 where
  pub bases : s.bases ≡ length sets
  pub variables : s.variables ≡ n
  pub homogeneity : HasSpaceDimension n (members_of sets) s.homogeneity
  pub max_degree : s.max_degree ≡ greatest (map degree_of_set sets)
  pub min_degree : s.min_degree ≡ least (map degree_of_set sets)
  pub max_polynomials : s.max_polynomials ≡ greatest (map (λ t. length t.items) sets)
  pub max_terms : s.max_terms ≡ greatest (map (λ t. count_of_terms t.items) sets)

-- each set has n variables
abbrev pub AreSetsIn : ℕ → List MarkedPolynomials → Type 0
AreSetsIn n sets = All (λ s. s.variables ≡ n) sets

-- why there are no statistics: the homogeneity space of all polynomials isn't found
abbrev pub IsStatisticsCause : ℕ → List MarkedPolynomials → GordanError → Type 0
IsStatisticsCause n sets = IsSpaceCause n (members_of sets)

-- no operation of finding the homogeneity space leaves its range
abbrev pub AreStatisticsWithinLimits : ℕ → List MarkedPolynomials → Type 0
AreStatisticsWithinLimits n sets = AreRaysWithinLimits n [] (rows_of_polynomials (members_of sets))
