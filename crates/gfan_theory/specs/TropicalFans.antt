-- Tropical hypersurfaces, prevarieties and Minkowski fans of polynomials with few terms and small exponents: they are found and written within all limits.
-- Laws: proofs/TropicalLimits.antt.
use Rattle.std.specs.Prelude.{ℕ, ◌≤◌, List, All}
use Rattle.gf_poly.specs.Polynomial.{Terms, HasVariables}
use Rattle.gf_tropical.specs.Refusals.{NoneIsZero}
use Rattle.gf_tropical.specs.Limits.{HaveExponentsUpTo, terms_but, HasRoomUpTo}
use Rattle.gfan_fans.specs.declared.tropical.TropicalFan.TheVariants as fans
use Rattle.gfan_fans.specs.Tropical.{IsTropicalWithin}

-- polynomials in n variables with exponents up to b, none of them zero; there is room for the inequalities of a cone, of which each polynomial has all its
-- terms but so many
pub record AreFewTerms (n b but : ℕ) (fs : List Terms) : Type 0 where
  pub some : 1 ≤ n
  pub few : n ≤ 3
  pub low : 1 ≤ b
  pub high : b ≤ 500
  pub not_zero : NoneIsZero fs
  pub variables : All (HasVariables n) fs
  pub exponents : HaveExponentsUpTo b fs
  pub room : HasRoomUpTo n b (terms_but but fs)

-- The premises of completeness of `_tropicalhypersurface`, `_tropicalintersection` and `_minkowskisum` are met by such polynomials. In three variables those
-- are, for hypersurfaces and prevarieties, three terms with exponents up to 2, and two such polynomials with exponents up to 1; in two variables, where there
-- is room for four rows with entries up to 1, three up to 4 and two up to 50, four terms with exponents up to 50.
pub record TropicalFansFit : Type 0 where
  pub hypersurfaces : (n b : ℕ) (fs : List Terms) → AreFewTerms n b 2 fs → IsTropicalWithin fans.Hypersurface n fs
  pub intersections : (n b : ℕ) (fs : List Terms) → AreFewTerms n b 2 fs → IsTropicalWithin fans.Intersection n fs
  pub sums : (n b : ℕ) (fs : List Terms) → AreFewTerms n b 1 fs → IsTropicalWithin fans.MinkowskiSum n fs
