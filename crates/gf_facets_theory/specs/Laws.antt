-- The theorems on cones of marked lists that functions of this crate name.
use Rattle.std.specs.Prelude.{◌≡◌, ◌⊎◌, ◌↔◌, ℕ, ◌<◌, List, [], length, get_or, All, ℤ, pos, ◌<ℤ◌, ◌≤ℤ◌}
use Rattle.std.specs.Ordering.{int_cmp, MatchOrdering}
use Rattle.std.specs.Cmp.Lexicographic.{slice_cmp}
use Rattle.std.specs.declared.cmp.Ordering.TheVariants.{Less}
use Rattle.gf_int_theory.specs.Content.{scaled}
use Rattle.gf_vec.specs.Vector.{dot, vector_sum, zeros}
use Rattle.gf_vec.specs.RootSign.{root_sign}
use Rattle.gf_reverse_search.specs.Path.{IsStrictOrder}
use Rattle.gf_gordan.specs.Alternative.{AreRows, IsSolvable}
use Rattle.gf_poly.specs.Marking.{MarkedPolynomial, Each, HaveVariables, HasMarkedTerm}
use Rattle.gf_ideal_theory.specs.Marks.{IsRealisable}
use Rattle.gf_facets_theory.specs.Rows.{IsNormal, negated}
use Rattle.gf_facets_theory.specs.Systems.{system_of}
use Rattle.gf_facets_theory.specs.LexPositive.{IsLexPositive, IsNegative, IsBefore}
use Rattle.gf_facets_theory.specs.LinearMaps.{IsLinear}
use Rattle.gf_facets_theory.specs.Regions.{Region, IsInRegion, all_positive}
use Rattle.gf_facets_theory.specs.Normals.{AreNormals, others_of, flip_rows}
use Rattle.gf_facets_theory.specs.Combinations.{IsRowRedundant}
use Rattle.gf_facets_theory.specs.Facets.{IsInClosedCone, IsInOpenCone, IsFacet, IsFlippable}
use Rattle.gf_facets_theory.specs.MarkedBases.{AreCanonical}

-- ---- vectors

-- a vector is zero, or lex-positive, or the negative of one that is, and not two of these; sums and positive multiples of
-- lex-positive vectors are lex-positive
pub record LexPositiveVectors : Type 0 where
  pub one_of_three : (xs : List ℤ) → (xs ≡ zeros (length xs)) ⊎ (IsLexPositive xs ⊎ IsLexPositive (negated xs))
  pub not_both : (xs : List ℤ) → IsLexPositive xs → IsLexPositive (negated xs) → ⊥
  pub not_zero : (n : ℕ) → IsLexPositive (zeros n) → ⊥
  pub sum : (xs ys : List ℤ) → IsLexPositive xs → IsLexPositive ys → IsLexPositive (vector_sum xs ys)
  pub multiple : (k : ℤ) (xs : List ℤ) → pos 0 <ℤ k → IsLexPositive (scaled k xs) ↔ IsLexPositive xs

-- the order of vectors is strict and total, and is what `lex_cmp` compares by; the root sign is Less exactly for the negative
-- vectors of the region of all positive vectors
pub record VectorsAreOrdered : Type 0 where
  pub strict : IsStrictOrder IsBefore
  pub compared : (a b : List ℤ) → MatchOrdering (slice_cmp int_cmp a b) (IsBefore a b) (a ≡ b) (IsBefore b a)
  pub sign : (n : ℕ) (a : List ℤ) → length a ≡ n → IsNegative (all_positive n).root a ↔ (root_sign a ≡ Less)

-- where a linear map takes each row to a lex-positive vector and each equation to zero, a point is positive on each row and
-- zero on each equation
abbrev pub LinearMapsGivePoints : Type 0
LinearMapsGivePoints = (n m : ℕ) (image : List ℤ → List ℤ) (rows es : List (List ℤ)) → IsLinear n m image → AreRows n rows →
    AreRows n es → All (λ t. IsLexPositive (image t)) rows → All (λ t. image t ≡ zeros m) es → IsSolvable n rows es

-- ---- cones

-- the closed cone holds the vectors on which no normal is negative, the open one those on which each is positive
pub record NormalsDefineCones : Type 0 where
  pub closed : (n : ℕ) (bs : List MarkedPolynomial) (v : List ℤ) → AreCanonical n bs →
      IsInClosedCone v bs ↔ ((a : List ℤ) → IsNormal bs a → pos 0 ≤ℤ dot a v)
  pub open_cone : (n : ℕ) (bs : List MarkedPolynomial) (v : List ℤ) → AreCanonical n bs →
      IsInOpenCone v bs ↔ ((a : List ℤ) → IsNormal bs a → pos 0 <ℤ dot a v)

-- where the open cone has a vector, the normals of the facets alone define both
pub record FacetsDefineCones : Type 0 where
  pub closed : (n : ℕ) (bs : List MarkedPolynomial) (w v : List ℤ) → AreCanonical n bs → IsInOpenCone w bs →
      IsInClosedCone v bs ↔ ((a : List ℤ) → IsFacet n bs a → pos 0 ≤ℤ dot a v)
  pub open_cone : (n : ℕ) (bs : List MarkedPolynomial) (w v : List ℤ) → AreCanonical n bs → IsInOpenCone w bs →
      length w ≡ n → length v ≡ n → IsInOpenCone v bs ↔ ((a : List ℤ) → IsFacet n bs a → pos 0 <ℤ dot a v)

-- some positive weight sets each mark above the rest exactly where the rows and the unit vectors have a point on which all
-- are positive
abbrev pub WeightsAreSolutions : Type 0
WeightsAreSolutions = (n : ℕ) (bs : List MarkedPolynomial) → HaveVariables n bs → Each HasMarkedTerm bs →
    AreRows n (system_of n bs) × (IsRealisable n bs ↔ IsSolvable n (system_of n bs) [])

-- ---- facets

-- a normal is one of a facet, or a multiple of it is a combination of the other normals, and not both
pub record FacetsAreTold : Type 0 where
  pub either : (n : ℕ) (bs : List MarkedPolynomial) (w : List ℤ) (ns : List (List ℤ)) (i : ℕ) → AreCanonical n bs →
      IsInOpenCone w bs → AreNormals bs ns → i < length ns →
      IsFacet n bs (get_or ns i []) ⊎ IsRowRedundant n (others_of i ns) (get_or ns i [])
  pub not_both : (n : ℕ) (bs : List MarkedPolynomial) (w : List ℤ) (ns : List (List ℤ)) (i : ℕ) → AreCanonical n bs →
      IsInOpenCone w bs → AreNormals bs ns → i < length ns → IsFacet n bs (get_or ns i []) →
      IsRowRedundant n (others_of i ns) (get_or ns i []) → ⊥

-- a flip may cross its facet inside the region, or a multiple of it is a combination of the other normals, the region's rows
-- and the unit vectors, and not both
pub record FlippableNormalsAreTold : Type 0 where
  pub either : (n : ℕ) (k : Region) (bs : List MarkedPolynomial) (w : List ℤ) (ns : List (List ℤ)) (i : ℕ) → AreRows n k.rows →
      AreCanonical n bs → IsInRegion n k w → IsInOpenCone w bs → AreNormals bs ns → i < length ns →
      IsFlippable n k bs (get_or ns i []) ⊎ IsRowRedundant n (flip_rows n k ns i) (get_or ns i [])
  pub not_both : (n : ℕ) (k : Region) (bs : List MarkedPolynomial) (w : List ℤ) (ns : List (List ℤ)) (i : ℕ) → AreRows n k.rows →
      AreCanonical n bs → IsInRegion n k w → IsInOpenCone w bs → AreNormals bs ns → i < length ns →
      IsFlippable n k bs (get_or ns i []) → IsRowRedundant n (flip_rows n k ns i) (get_or ns i []) → ⊥
