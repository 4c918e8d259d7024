-- The region of weights that rows cut out, its root, and why there is none. Laws: proofs/RootLaws.antt.
-- Source: Gordan, Ueber die Aufloesung linearer Gleichungen mit reellen Coefficienten (1873); Ziegler, Lectures on Polytopes, 1 and 2.
use Rattle.std.specs.Prelude.{◌≡◌, ◌⊎◌, ℕ, ◌+◌, ◌<◌, ◌^◌, List, [], ◌++◌, length, slice_index_or, ℤ, pos, ◌<ℤ◌, ◌≤ℤ◌, All}
use Rattle.gf_vec.specs.Vector.{zeros}
use Rattle.gf_vec.specs.Steps.{IsFirstWide}
use Rattle.gf_gordan.specs.Alternative.{AreRows, IsSolvable, IsFarkas}
use Rattle.gf_gordan.specs.Equations.{IsStepOn}
use Rattle.gf_duality_theory.specs.Rays.{IsRays}
use Rattle.gf_duality_theory.specs.Faces.{sum_of}
use Rattle.gf_rays.specs.Reached.{IsRaysStep}
use Rattle.gf_rays.specs.Sums.{adding_steps}
use Rattle.gf_facets_theory.specs.Systems.{units}
use Rattle.gf_facets_theory.specs.Regions.{Region, IsInRegion, IsRegion}
use Rattle.gf_weights.specs.declared.error.WeightError.{WeightError}
use Rattle.gf_weights.specs.declared.error.WeightError.TheVariants as weight_errors
use Rattle.gf_weights.specs.declared.region.RegionError.{RegionError}
use Rattle.gf_weights.specs.declared.region.RegionError.TheVariants as region_errors

-- ---- the root

-- the cone of the rows has no lineality space, and r is the sum of the primitive vectors along its extreme rays
pub record IsSumOfRays (n : ℕ) (all : List (List ℤ)) (r : List ℤ) : Type 0 where
  pub rays : List (List ℤ)
  pub are_rays : IsRays n all [] [] rays
  pub sum : r ≡ sum_of n rays

-- k is the region that the rows cut out. Its root is in it, and is the sum of the rays of its closure. No entry of the root is greater than
-- 2 ^ 63 - 1
pub record IsRegionOf (n : ℕ) (rows : List (List ℤ)) (k : Region) : Type 0 where
  pub same : k.rows ≡ rows
  pub region : IsRegion n k
  pub root : IsSumOfRays n (rows ++ units n n) k.root
  pub small : All (λ x. x <ℤ pos (2 ^ 63)) k.root

-- the entry of r at i is its first one that is greater than 2 ^ 63 - 1
pub record IsFirstPast (r : List ℤ) (i : ℕ) : Type 0 where
  pub inside : i < length r
  pub past : pos (2 ^ 63) ≤ℤ slice_index_or r i (pos 0)
  pub before : (j : ℕ) → j < i → slice_index_or r j (pos 0) <ℤ pos (2 ^ 63)

-- ---- why there is none

-- why the system of these rows isn't solved: a step leaves its range, or memory runs out
abbrev pub IsSystemRefusal : ℕ → List (List ℤ) → WeightError → Type 0
IsSystemRefusal n all (weight_errors.Cone s) = IsStepOn (length all + 0) n all [] s
IsSystemRefusal n all (weight_errors.Wide w) = ⊥
IsSystemRefusal n all weight_errors.Memory = Unit {0}

-- why the sum of the rays of these rows isn't computed: an operation of finding the rays leaves its range; or, from the left, the sum of an
-- entry of a partial sum and one of the next ray does, and this is the first such sum; or memory runs out
abbrev pub IsRaySumRefusal : ℕ → List (List ℤ) → WeightError → Type 0
IsRaySumRefusal n all (weight_errors.Cone s) = IsRaysStep n all [] s
IsRaySumRefusal n all (weight_errors.Wide w) = (rays : List (List ℤ)) × IsRays n all [] [] rays × IsFirstWide w (adding_steps (zeros n) rays)
IsRaySumRefusal n all weight_errors.Memory = Unit {0}

-- the refusal of a weight, as one of a region
abbrev pub region_of_weight : WeightError → RegionError
region_of_weight (weight_errors.Cone o) = region_errors.Cone o
region_of_weight (weight_errors.Wide w) = region_errors.Wide w
region_of_weight weight_errors.Memory = region_errors.Memory

-- why the rows cut out no region. Empty: these multipliers of the rows and the unit vectors show that the region is empty. WideRoot: the
-- region isn't empty, and its root has this entry, the first that is too great. Cone, Wide: an operation leaves its range
abbrev pub IsRegionRefusal : ℕ → List (List ℤ) → RegionError → Type 0
IsRegionRefusal n rows (region_errors.Empty ms) = IsFarkas n (rows ++ units n n) [] ms []
IsRegionRefusal n rows (region_errors.WideRoot i x) = IsSolvable n (rows ++ units n n) [] ×
    ((r : List ℤ) × IsSumOfRays n (rows ++ units n n) r × IsFirstPast r i × (x ≡ slice_index_or r i (pos 0)))
IsRegionRefusal n rows (region_errors.Cone s) = IsSystemRefusal n (rows ++ units n n) (weight_errors.Cone s) ⊎
    (IsSolvable n (rows ++ units n n) [] × IsRaySumRefusal n (rows ++ units n n) (weight_errors.Cone s))
IsRegionRefusal n rows (region_errors.Wide w) = IsSolvable n (rows ++ units n n) [] × IsRaySumRefusal n (rows ++ units n n) (weight_errors.Wide w)
IsRegionRefusal n rows region_errors.Memory = Unit {0}

-- the region isn't empty, no operation of finding its root leaves its range, and no entry of the root is too great
abbrev pub IsRegionWithinLimits : ℕ → List (List ℤ) → Type 0
IsRegionWithinLimits n rows = (e : RegionError) → IsRegionRefusal n rows e → e ≡ region_errors.Memory

-- ---- laws

-- rows cut out at most one region. If they do, no multipliers show that it is empty, and no entry of its root is too great. If multipliers
-- show that it is empty, no positive vector is positive on each row, and there is no root with an entry that is too great. At most one
-- entry is the first that is too great
pub record RegionsAreOne : Type 0 where
  pub one : (n : ℕ) (rows : List (List ℤ)) (k j : Region) → IsRegionOf n rows k → IsRegionOf n rows j → k ≡ j
  pub empty : (n : ℕ) (rows : List (List ℤ)) (ms r v : List ℤ) → AreRows n rows → IsRegionRefusal n rows (region_errors.Empty ms) →
      IsInRegion n (record { rows = rows; root = r }) v → ⊥
  pub not_empty : (n : ℕ) (rows : List (List ℤ)) (k : Region) (ms : List ℤ) → IsRegionOf n rows k → IsRegionRefusal n rows (region_errors.Empty ms) → ⊥
  pub not_wide : (n : ℕ) (rows : List (List ℤ)) (k : Region) (i : ℕ) (x : ℤ) → IsRegionOf n rows k → IsRegionRefusal n rows (region_errors.WideRoot i x) → ⊥
  pub apart : (n : ℕ) (rows : List (List ℤ)) (ms : List ℤ) (i : ℕ) (x : ℤ) → AreRows n rows → IsRegionRefusal n rows (region_errors.Empty ms) →
      IsRegionRefusal n rows (region_errors.WideRoot i x) → ⊥
  pub same : (n : ℕ) (rows : List (List ℤ)) (i j : ℕ) (x y : ℤ) → IsRegionRefusal n rows (region_errors.WideRoot i x) →
      IsRegionRefusal n rows (region_errors.WideRoot j y) → (i ≡ j) × (x ≡ y)
