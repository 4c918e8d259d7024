-- Rows cut out one region at most, with one root.
-- To cite: regions_are_one, solved, unrefuted. The rest are steps.
use Rattle.std.proofs.Common.{◌≡◌, ℕ, ◌<◌, ◌^◌, List, [], ◌++◌, length, get_or, ℤ, pos, ◌<ℤ◌, arith, sym, ap, ap₂, ◌∙◌, subst, inl, inr, All}
use Rattle.std.proofs.lemmas.Int.{ints}
use Rattle.std.proofs.lemmas.Bool.{cases_lt}
use Rattle.std.proofs.lemmas.List.Elements.{All-nil}
use Rattle.gf_gordan.specs.Alternative.{AreRows, IsSolvable, IsFarkas}
use Rattle.gf_gordan.proofs.ExistenceLaws.{alternative}
use Rattle.gf_duality_theory.specs.Faces.{sum_of}
use Rattle.gf_duality_theory.proofs.Determined.{rays_determined}
use Rattle.gf_facets_theory.specs.Systems.{units}
use Rattle.gf_facets_theory.specs.Regions.{Region, IsInRegion}
use Rattle.gf_facets_theory.proofs.SystemLaws.{region_rows_wide, rows_of_region}
use Rattle.gf_weights.specs.declared.region.RegionError.TheVariants as region_errors
use Rattle.gf_weights.specs.Roots.{IsSumOfRays, IsRegionOf, IsFirstPast, IsRegionRefusal, RegionsAreOne}

-- there is one sum of rays
one_root : (n : ℕ) (all : List (List ℤ)) (r s : List ℤ) → IsSumOfRays n all r → IsSumOfRays n all s → r ≡ s
one_root n all r s p q =
    let one : p.rays ≡ q.rays = (rays_determined n (record { inequalities = all; equations = [] }) (record { inequalities = all; equations = [] }) [] p.rays
    [] q.rays (λ v w. (λ i. i, λ i. i)) p.are_rays q.are_rays).1 in
    p.sum ∙ ap (sum_of n) one ∙ sym q.sum

one_region : (n : ℕ) (rows : List (List ℤ)) (k j : Region) → IsRegionOf n rows k → IsRegionOf n rows j → k ≡ j
one_region n rows k j p q =
    ap₂ (λ (rs : List (List ℤ)) (r : List ℤ). record { rows = rs; root = r }) (p.same ∙ sym q.same) (one_root n (rows ++ units n n) k.root j.root p.root q.root)

-- a vector of the region solves its system
pub solved : (n : ℕ) (rows : List (List ℤ)) (r v : List ℤ) → IsInRegion n (record { rows = rows; root = r }) v → IsSolvable n (rows ++ units n n) []
solved n rows r v h = (v, record { width = h.width; positive = rows_of_region n (record { rows = rows; root = r }) v h; zero = All-nil _ })

-- so there are no multipliers
pub unrefuted : (n : ℕ) (rows : List (List ℤ)) (ms : List ℤ) → AreRows n rows → IsSolvable n (rows ++ units n n) [] → IsFarkas n (rows ++ units n n) [] ms [] →
    ⊥
unrefuted n rows ms w s f = alternative.not_both n (rows ++ units n n) [] (region_rows_wide n (record { rows = rows; root = [] }) w) (All-nil _) s (ms, [], f)

not_empty : (n : ℕ) (rows : List (List ℤ)) (k : Region) (ms : List ℤ) → IsRegionOf n rows k → IsFarkas n (rows ++ units n n) [] ms [] → ⊥
not_empty n rows k ms p f =
    unrefuted n rows ms (subst (AreRows n) p.same p.region.widths)
    (solved n rows k.root k.root (subst (λ (rs : List (List ℤ)). IsInRegion n (record { rows = rs; root = k.root }) k.root) p.same p.region.root)) f

-- the entry that is too great is an entry
at_index : (r : List ℤ) (i : ℕ) → All (λ x. x <ℤ pos (2 ^ 63)) r → i < length r → get_or r i (pos 0) <ℤ pos (2 ^ 63)
at_index r i a l = a i (pos 0) l

not_wide : (n : ℕ) (rows : List (List ℤ)) (k : Region) (i : ℕ) (x : ℤ) → IsRegionOf n rows k → IsRegionRefusal n rows (region_errors.WideRoot i x) → ⊥
not_wide n rows k i x p w =
    let one : w.1.0 ≡ k.root = one_root n (rows ++ units n n) w.1.0 k.root w.1.1 p.root in
    let f : IsFirstPast k.root i = subst (λ (r : List ℤ). IsFirstPast r i) one w.1.2 in
    let low = at_index k.root i p.small f.inside in
    let high = f.past in
    absurd (omega (arith, ints, low, high))

-- one is the first
same_index : (r : List ℤ) (i j : ℕ) → IsFirstPast r i → IsFirstPast r j → i ≡ j
same_index r i j p q = elim (cases_lt i j) [
  | inl l ↦ let low = q.before i l in let high = p.past in absurd (omega (arith, ints, low, high))
  | inr m ↦ elim (cases_lt j i) [
    | inl l ↦ let low = p.before j l in let high = q.past in absurd (omega (arith, ints, low, high))
    | inr l ↦ omega (arith, m, l)
  ]
]

same_wide : (n : ℕ) (rows : List (List ℤ)) (i j : ℕ) (x y : ℤ) → IsRegionRefusal n rows (region_errors.WideRoot i x) →
    IsRegionRefusal n rows (region_errors.WideRoot j y) → (i ≡ j) × (x ≡ y)
same_wide n rows i j x y p q =
    let one : p.1.0 ≡ q.1.0 = one_root n (rows ++ units n n) p.1.0 q.1.0 p.1.1 q.1.1 in
    let index : i ≡ j = same_index q.1.0 i j (subst (λ (r : List ℤ). IsFirstPast r i) one p.1.2) q.1.2 in
    (index, p.1.3 ∙ ap₂ (λ (r : List ℤ) (k : ℕ). get_or r k (pos 0)) one index ∙ sym q.1.3)

pub regions_are_one : RegionsAreOne
regions_are_one = record {
  one = one_region;
  empty = λ n rows ms r v w f h. unrefuted n rows ms w (solved n rows r v h) f;
  not_empty = not_empty;
  not_wide = not_wide;
  apart = λ n rows ms i x w f h. unrefuted n rows ms w h.0 f;
  same = same_wide;
}
