-- Regions and certificates of at most three rows that are differences of two entries, in at most four variables, stay within their limits.
-- To cite: rows_small, regions_of_differences_fit, certificates_of_differences_fit, weight_up. The rest are steps.
use Rattle.std.proofs.Common.{
  ◌≡◌,
  ◌⊎◌,
  ℕ,
  zero,
  suc,
  ◌+◌,
  ◌<◌,
  ◌≤◌,
  ◌^◌,
  List,
  [],
  ◌∷◌,
  ◌++◌,
  length,
  get_or,
  append_assoc,
  length-append,
  ℤ,
  pos,
  ◌-ℤ◌,
  ◌≤ℤ◌,
  unsigned_abs,
  arith,
  refl,
  sym,
  ap,
  ◌∙◌,
  subst,
  inl,
  inr,
  All,
  Contains,
}
use Rattle.std.specs.Prelude.{not}
use Rattle.std.specs.Ordering.{int_eq}
use Rattle.std.proofs.lemmas.Int.{ints}
use Rattle.std.proofs.lemmas.List.{get_or_default}
use Rattle.std.proofs.lemmas.List.Elements.{All-nil, All-contains, Contains-append_right, Contains-append_cases}
use Rattle.std.proofs.lemmas.List.Filters.{length-filter_both}
use Rattle.gf_int_theory.proofs.ListLaws.{all_by}
use Rattle.gf_vec.specs.Vector.{dot, zeros}
use Rattle.gf_vec.specs.Steps.{IsFirstWide}
use Rattle.gf_vec.specs.declared.error.WideVector.{WideVector}
use Rattle.gf_vec.proofs.VectorLaws.{dot_comm}
use Rattle.gf_vec.proofs.EntryLaws.{all_zero}
use Rattle.gf_poly.specs.Marking.{MarkedPolynomial}
use Rattle.gf_gordan.specs.Alternative.{AreRows}
use Rattle.gf_gordan.specs.Sizes.{HaveEntriesUpTo}
use Rattle.gf_gordan.specs.declared.error.ConeOverflow.{ConeOverflow}
use Rattle.gf_gordan.proofs.SizeLaws.{UpTo, up_zeros}
use Rattle.gf_duality_theory.specs.Rays.{IsRays}
use Rattle.gf_duality_theory.specs.Faces.{sum_of}
use Rattle.gf_rays.specs.Reached.{IsRaysStep}
use Rattle.gf_rays.specs.Sums.{adding_steps}
use Rattle.gf_rays.specs.Parts.{zeros_of}
use Rattle.gf_rays.specs.Limits.{IsPointed}
use Rattle.gf_rays.proofs.PartLaws.{zeros_part}
use Rattle.gf_rays.proofs.ReachedSizes.{entry_up}
use Rattle.gf_facets_theory.specs.Systems.{unit, units}
use Rattle.gf_facets_theory.specs.Regions.{Region}
use Rattle.gf_facets_theory.specs.Normals.{AreNormals}
use Rattle.gf_facets_theory.proofs.UnitLaws.{length-unit, dot-unit, unit_of, unit_there}
use Rattle.gf_weights.specs.Weights.{AreCutRows, IsWeightIn}
use Rattle.gf_weights.specs.Roots.{IsRegionRefusal}
use Rattle.gf_weights.specs.Refusals.{IsCertificateCauseIn}
use Rattle.gf_weights.specs.declared.error.WeightError.{WeightError}
use Rattle.gf_weights.specs.declared.error.WeightError.TheVariants as weight_errors
use Rattle.gf_weights.specs.declared.region.RegionError.{RegionError}
use Rattle.gf_weights.specs.declared.region.RegionError.TheVariants as region_errors
use Rattle.gf_weights.proofs.RegionLaws.{solved, unrefuted}
use Rattle.gfan_theory.specs.Differences.{IsDifferenceRow, AreDifferenceRows, RegionsOfDifferencesFit, CertificatesOfDifferencesFit}
use Rattle.gfan_theory.proofs.FourColumns.{no_system_step}
use Rattle.gfan_theory.proofs.RowSteps.{sizes_of, no_rays_step}
use Rattle.gfan_theory.proofs.BinaryRays.{IsOrderRow, HaveUnits, doubled, AreBits, rays_bits, few_rays, bits_up, no_wide_sums, sum_up_of}

-- ---- unit vectors

unit_entry : (n i j : ℕ) → (get_or (unit n i) j (pos 0) ≡ pos 0) ⊎ (get_or (unit n i) j (pos 0) ≡ pos 1)
unit_entry zero i j = inl refl
unit_entry (suc n) zero zero = inr refl
unit_entry (suc n) zero (suc j) = inl (let p = (up_zeros 0 n).at j in omega (arith, ints, p))
unit_entry (suc n) (suc i) zero = inl refl
unit_entry (suc n) (suc i) (suc j) = unit_entry n i j

difference_small : (a b : ℤ) → (a ≡ pos 0) ⊎ (a ≡ pos 1) → (b ≡ pos 0) ⊎ (b ≡ pos 1) → unsigned_abs (a -ℤ b) ≤ 1
difference_small a b (inl p) (inl q) = omega (arith, ints, p, q)
difference_small a b (inl p) (inr q) = omega (arith, ints, p, q)
difference_small a b (inr p) (inl q) = omega (arith, ints, p, q)
difference_small a b (inr p) (inr q) = omega (arith, ints, p, q)

one_small : (a : ℤ) → (a ≡ pos 0) ⊎ (a ≡ pos 1) → unsigned_abs a ≤ 1
one_small a (inl p) = omega (arith, ints, p)
one_small a (inr p) = omega (arith, ints, p)

-- the entries of such a row
row_small : (n : ℕ) (row : List ℤ) → IsDifferenceRow n row → (i : ℕ) → i < n → unsigned_abs (get_or row i (pos 0)) ≤ 1
row_small n row d i l =
    subst (λ (z : ℤ). unsigned_abs z ≤ 1) (sym (d.difference (unit n i) (length-unit n i)) ∙ dot_comm row (unit n i) ∙ dot-unit n i row l d.width)
    (difference_small (get_or (unit n i) d.high (pos 0)) (get_or (unit n i) d.low (pos 0)) (unit_entry n i d.high) (unit_entry n i d.low))

pub rows_small : (n : ℕ) (rows : List (List ℤ)) (b : ℕ) → 1 ≤ b → AreDifferenceRows n rows → HaveEntriesUpTo b rows
rows_small n rows b h differ = all_by (All (λ x. unsigned_abs x ≤ b)) rows (λ t c i d l.
    let p : unsigned_abs (get_or t i (pos 0)) ≤ b =
    (let q = row_small n t (differ t c) i (let w = (differ t c).width in omega (arith, l, w)) in omega (arith, q, h)) in
    subst (λ (z : ℤ). unsigned_abs z ≤ b) (get_or_default t i (pos 0) d l) p)

-- ---- bounds

few_doubled : (n : ℕ) → n ≤ 4 → doubled n ≤ 16
few_doubled zero l = omega arith
few_doubled (suc zero) l = omega arith
few_doubled (suc (suc zero)) l = omega arith
few_doubled (suc (suc (suc zero))) l = omega arith
few_doubled (suc (suc (suc (suc zero)))) l = omega arith
few_doubled (suc (suc (suc (suc (suc n))))) l = absurd (omega arith)

length_units : (n k : ℕ) → length (units n k) ≡ k
length_units n zero = refl
length_units n (suc k) = length-append (units n k) (unit n k ∷ []) ∙ (let p = length_units n k in omega (arith, p))

-- ---- the rows, with the unit vectors

module _ (n : ℕ) (rows : List (List ℤ)) (some : 1 ≤ n) (small : n ≤ 4) (few : length rows ≤ 3) (differ : AreDifferenceRows n rows) where
  order : (t : List ℤ) → Contains (rows ++ units n n) t → IsOrderRow n t
  order t k = elim (Contains-append_cases rows (units n n) t k) [
    | inl i ↦ IsOrderRow.difference (differ t i)
    | inr i ↦ let u = unit_of n n t i in IsOrderRow.entry u.0 u.1 (λ v l. ap (λ (z : List ℤ). dot z v) u.2 ∙ dot-unit n u.0 v u.1 l)
  ]

  low : HaveUnits n (rows ++ units n n)
  low i v l w up = subst (λ (z : ℤ). pos 0 ≤ℤ z) (dot-unit n i v l w) (up (unit n i) (Contains-append_right rows (units n n) (unit n i) (unit_there n n i l)))

  wide : (t : List ℤ) → Contains (rows ++ units n n) t → length t ≡ n
  wide t k = elim (Contains-append_cases rows (units n n) t k) [
    | inl i ↦ (differ t i).width
    | inr i ↦ let u = unit_of n n t i in ap (λ (z : List ℤ). length z) u.2 ∙ length-unit n u.0
  ]

  entry_small : (t : List ℤ) → Contains (rows ++ units n n) t → (i : ℕ) → i < n → unsigned_abs (get_or t i (pos 0)) ≤ 1
  entry_small t k i l = elim (Contains-append_cases rows (units n n) t k) [
    | inl m ↦ row_small n t (differ t m) i l
    | inr m ↦ let u = unit_of n n t m in subst (λ (z : List ℤ). unsigned_abs (get_or z i (pos 0)) ≤ 1) (sym u.2)
        (one_small (get_or (unit n u.0) i (pos 0)) (unit_entry n u.0 i))
  ]

  all_wide : AreRows n (rows ++ units n n)
  all_wide = all_by (λ t. length t ≡ n) (rows ++ units n n) wide

  all_small : (b : ℕ) → 1 ≤ b → HaveEntriesUpTo b (rows ++ units n n)
  all_small b h = all_by (All (λ x. unsigned_abs x ≤ b)) (rows ++ units n n) (λ t k i d l.
      let w = wide t k in
      let p : unsigned_abs (get_or t i (pos 0)) ≤ b = (let q = entry_small t k i (omega (arith, l, w)) in omega (arith, q, h)) in
      subst (λ (z : ℤ). unsigned_abs z ≤ b) (get_or_default t i (pos 0) d l) p)

  pointed : IsPointed n (rows ++ units n n)
  pointed x l flat = all_zero n x l (λ i k. sym (dot-unit n i x k l) ∙ flat (unit n i) (Contains-append_right rows (units n n) (unit n i) (unit_there n n i k)))

  no_step : (s : ConeOverflow) → IsRaysStep n (rows ++ units n n) [] s → ⊥
  no_step s k =
      let long : length (rows ++ units n n) ≤ 7 = (let p = length-append rows (units n n) in let q = length_units n n in omega (arith, p, q, few, small)) in
      no_rays_step n (rows ++ units n n) s small long (record {
        long = wide;
        small = record { each = λ t c. entry_up 1 t (All-contains (All (λ x. unsigned_abs x ≤ 1)) (rows ++ units n n) t (all_small 1 (omega arith)) c) };
        sizes = sizes_of n rows few differ;
      }) pointed k

  module _ (rays : List (List ℤ)) (h : IsRays n (rows ++ units n n) [] [] rays) where
    bits : (x : List ℤ) → Contains rays x → AreBits x
    bits = rays_bits n (rows ++ units n n) rays h order low

    up : (x : List ℤ) → Contains rays x → UpTo 1 x
    up x c = bits_up x (bits x c)

    sixteen : length rays ≤ 16
    sixteen = let p = few_rays n rays bits (λ x c. All-contains (λ t. length t ≡ n) rays x h.rays_width c) h.ascending in let q = few_doubled n small in
        omega (arith, p, q)

    no_sum : (w : WideVector) → IsFirstWide w (adding_steps (zeros n) rays) → ⊥
    no_sum w f = no_wide_sums 1 0 (zeros n) rays w (up_zeros 0 n) up (let p = sixteen in omega (arith, p)) f

    no_part : (a : List ℤ) (w : WideVector) → IsFirstWide w (adding_steps (zeros n) (zeros_of a rays)) → ⊥
    no_part a w f =
        let p : length (zeros_of a rays) ≤ length rays =
        (let q = length-filter_both (λ (r : List ℤ). int_eq (dot a r) (pos 0)) (λ (r : List ℤ). not (int_eq (dot a r) (pos 0))) (λ r. refl) rays in
        omega (arith, q)) in
        no_wide_sums 1 0 (zeros n) (zeros_of a rays) w (up_zeros 0 n) (λ x c. up x ((zeros_part a rays).each x c).0) (let q = sixteen in omega (arith, p, q)) f

    pub low_root : (i : ℕ) → unsigned_abs (get_or (sum_of n rays) i (pos 0)) ≤ 16
    low_root i = let p = (sum_up_of n rays up).at i in let q = sixteen in omega (arith, p, q)

-- ---- regions

not_past : (x : ℤ) → unsigned_abs x ≤ 16 → pos (2 ^ 63) ≤ℤ x → ⊥
not_past x l h = omega (arith, ints, l, h)

pub regions_of_differences_fit : RegionsOfDifferencesFit
regions_of_differences_fit n rows v some small few differ inside = at
  where
    widths : AreRows n rows
    widths = all_by (λ t. length t ≡ n) rows (λ t c. (differ t c).width)

    at : (e : RegionError) → IsRegionRefusal n rows e → e ≡ region_errors.Memory
    at (region_errors.Empty ms) h = absurd (unrefuted n rows ms widths (solved n rows v v inside) h)
    at (region_errors.WideRoot i x) h =
        let r = h.1 in
        absurd (not_past (get_or r.0 i (pos 0)) (subst (λ (z : List ℤ). unsigned_abs (get_or z i (pos 0)) ≤ 16) (sym r.1.sum)
        (low_root n rows some small few differ r.1.rays r.1.are_rays i)) r.2.past)
    at (region_errors.Cone s) (inl h) =
        absurd (no_system_step (length (rows ++ units n n) + 0) n (rows ++ units n n) [] s small (all_wide n rows some small few differ) (All-nil _)
        (all_small n rows some small few differ 10 (omega arith)) (All-nil _) h)
    at (region_errors.Cone s) (inr h) = absurd (no_step n rows some small few differ s h.1)
    at (region_errors.Wide w) h = absurd (no_sum n rows some small few differ h.1.0 h.1.1 w h.1.2)
    at region_errors.Memory h = refl

-- ---- certificates

module _ (n : ℕ) (k : Region) (bs : List MarkedPolynomial) (some : 1 ≤ n) (small : n ≤ 4) (beside : AreDifferenceRows n k.rows)
    (of_normals : (normals : List (List ℤ)) → AreNormals bs normals → (length normals + length k.rows ≤ 3) × AreDifferenceRows n normals) where
  both : (normals : List (List ℤ)) → AreNormals bs normals → AreDifferenceRows n (normals ++ k.rows)
  both normals a t c = elim (Contains-append_cases normals k.rows t c) [ inl i ↦ (of_normals normals a).1 t i | inr i ↦ beside t i ]

  short : (normals : List (List ℤ)) → AreNormals bs normals → length (normals ++ k.rows) ≤ 3
  short normals a = let p = length-append normals k.rows in let q = (of_normals normals a).0 in omega (arith, p, q)

  flat : (rows : List (List ℤ)) (c : AreCutRows n k bs rows) → rows ≡ (c.normals ++ k.rows) ++ units n n
  flat rows c = c.all ∙ sym (append_assoc c.normals k.rows (units n n))

  certificates_at : (e : WeightError) → IsCertificateCauseIn n k bs e → e ≡ weight_errors.Memory
  certificates_at (weight_errors.Cone s) h =
      absurd (no_step n (h.1.normals ++ k.rows) some small (short h.1.normals h.1.are_normals) (both h.1.normals h.1.are_normals) s
      (subst (λ (z : List (List ℤ)). IsRaysStep n z [] s) (flat h.0 h.1) h.2))
  certificates_at (weight_errors.Wide w) (inl h) =
      let c = h.1.are_rows in
      absurd (no_sum n (c.normals ++ k.rows) some small (short c.normals c.are_normals) (both c.normals c.are_normals) h.0
      (subst (λ (z : List (List ℤ)). IsRays n z [] [] h.0) (flat h.1.rows c) h.1.are_rays) w h.2)
  certificates_at (weight_errors.Wide w) (inr h) =
      let g = h.2 in
      let c = g.1.are_rows in
      absurd (no_part n (c.normals ++ k.rows) some small (short c.normals c.are_normals) (both c.normals c.are_normals) g.0
      (subst (λ (z : List (List ℤ)). IsRays n z [] [] g.0) (flat g.1.rows c) g.1.are_rays) h.0 w g.2)
  certificates_at weight_errors.Memory h = refl

  -- the printed weight is small
  pub weight_up : (w : List ℤ) → IsWeightIn n k bs w → UpTo 16 w
  weight_up w h = record {
    at = λ i.
        let c = h.cut.are_rows in
        subst (λ (z : List ℤ). unsigned_abs (get_or z i (pos 0)) ≤ 16) (sym h.sum)
        (low_root n (c.normals ++ k.rows) some small (short c.normals c.are_normals) (both c.normals c.are_normals) h.rays
        (subst (λ (z : List (List ℤ)). IsRays n z [] [] h.rays) (flat h.cut.rows c) h.cut.are_rays) i);
  }

pub certificates_of_differences_fit : CertificatesOfDifferencesFit
certificates_of_differences_fit n k bs some small beside of_normals = certificates_at n k bs some small beside of_normals
