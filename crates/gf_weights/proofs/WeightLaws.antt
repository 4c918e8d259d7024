-- Printed weights give the marks, and printed witnesses lie inside their facets.
-- To cite: weight_marks, weight_basis_in, weight_basis, witness_inside.
use Rattle.std.proofs.Common.{◌≡◌, ◌⊎◌, ℕ, List, [], ◌++◌, length, ℤ, pos, ◌<ℤ◌, arith, sym, ap, ◌∙◌, subst, Contains, All, inl, inr}
use Rattle.std.proofs.lemmas.Int.{ints}
use Rattle.std.proofs.lemmas.List.Elements.{All-contains, Contains-append_left, Contains-append_right, Contains-append_cases}
use Rattle.gf_frac.specs.Fraction.{one_ℚ}
use Rattle.gf_exponents_theory.specs.Orders.{gains}
use Rattle.gf_int_theory.proofs.ListLaws.{all_by}
use Rattle.gf_vec.specs.Vector.{dot}
use Rattle.gf_poly.specs.Polynomial.{Terms, coefficient}
use Rattle.gf_poly.specs.Marking.{MarkedPolynomial}
use Rattle.gf_ideal_theory.specs.Membership.{AreInVariables}
use Rattle.gf_ideal_theory.specs.Bases.{IsReducedBasis}
use Rattle.gf_duality_theory.specs.Faces.{IsWitness}
use Rattle.gf_duality_theory.proofs.RaySums.{sum_long}
use Rattle.gf_duality_theory.proofs.Determined.{described_of}
use Rattle.gf_duality_theory.proofs.Sums.{sum_positive, sum_witness}
use Rattle.gf_rays.specs.Parts.{zeros_of}
use Rattle.gf_rays.proofs.PartLaws.{zeros_part}
use Rattle.gf_facets_theory.specs.Rows.{IsNormal}
use Rattle.gf_facets_theory.specs.Systems.{units}
use Rattle.gf_facets_theory.specs.Regions.{Region, IsInRegion, all_positive}
use Rattle.gf_facets_theory.specs.Facets.{IsInOpenCone, IsInsideFacet, IsFlippable}
use Rattle.gf_facets_theory.specs.MarkedBases.{AreCanonical, IsMarkedReducedBasis, IsBasisInRegion}
use Rattle.gf_facets_theory.proofs.ConeLaws.{normals_open, open_by_normals}
use Rattle.gf_facets_theory.proofs.UnitLaws.{units_on_positive, positive_by_units}
use Rattle.gf_facets_theory.proofs.RegionLaws.{region-positive}
use Rattle.gf_facets_theory.proofs.SystemLaws.{marks_of_open, open_of_marks}
use Rattle.gf_facets_theory.proofs.VectorLaws.{vector_or_not}
use Rattle.gf_bases_theory.proofs.LawsHold.{marked_bases_are_reduced}
use Rattle.gf_weights.specs.Weights.{AreCutRows, IsWeightIn, IsWitnessIn, IsPrintedWeight}

-- ---- the rows of the cut cone

-- each is a normal, a row of the region, or a unit vector
row_kinds : (n : ℕ) (j : Region) (bs : List MarkedPolynomial) (rows : List (List ℤ)) (t : List ℤ) → AreCutRows n j bs rows → Contains rows t →
    IsNormal bs t ⊎ (Contains j.rows t ⊎ Contains (units n n) t)
row_kinds n j bs rows t k c = elim (Contains-append_cases k.normals (j.rows ++ units n n) t (subst (λ (z : List (List ℤ)). Contains z t) k.all c)) [
  | inl a ↦ inl (k.are_normals.only t a)
  | inr u ↦ inr (Contains-append_cases j.rows (units n n) t u)
]

normal_row : (n : ℕ) (j : Region) (bs : List MarkedPolynomial) (rows : List (List ℤ)) (t : List ℤ) → AreCutRows n j bs rows → IsNormal bs t → Contains rows t
normal_row n j bs rows t k i = subst (λ (z : List (List ℤ)). Contains z t) (sym k.all) (Contains-append_left k.normals (j.rows ++ units n n) t
    (k.are_normals.all t i))

region_row : (n : ℕ) (j : Region) (bs : List MarkedPolynomial) (rows : List (List ℤ)) (t : List ℤ) → AreCutRows n j bs rows → Contains j.rows t →
    Contains rows t
region_row n j bs rows t k i = subst (λ (z : List (List ℤ)). Contains z t) (sym k.all) (Contains-append_right k.normals (j.rows ++ units n n) t
    (Contains-append_left j.rows (units n n) t i))

unit_row : (n : ℕ) (j : Region) (bs : List MarkedPolynomial) (rows : List (List ℤ)) (t : List ℤ) → AreCutRows n j bs rows → Contains (units n n) t →
    Contains rows t
unit_row n j bs rows t k i = subst (λ (z : List (List ℤ)). Contains z t) (sym k.all) (Contains-append_right k.normals (j.rows ++ units n n) t
    (Contains-append_right j.rows (units n n) t i))

-- a vector of the region is positive on its rows and on the unit vectors
region_up : (n : ℕ) (j : Region) (w t : List ℤ) → IsInRegion n j w → Contains j.rows t ⊎ Contains (units n n) t → pos 0 <ℤ dot t w
region_up n j w t r (inl c) = All-contains (λ c. pos 0 <ℤ dot c w) j.rows t r.rows c
region_up n j w t r (inr u) = units_on_positive n w r.width r.positive t u

-- one of the open cone, too, is positive on all rows
rows_up : (n : ℕ) (j : Region) (bs : List MarkedPolynomial) (rows : List (List ℤ)) (w : List ℤ) → AreCanonical n bs → AreCutRows n j bs rows →
    IsInRegion n j w → IsInOpenCone w bs → (t : List ℤ) → Contains rows t → pos 0 <ℤ dot t w
rows_up n j bs rows w can k r o t c = elim (row_kinds n j bs rows t k c) [
  | inl a ↦ normals_open n bs w can o t a
  | inr u ↦ region_up n j w t r u
]

-- ---- weights

pub weight_marks : (n : ℕ) (j : Region) (bs : List MarkedPolynomial) (v w : List ℤ) → AreCanonical n bs → IsWeightIn n j bs v → IsInRegion n j w →
    IsInOpenCone w bs → IsInRegion n j v × IsInOpenCone v bs
weight_marks n j bs v w can p r o =
    let rows : List (List ℤ) = p.cut.rows in
    let k = p.cut.are_rows in
    let wide : length v ≡ n = ap length p.sum ∙ sum_long n p.rays (described_of n rows [] [] p.rays p.cut.are_rays).rays_width in
    let up : (t : List ℤ) → Contains rows t → pos 0 <ℤ dot t v = λ t c. subst (λ (z : List ℤ). pos 0 <ℤ dot t z) (sym p.sum)
    (sum_positive n rows [] p.rays w t p.cut.are_rays r.width (rows_up n j bs rows w can k r o) c) in (
      record {
        width = wide;
        positive = positive_by_units n v wide (λ t c. up t (unit_row n j bs rows t k c));
        rows = all_by (λ c. pos 0 <ℤ dot c v) j.rows (λ t c. up t (region_row n j bs rows t k c));
      },
      open_by_normals n bs v can (λ a i. up a (normal_row n j bs rows a k i)),
    )

-- a basis in the region is the one for its weight
pub weight_basis_in : (n : ℕ) (j : Region) (fs : List Terms) (bs : List MarkedPolynomial) (v : List ℤ) → AreInVariables n fs → IsBasisInRegion n fs j bs →
    IsWeightIn n j bs v → IsInRegion n j v × IsReducedBasis n fs (gains v) bs
weight_basis_in n j fs bs v vars b p =
    let m : IsMarkedReducedBasis n fs bs = record { reduced = b.reduced; arranged = b.arranged } in
    let q = weight_marks n j bs v b.weight b.arranged.canonical p b.inside (open_of_marks n j bs b.weight b.inside b.marked) in
    let monic : (c : MarkedPolynomial) → Contains bs c → coefficient c.poly c.head ≡ one_ℚ = λ c i. (b.marked c i).monic in
    (q.0, (marked_bases_are_reduced.at_weight n fs (gains v) bs vars m).1 (region-positive n j v q.0, marks_of_open n j bs v q.0 monic q.1))

pub weight_basis : (n : ℕ) (fs : List Terms) (bs : List MarkedPolynomial) (v : List ℤ) → AreInVariables n fs → IsMarkedReducedBasis n fs bs →
    IsPrintedWeight n bs v → (length v ≡ n) × All (λ x. pos 0 <ℤ x) v × IsReducedBasis n fs (gains v) bs
weight_basis n fs bs v vars m p =
    let q = weight_basis_in n (all_positive n) fs bs v vars ((marked_bases_are_reduced.everywhere n fs bs vars).1 m) p in
    (q.0.width, q.0.positive, q.1)

-- ---- witnesses

pub witness_inside : (n : ℕ) (j : Region) (bs : List MarkedPolynomial) (a v : List ℤ) → AreCanonical n bs → IsFlippable n j bs a → IsWitnessIn n j bs a v →
    IsInRegion n j v × IsInsideFacet bs a v
witness_inside n j bs a v can f p =
    let rows : List (List ℤ) = p.cut.rows in
    let k = p.cut.are_rows in
    let part = zeros_part a p.rays in
    let shown : IsWitness n rows a f.point = record {
      width = f.region.width;
      zero = f.inside.zero;
      others = λ b c. elim (row_kinds n j bs rows b k c) [
        | inl i ↦ elim (vector_or_not b a) [ inl e ↦ inl e | inr d ↦ inr (f.inside.positive b i d) ]
        | inr u ↦ inr (region_up n j f.point b f.region u)
      ];
    } in
    let s : IsWitness n rows a v = subst (IsWitness n rows a) (sym p.sum)
    (sum_witness n rows [] p.rays a f.point (record { part = zeros_of a p.rays; of_part = part.each; all = part.every }) p.cut.are_rays
    (normal_row n j bs rows a k f.inside.normal) shown) in
    let up : (t : List ℤ) → Contains rows t → pos 0 <ℤ dot t f.point → pos 0 <ℤ dot t v = λ t c u. elim (s.others t c) [
      | inl e ↦ let z : dot t f.point ≡ pos 0 = ap (λ (y : List ℤ). dot y f.point) e ∙ f.inside.zero in absurd (omega (arith, ints, u, z))
      | inr g ↦ g
    ] in (
      record {
        width = s.width;
        positive = positive_by_units n v s.width (λ t c. up t (unit_row n j bs rows t k c) (region_up n j f.point t f.region (inr c)));
        rows = all_by (λ c. pos 0 <ℤ dot c v) j.rows (λ t c. up t (region_row n j bs rows t k c) (region_up n j f.point t f.region (inl c)));
      },
      record {
        normal = f.inside.normal;
        zero = s.zero;
        positive = λ b i d. elim (s.others b (normal_row n j bs rows b k i)) [ inl e ↦ absurd (d e) | inr g ↦ g ];
      },
    )
