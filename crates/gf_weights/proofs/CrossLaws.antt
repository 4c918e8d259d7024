-- Facets that a flip may cross, by the rays on which a normal is zero.
use Rattle.std.proofs.Common.{◌≡◌, ℕ, zero, suc, ◌<◌, List, [], ◌∷◌, ◌++◌, length, ℤ, pos, ◌<ℤ◌, ◌≤ℤ◌, arith, refl, sym, ap, ◌∙◌, subst, Contains, get_or, inl}
use Rattle.std.proofs.Common.{inr}
use Rattle.std.proofs.lemmas.Int.{ints}
use Rattle.std.proofs.lemmas.List.{get_or_default}
use Rattle.std.proofs.lemmas.Bool.{cases_eq}
use Rattle.std.proofs.Math.ListN.{get_or-append}
use Rattle.std.proofs.lemmas.List.Elements.{All-contains}
use Rattle.gf_int_theory.proofs.SignLaws.{sign_of, negative, none, positive}
use Rattle.gf_int_theory.proofs.ListLaws.{Contains-here}
use Rattle.gf_vec.specs.Vector.{dot}
use Rattle.gf_duality_theory.specs.Generators.{Made, IsDescribed}
use Rattle.gf_duality_theory.specs.Faces.{sum_of}
use Rattle.gf_duality_theory.proofs.ListLaws.{none_in, in_tail}
use Rattle.gf_duality_theory.proofs.Made.{Made-dot, Made-dot_zero}
use Rattle.gf_duality_theory.proofs.RaySums.{sum_made, sum_long, sum_zero}
use Rattle.gf_duality_theory.proofs.Determined.{described_of}
use Rattle.gf_duality_theory.proofs.Sums.{within_zero}
use Rattle.gf_duality_theory.proofs.FacetRows.{in_cone}
use Rattle.gf_rays.specs.Cones.{RowsAndRays}
use Rattle.gf_rays.specs.Parts.{zeros_of}
use Rattle.gf_rays.proofs.PartLaws.{zeros_part}
use Rattle.gf_facets_theory.specs.Normals.{others_of}
use Rattle.gf_cone.specs.Cones.{ConeRows, all_rows, other_rows}
use Rattle.gf_cone.specs.Crossing.{IsCrossable}
use Rattle.gf_cone.proofs.CrossingLaws.{in_all, solution_of_shown}
use Rattle.gf_weights.specs.Cuts.{HasRaysOf, IsZeroAt, HasRayOff, HasRayOffOthers}
use Rattle.gf_rays.proofs.FacetLaws.{row_in}

-- that at another index is one of the others
other_row : (ns beside : List (List ℤ)) (i k : ℕ) → i < length ns → k < length (ns ++ beside) → (k ≡ i → ⊥) →
    Contains (others_of i ns ++ beside) (get_or (ns ++ beside) k [])
other_row [] beside i k l m d = absurd (omega (arith, l))
other_row (x ∷ ns) beside zero zero l m d = absurd (d refl)
other_row (x ∷ ns) beside zero (suc k) l m d = row_in (ns ++ beside) k (omega (arith, m))
other_row (x ∷ ns) beside (suc i) zero l m d = Contains-here x (others_of i ns ++ beside)
other_row (x ∷ ns) beside (suc i) (suc k) l m d =
    in_tail x (others_of i ns ++ beside) (get_or (ns ++ beside) k []) (other_row ns beside i k (omega (arith, l)) (omega (arith, m)) (λ e. d (ap suc e)))

-- ---- the sum of the rays on which a row is zero

module _ (n : ℕ) (rows lin rays : List (List ℤ)) (i : ℕ) (d : IsDescribed n rows [] lin rays) (l : i < length rows) where
  abbrev at : List ℤ
  at = get_or rows i []

  part_wide : (x : List ℤ) → Contains (zeros_of at rays) x → length x ≡ n
  part_wide x c = d.rays_width x ((zeros_part at rays).each x c).0

  part_sum : Made n (zeros_of at rays) [] (sum_of n (zeros_of at rays))
  part_sum = sum_made n (zeros_of at rays) [] (zeros_of at rays) part_wide (λ x c. c)

  pub part_long : length (sum_of n (zeros_of at rays)) ≡ n
  part_long = sum_long n (zeros_of at rays) part_wide

  -- the row is zero there
  pub part_zero : dot at (sum_of n (zeros_of at rays)) ≡ pos 0
  part_zero = Made-dot_zero n (zeros_of at rays) [] at (sum_of n (zeros_of at rays)) (λ x c. ((zeros_part at rays).each x c).1) (λ x c. absurd (none_in x c))
      part_sum

  -- and each other row that isn't zero on all of them is positive
  pub part_positive : (k j : ℕ) → k < length rows → j < length rays → dot at (get_or rays j []) ≡ pos 0 → (dot (get_or rows k []) (get_or rays j []) ≡ pos 0 →
      ⊥) → pos 0 <ℤ dot (get_or rows k []) (sum_of n (zeros_of at rays))
  part_positive k j lk lj z off =
      let row : List ℤ = get_or rows k [] in
      let there : Contains (zeros_of at rays) (get_or rays j []) = (zeros_part at rays).every (get_or rays j []) (row_in rays j lj) z in
      let up : (x : List ℤ) → Contains (zeros_of at rays) x → pos 0 ≤ℤ dot row x =
      λ x c. d.valid.up row x (row_in rows k lk) ((zeros_part at rays).each x c).0 in
      elim (sign_of (dot row (sum_of n (zeros_of at rays)))) [
        | positive g ↦ g
        | none g ↦ absurd (off (sum_zero n (zeros_of at rays) row (get_or rays j []) part_wide up g there))
        | negative g ↦ let q : pos 0 ≤ℤ dot row (sum_of n (zeros_of at rays)) =
            Made-dot n (zeros_of at rays) [] row (sum_of n (zeros_of at rays)) up (λ x c. absurd (none_in x c)) part_sum in absurd (omega (arith, ints, g, q))
      ]

-- ---- by the rows of a cone

-- where no other row is zero on all of them, their sum shows that a flip may cross
pub crossing_of_rays : (c : ConeRows) (r : RowsAndRays) (i : ℕ) → HasRaysOf c r → i < length c.normals → HasRayOffOthers r i → IsCrossable c i
crossing_of_rays c r i h l off =
    let n = c.variables in
    let rows : List (List ℤ) = all_rows c in
    let d : IsDescribed n rows [] r.lineality r.rays = described_of n rows [] r.lineality r.rays h.rays in
    let li : i < length rows = in_all c i l in
    let w : List ℤ = sum_of n (zeros_of (get_or rows i []) r.rays) in
    let moved : (k : ℕ) → k < length rows → (k ≡ i → ⊥) → HasRayOff (record r { inequalities = rows }) i k =
    subst (λ (z : List (List ℤ)). (k : ℕ) → k < length z → (k ≡ i → ⊥) → HasRayOff (record r { inequalities = z }) i k) h.rows off in (
      w,
      solution_of_shown c i w l (part_long n rows r.lineality r.rays i d li) (λ k lk. record {
        zero = λ e. ap (λ (j : ℕ). dot (get_or rows j []) w) e ∙ part_zero n rows r.lineality r.rays i d li;
        positive = λ e. let q = moved k lk e in part_positive n rows r.lineality r.rays i d li k q.0 lk q.1 q.2 q.3;
      }),
    )

-- and where one is, none may
pub not_crossing : (c : ConeRows) (r : RowsAndRays) (i k : ℕ) → HasRaysOf c r → i < length c.normals → k < length r.inequalities → (k ≡ i → ⊥) →
    ((j : ℕ) → j < length r.rays → IsZeroAt r i j → IsZeroAt r k j) → IsCrossable c i → ⊥
not_crossing c r i k h l lk ne z (w, s) =
    let n = c.variables in
    let rows : List (List ℤ) = all_rows c in
    let d : IsDescribed n rows [] r.lineality r.rays = described_of n rows [] r.lineality r.rays h.rays in
    let li : i < length rows = in_all c i l in
    let mk : k < length rows = subst (λ (t : List (List ℤ)). k < length t) h.rows lk in
    let zero : dot (get_or rows i []) w ≡ pos 0 = ap (λ (t : List ℤ). dot t w) (get_or-append c.normals c.beside [] i l) ∙ s.zero 0 [] (omega arith) in
    let up : (j : ℕ) → j < length rows → (j ≡ i → ⊥) → pos 0 <ℤ dot (get_or rows j []) w =
    λ j m e. All-contains (λ t. pos 0 <ℤ dot t w) (other_rows c i) (get_or rows j []) s.positive (other_row c.normals c.beside i j l m e) in
    let inside : (t : List ℤ) → Contains rows t → pos 0 ≤ℤ dot t w = λ t ct. elim (cases_eq ct.0 i) [
      | inl e ↦ let q : dot t w ≡ pos 0 = ap (λ (y : List ℤ). dot y w) (sym ct.2 ∙ get_or_default rows ct.0 t [] ct.1 ∙ ap (λ (j : ℕ). get_or rows j []) e) ∙
          zero in omega (arith, ints, q)
      | inr e ↦ let q : pos 0 <ℤ dot (get_or rows ct.0 []) w = up ct.0 ct.1 e in let f : dot (get_or rows ct.0 []) w ≡ dot t w =
          ap (λ (y : List ℤ). dot y w) (get_or_default rows ct.0 [] t ct.1 ∙ ct.2) in omega (arith, ints, q, f)
    ] in
    let moved : (j : ℕ) → j < length r.rays → IsZeroAt (record r { inequalities = rows }) i j → IsZeroAt (record r { inequalities = rows }) k j =
    subst (λ (t : List (List ℤ)). (j : ℕ) → j < length r.rays → IsZeroAt (record r { inequalities = t }) i j → IsZeroAt (record r { inequalities = t }) k j)
    h.rows z in
    let flat : (x : List ℤ) → Contains r.rays x → dot (get_or rows i []) x ≡ pos 0 → dot (get_or rows k []) x ≡ pos 0 = λ x cx q.
    let e : get_or r.rays cx.0 [] ≡ x = get_or_default r.rays cx.0 [] x cx.1 ∙ cx.2 in
    ap (λ (y : List ℤ). dot (get_or rows k []) y) (sym e) ∙ moved cx.0 cx.1 (ap (λ (y : List ℤ). dot (get_or rows i []) y) e ∙ q) in
    let down : dot (get_or rows k []) w ≡ pos 0 = within_zero n rows [] r.lineality r.rays (get_or rows i []) (get_or rows k []) w d (row_in rows i li)
    (row_in rows k mk) flat s.width (in_cone rows w inside) zero in
    let q : pos 0 <ℤ dot (get_or rows k []) w = up k mk ne in
    absurd (omega (arith, ints, down, q))
