-- A normal is one of a facet exactly where the system of the other normals, on which it is an equation, has a solution; else
-- a multiple of it is a combination of the others. With the rows of a region and the unit vectors beside them: flippable.
-- To cite: IsFacetSystem, facet_system, flip_system, point_of_solution, solution_of_point, combination_of_farkas, redundant_of_farkas,
-- not_redundant;
-- of a list of normals normal_here, facet_rows_wide, facet_of_solution, solution_of_facet, flippable_of_solution,
-- solution_of_flippable, flip_rows_wide; facet_or_redundant, facet_not_redundant, flippable_or_redundant,
-- flippable_not_redundant, flippable_or_not.
use Rattle.std.specs.List.{AllByRecursion}
use Rattle.std.proofs.Common.{◌≡◌, ◌⊎◌, ℕ, zero, suc, ◌<◌, List, [], ◌∷◌, ◌++◌, length, get_or, Contains, All, ℤ, pos, neg_ℤ, ◌+ℤ◌, ◌*ℤ◌, ◌<ℤ◌, ◌≤ℤ◌, arith}
use Rattle.std.proofs.Common.{refl, sym, ap, ap₂, ◌∙◌, inl, inr}
use Rattle.std.proofs.lemmas.Int.{ints}
use Rattle.std.proofs.lemmas.List.{get_or_default}
use Rattle.std.proofs.lemmas.List.Elements.{All-nil, All-cons, All-contains, recursion_from_All, Contains-append_left, Contains-append_right}
use Rattle.std.proofs.lemmas.List.Elements.{Contains-append_cases}
use Rattle.gf_int_theory.specs.Content.{scaled}
use Rattle.gf_int_theory.proofs.RingLaws.{dv, dneg, ◌⊗◌, same as same_number}
use Rattle.gf_int_theory.proofs.SignLaws.{0≤-*ℤ, 0<-*ℤ, <0-cancel, zero_of_*ℤ}
use Rattle.gf_int_theory.proofs.ListLaws.{Contains-here, all_by}
use Rattle.gf_vec.specs.Vector.{dot, vector_sum, zeros, combined, values}
use Rattle.gf_vec.proofs.VectorLaws.{dot-plus, dot-times, dot-zeros, dot-combined, dot-not_negative, dot-positive, length-times, length-combined, plus-zeros}
use Rattle.gf_gordan.specs.Alternative.{AreRows, IsSolution, IsSolvable, IsFarkas, IsRefutable}
use Rattle.gf_gordan.proofs.ExistenceLaws.{alternative}
use Rattle.gf_poly.specs.Marking.{MarkedPolynomial}
use Rattle.gf_facets_theory.specs.Rows.{IsNormal}
use Rattle.gf_facets_theory.specs.Systems.{units}
use Rattle.gf_facets_theory.specs.Normals.{AreNormals, others_of, flip_rows}
use Rattle.gf_facets_theory.specs.Combinations.{IsCombination, IsRowRedundant}
use Rattle.gf_facets_theory.specs.Regions.{Region, IsInRegion}
use Rattle.gf_facets_theory.specs.Facets.{IsInOpenCone, IsInsideFacet, IsFacet, IsFlippable}
use Rattle.gf_facets_theory.specs.MarkedBases.{AreCanonical}
use Rattle.gf_facets_theory.proofs.NormalLaws.{normal-length}
use Rattle.gf_facets_theory.proofs.NormalListLaws.{NormalsListed, normals_listed, OthersListed, others_listed, others_only, others_all}
use Rattle.gf_facets_theory.proofs.ConeLaws.{normals_open}
use Rattle.gf_facets_theory.proofs.SystemLaws.{region_rows_wide, rows_of_region, region_of_rows}

-- ---- the system of a normal

-- the rows are the normals other than a, and what is beside them
pub record IsFacetSystem (bs : List MarkedPolynomial) (a : List ℤ) (beside rows : List (List ℤ)) : Type 0 where
  pub only : (t : List ℤ) → Contains rows t → (IsNormal bs t × (t ≡ a → ⊥)) ⊎ Contains beside t
  pub normals : (b : List ℤ) → IsNormal bs b → (b ≡ a → ⊥) → Contains rows b
  pub others : (t : List ℤ) → Contains beside t → Contains rows t

-- the other normals alone
pub facet_system : (bs : List MarkedPolynomial) (ns : List (List ℤ)) (i : ℕ) → AreNormals bs ns → i < length ns →
    IsFacetSystem bs (get_or ns i []) [] (others_of i ns)
facet_system bs ns i m l = record {
  only = λ t c. (let o = others_only ns i t m.rises l c in inl (m.only t o.0, o.1));
  normals = λ b h o. others_all ns i b l (m.all b h) o;
  others = λ t c. absurd (omega (arith, c.1));
}

-- with the rows of a region and the unit vectors
pub flip_system : (n : ℕ) (k : Region) (bs : List MarkedPolynomial) (ns : List (List ℤ)) (i : ℕ) → AreNormals bs ns → i < length ns →
    IsFacetSystem bs (get_or ns i []) (k.rows ++ units n n) (flip_rows n k ns i)
flip_system n k bs ns i m l = record {
  only = λ t c. first t (Contains-append_cases (others_of i ns ++ k.rows) (units n n) t c);
  normals = λ b h o. Contains-append_left (others_of i ns ++ k.rows) (units n n) b
      (Contains-append_left (others_of i ns) k.rows b (others_all ns i b l (m.all b h) o));
  others = λ t c. elim (Contains-append_cases k.rows (units n n) t c) [
    | inl d ↦ Contains-append_left (others_of i ns ++ k.rows) (units n n) t (Contains-append_right (others_of i ns) k.rows t d)
    | inr d ↦ Contains-append_right (others_of i ns ++ k.rows) (units n n) t d
  ];
}
  where
    second : (t : List ℤ) → Contains (others_of i ns) t ⊎ Contains k.rows t → (IsNormal bs t × (t ≡ get_or ns i [] → ⊥)) ⊎ Contains (k.rows ++ units n n) t
    second t (inl c) = let o = others_only ns i t m.rises l c in inl (m.only t o.0, o.1)
    second t (inr c) = inr (Contains-append_left k.rows (units n n) t c)

    first : (t : List ℤ) → Contains (others_of i ns ++ k.rows) t ⊎ Contains (units n n) t →
        (IsNormal bs t × (t ≡ get_or ns i [] → ⊥)) ⊎ Contains (k.rows ++ units n n) t
    first t (inl c) = second t (Contains-append_cases (others_of i ns) k.rows t c)
    first t (inr c) = inr (Contains-append_right k.rows (units n n) t c)

-- ---- solutions are vectors inside the facet

one_row : (P : List ℤ → Type 0) (a : List ℤ) → P a → All P (a ∷ [])
one_row P a h = All-cons P a [] h (All-nil P)

rows_by : (P : List ℤ → Type 0) (bs : List MarkedPolynomial) (a : List ℤ) (beside rows : List (List ℤ)) → IsFacetSystem bs a beside rows →
    ((b : List ℤ) → IsNormal bs b → (b ≡ a → ⊥) → P b) → ((t : List ℤ) → Contains beside t → P t) → All P rows
rows_by P bs a beside rows s f g = all_by P rows (λ t c. elim (s.only t c) [ inl h ↦ f t h.0 h.1 | inr h ↦ g t h ])

pub point_of_solution : (n : ℕ) (bs : List MarkedPolynomial) (a v : List ℤ) (beside rows : List (List ℤ)) → IsFacetSystem bs a beside rows →
    IsNormal bs a → IsSolution n rows (a ∷ []) v → IsInsideFacet bs a v × All (λ t. pos 0 <ℤ dot t v) beside
point_of_solution n bs a v beside rows s q h = (
  record { normal = q; zero = All-contains (λ t. dot t v ≡ pos 0) (a ∷ []) a h.zero (Contains-here a []); positive = λ b i o. row b (s.normals b i o) },
  all_by (λ t. pos 0 <ℤ dot t v) beside (λ t c. row t (s.others t c)),
)
  where
    row : (t : List ℤ) → Contains rows t → pos 0 <ℤ dot t v
    row t c = All-contains (λ t. pos 0 <ℤ dot t v) rows t h.positive c

pub solution_of_point : (n : ℕ) (bs : List MarkedPolynomial) (a v : List ℤ) (beside rows : List (List ℤ)) → IsFacetSystem bs a beside rows →
    length v ≡ n → IsInsideFacet bs a v → All (λ t. pos 0 <ℤ dot t v) beside → IsSolution n rows (a ∷ []) v
solution_of_point n bs a v beside rows s e h p = record {
  width = e;
  positive = rows_by (λ t. pos 0 <ℤ dot t v) bs a beside rows s h.positive (λ t c. All-contains (λ t. pos 0 <ℤ dot t v) beside t p c);
  zero = one_row (λ t. dot t v ≡ pos 0) a h.zero;
}

system_wide : (n : ℕ) (bs : List MarkedPolynomial) (a : List ℤ) (beside rows : List (List ℤ)) → IsFacetSystem bs a beside rows →
    AreCanonical n bs → AreRows n beside → AreRows n rows
system_wide n bs a beside rows s k w = rows_by (λ t. length t ≡ n) bs a beside rows s (λ b h o. normal-length n bs b k h)
    (λ t c. All-contains (λ t. length t ≡ n) beside t w c)

-- ---- multipliers are a combination

-- s and e times a cancel
balanced : (n : ℕ) (e : ℤ) (s a : List ℤ) → length s ≡ n → length a ≡ n → vector_sum s (scaled e a) ≡ zeros n → scaled (neg_ℤ e) a ≡ s
balanced zero e [] [] l m h = refl
balanced zero e [] (y ∷ a) l m h = absurd (omega (arith, m))
balanced zero e (x ∷ s) a l m h = absurd (omega (arith, l))
balanced (suc n) e [] a l m h = absurd (omega (arith, l))
balanced (suc n) e (x ∷ s) [] l m h = absurd (omega (arith, m))
balanced (suc n) e (x ∷ s) (y ∷ a) l m h =
    let f : x +ℤ e *ℤ y ≡ pos 0 = cc in
    let g : vector_sum s (scaled e a) ≡ zeros n = cc in
    ap₂ ◌∷◌ (entry f) (balanced n e s a (omega (arith, l)) (omega (arith, m)) g)
  where
    entry : x +ℤ e *ℤ y ≡ pos 0 → neg_ℤ e *ℤ y ≡ x
    entry f = let d : neg_ℤ e *ℤ y ≡ neg_ℤ (e *ℤ y) = same_number (dneg (dv e) ⊗ dv y) (dneg (dv e ⊗ dv y)) (omega arith) in omega (arith, ints, d, f)

-- where a vector is positive on the rows and on a, Farkas multipliers are a combination: minus the multiplier of a is how
-- often a is taken
pub combination_of_farkas : (n : ℕ) (a w : List ℤ) (rows : List (List ℤ)) (ms : List ℤ) (e : ℤ) → AreRows n rows → length a ≡ n →
    All (λ t. pos 0 <ℤ dot t w) rows → pos 0 <ℤ dot a w → IsFarkas n rows (a ∷ []) ms (e ∷ []) → IsCombination n rows a (neg_ℤ e) ms
combination_of_farkas n a w rows ms e wide l p q f = record {
  positive = omega (arith, ints, below);
  count = f.rows_len;
  not_negative = f.not_negative;
  sum = balanced n e s a long l zero_sum;
}
  where
    s : List ℤ
    s = combined n ms rows

    widths : AllByRecursion (λ t. length t ≡ n) rows
    widths = recursion_from_All (λ t. length t ≡ n) rows wide

    long : length (combined n ms rows) ≡ n
    long = length-combined n ms rows widths

    zero_sum : vector_sum (combined n ms rows) (scaled e a) ≡ zeros n
    zero_sum = ap (vector_sum (combined n ms rows)) (sym (plus-zeros n (scaled e a) (length-times e a ∙ l))) ∙ f.zero_sum

    value : dot (combined n ms rows) w +ℤ e *ℤ dot a w ≡ pos 0
    value = ap (λ z. dot (combined n ms rows) w +ℤ z) (sym (dot-times e a w)) ∙
        sym (dot-plus (combined n ms rows) (scaled e a) w (long ∙ sym (length-times e a ∙ l))) ∙ ap (λ (z : List ℤ). dot z w) zero_sum ∙ dot-zeros n w

    above : pos 0 <ℤ dot (combined n ms rows) w
    above =
        let d : dot (combined n ms rows) w ≡ dot ms (values rows w) = dot-combined n ms rows w widths in
        let h : pos 0 <ℤ dot ms (values rows w) = dot-positive ms rows w f.rows_len (recursion_from_All (λ m. pos 0 ≤ℤ m) ms f.not_negative) f.not_all_zero
        (recursion_from_All (λ t. pos 0 <ℤ dot t w) rows p) in
        omega (arith, ints, d, h)

    below : e <ℤ pos 0
    below =
        let c : dot a w *ℤ e ≡ e *ℤ dot a w = same_number (dv (dot a w) ⊗ dv e) (dv e ⊗ dv (dot a w)) (omega arith) in
        <0-cancel (dot a w) e q (omega (arith, ints, c, value, above))

-- so a is redundant
pub redundant_of_farkas : (n : ℕ) (a w : List ℤ) (rows : List (List ℤ)) (ms es : List ℤ) → AreRows n rows → length a ≡ n →
    All (λ t. pos 0 <ℤ dot t w) rows → pos 0 <ℤ dot a w → IsFarkas n rows (a ∷ []) ms es → IsRowRedundant n rows a
redundant_of_farkas n a w rows ms [] wide l p q f = absurd (omega (arith, f.equations_len))
redundant_of_farkas n a w rows ms (e ∷ (d ∷ es)) wide l p q f = absurd (omega (arith, f.equations_len))
redundant_of_farkas n a w rows ms (e ∷ []) wide l p q f = (neg_ℤ e, ms, combination_of_farkas n a w rows ms e wide l p q f)

-- ---- never both

-- multipliers that give 0 of positive values are zero
vanishing : (ms : List ℤ) (rows : List (List ℤ)) (v w : List ℤ) → AllByRecursion (λ m. pos 0 ≤ℤ m) ms →
    AllByRecursion (λ t. pos 0 <ℤ dot t v) rows → dot ms (values rows v) ≡ pos 0 → dot ms (values rows w) ≡ pos 0
vanishing [] rows v w h p e = refl
vanishing (m ∷ ms) [] v w h p e = refl
vanishing (m ∷ ms) (t ∷ rows) v w h p e =
    let tv : pos 0 <ℤ dot t v = p.0 in
    let front : pos 0 ≤ℤ (m *ℤ dot t v) = 0≤-*ℤ m (dot t v) h.0 (omega (arith, ints, tv)) in
    let back : pos 0 ≤ℤ dot ms (values rows v) = dot-not_negative ms rows v h.1 p.1 in
    let none : m *ℤ dot t v ≡ pos 0 = omega (arith, ints, e, front, back) in
    let rest : dot ms (values rows v) ≡ pos 0 = omega (arith, ints, e, front, back) in
    let r : dot ms (values rows w) ≡ pos 0 = vanishing ms rows v w h.1 p.1 rest in
    elim (zero_of_*ℤ m (dot t v) none) [
      | inl z ↦ ap (λ (k : ℤ). k *ℤ dot t w +ℤ dot ms (values rows w)) z ∙ omega (arith, ints, r)
      | inr z ↦ absurd (omega (arith, ints, z, tv))
    ]

-- where a vector is positive on a, and another one on the rows and zero on a, a is not redundant
pub not_redundant : (n : ℕ) (a v w : List ℤ) (rows : List (List ℤ)) → AreRows n rows → pos 0 <ℤ dot a w →
    IsSolution n rows (a ∷ []) v → IsRowRedundant n rows a → ⊥
not_redundant n a v w rows wide q s r = absurd (omega (arith, ints, above, none))
  where
    k : ℤ
    k = r.0

    ms : List ℤ
    ms = r.1

    c : IsCombination n rows a r.0 r.1
    c = r.2

    widths : AllByRecursion (λ t. length t ≡ n) rows
    widths = recursion_from_All (λ t. length t ≡ n) rows wide

    gives : (u : List ℤ) → r.0 *ℤ dot a u ≡ dot r.1 (values rows u)
    gives u = sym (dot-times r.0 a u) ∙ ap (λ (z : List ℤ). dot z u) c.sum ∙ dot-combined n r.1 rows u widths

    at_v : dot r.1 (values rows v) ≡ pos 0
    at_v =
        let z : dot a v ≡ pos 0 = All-contains (λ t. dot t v ≡ pos 0) (a ∷ []) a s.zero (Contains-here a []) in
        sym (gives v) ∙ ap (λ (y : ℤ). r.0 *ℤ y) z ∙ omega (arith, ints)

    none : r.0 *ℤ dot a w ≡ pos 0
    none = gives w ∙ vanishing r.1 rows v w (recursion_from_All (λ m. pos 0 ≤ℤ m) r.1 c.not_negative)
        (recursion_from_All (λ t. pos 0 <ℤ dot t v) rows s.positive) at_v

    above : pos 0 <ℤ (r.0 *ℤ dot a w)
    above = 0<-*ℤ r.0 (dot a w) c.positive q

-- ---- facets and flippable normals of a list of normals

module _ (n : ℕ) (bs : List MarkedPolynomial) (k : AreCanonical n bs) (ns : List (List ℤ)) (i : ℕ) (m : AreNormals bs ns) (l : i < length ns) where
  pub normal_here : IsNormal bs (get_or ns i [])
  normal_here = m.only (get_or ns i []) (i, l, get_or_default ns i _ [] l)

  pub facet_rows_wide : AreRows n (others_of i ns)
  facet_rows_wide = system_wide n bs (get_or ns i []) [] (others_of i ns) (facet_system bs ns i m l) k (All-nil (λ t. length t ≡ n))

  -- a vector on which the others are positive and the normal is zero is inside its facet
  pub facet_of_solution : (v : List ℤ) → IsSolution n (others_of i ns) (get_or ns i [] ∷ []) v → IsFacet n bs (get_or ns i [])
  facet_of_solution v s = record {
    point = v;
    width = s.width;
    inside = (point_of_solution n bs (get_or ns i []) v [] (others_of i ns) (facet_system bs ns i m l) normal_here s).0;
  }

  pub solution_of_facet : (f : IsFacet n bs (get_or ns i [])) → IsSolution n (others_of i ns) (get_or ns i [] ∷ []) f.point
  solution_of_facet f = solution_of_point n bs (get_or ns i []) f.point [] (others_of i ns) (facet_system bs ns i m l) f.width f.inside
      (All-nil (λ t. pos 0 <ℤ dot t f.point))

  module _ (g : Region) where
    -- and where the region's rows and the unit vectors are positive too, it is one of the region
    pub flippable_of_solution : (v : List ℤ) → IsSolution n (flip_rows n g ns i) (get_or ns i [] ∷ []) v → IsFlippable n g bs (get_or ns i [])
    flippable_of_solution v s = at (point_of_solution n bs (get_or ns i []) v (g.rows ++ units n n) (flip_rows n g ns i) (flip_system n g bs ns i m l)
        normal_here s)
      where
        at : IsInsideFacet bs (get_or ns i []) v × All (λ t. pos 0 <ℤ dot t v) (g.rows ++ units n n) → IsFlippable n g bs (get_or ns i [])
        at p = record { point = v; region = region_of_rows n g v s.width p.1; inside = p.0 }

    pub solution_of_flippable : (f : IsFlippable n g bs (get_or ns i [])) → IsSolution n (flip_rows n g ns i) (get_or ns i [] ∷ []) f.point
    solution_of_flippable f = solution_of_point n bs (get_or ns i []) f.point (g.rows ++ units n n) (flip_rows n g ns i) (flip_system n g bs ns i m l)
        f.region.width f.inside (rows_of_region n g f.point f.region)

    pub flip_rows_wide : AreRows n g.rows → AreRows n (flip_rows n g ns i)
    flip_rows_wide wide = system_wide n bs (get_or ns i []) (g.rows ++ units n n) (flip_rows n g ns i) (flip_system n g bs ns i m l) k
        (region_rows_wide n g wide)

-- ---- either or, where the open cone has a vector

module _ (n : ℕ) (bs : List MarkedPolynomial) (w : List ℤ) (k : AreCanonical n bs) (o : IsInOpenCone w bs) where
  -- a system of a normal, what is beside it being positive on w, has a solution or makes it redundant
  solvable_or_redundant : (a : List ℤ) (beside rows : List (List ℤ)) → IsFacetSystem bs a beside rows → IsNormal bs a → AreRows n beside →
      All (λ t. pos 0 <ℤ dot t w) beside → IsSolvable n rows (a ∷ []) ⊎ IsRowRedundant n rows a
  solvable_or_redundant a beside rows s q wide p = at (alternative.one n rows (a ∷ []) rows_wide (one_row (λ t. length t ≡ n) a long))
    where
      long : length a ≡ n
      long = normal-length n bs a k q

      rows_wide : AreRows n rows
      rows_wide = system_wide n bs a beside rows s k wide

      at : IsSolvable n rows (a ∷ []) ⊎ IsRefutable n rows (a ∷ []) → IsSolvable n rows (a ∷ []) ⊎ IsRowRedundant n rows a
      at (inl v) = inl v
      at (inr f) = inr (redundant_of_farkas n a w rows f.0 f.1 rows_wide long (rows_by (λ t. pos 0 <ℤ dot t w) bs a beside rows s
          (λ b h d. normals_open n bs w k o b h) (λ t c. All-contains (λ t. pos 0 <ℤ dot t w) beside t p c)) (normals_open n bs w k o a q) f.2)

  module _ (ns : List (List ℤ)) (i : ℕ) (m : AreNormals bs ns) (l : i < length ns) where
    here_positive : pos 0 <ℤ dot (get_or ns i []) w
    here_positive = normals_open n bs w k o (get_or ns i []) (normal_here n bs k ns i m l)

    pub facet_or_redundant : IsFacet n bs (get_or ns i []) ⊎ IsRowRedundant n (others_of i ns) (get_or ns i [])
    facet_or_redundant = at (solvable_or_redundant (get_or ns i []) [] (others_of i ns) (facet_system bs ns i m l) (normal_here n bs k ns i m l)
        (All-nil (λ t. length t ≡ n)) (All-nil (λ t. pos 0 <ℤ dot t w)))
      where
        at : IsSolvable n (others_of i ns) (get_or ns i [] ∷ []) ⊎ IsRowRedundant n (others_of i ns) (get_or ns i []) →
            IsFacet n bs (get_or ns i []) ⊎ IsRowRedundant n (others_of i ns) (get_or ns i [])
        at (inl v) = inl (facet_of_solution n bs k ns i m l v.0 v.1)
        at (inr r) = inr r

    pub facet_not_redundant : IsFacet n bs (get_or ns i []) → IsRowRedundant n (others_of i ns) (get_or ns i []) → ⊥
    facet_not_redundant f r = not_redundant n (get_or ns i []) f.point w (others_of i ns) (facet_rows_wide n bs k ns i m l) here_positive
        (solution_of_facet n bs k ns i m l f) r

    pub flippable_or_redundant : (g : Region) → AreRows n g.rows → IsInRegion n g w →
        IsFlippable n g bs (get_or ns i []) ⊎ IsRowRedundant n (flip_rows n g ns i) (get_or ns i [])
    flippable_or_redundant g wide r = at (solvable_or_redundant (get_or ns i []) (g.rows ++ units n n) (flip_rows n g ns i) (flip_system n g bs ns i m l)
        (normal_here n bs k ns i m l) (region_rows_wide n g wide) (rows_of_region n g w r))
      where
        at : IsSolvable n (flip_rows n g ns i) (get_or ns i [] ∷ []) ⊎ IsRowRedundant n (flip_rows n g ns i) (get_or ns i []) →
            IsFlippable n g bs (get_or ns i []) ⊎ IsRowRedundant n (flip_rows n g ns i) (get_or ns i [])
        at (inl v) = inl (flippable_of_solution n bs k ns i m l g v.0 v.1)
        at (inr c) = inr c

    pub flippable_not_redundant : (g : Region) → AreRows n g.rows → IsFlippable n g bs (get_or ns i []) →
        IsRowRedundant n (flip_rows n g ns i) (get_or ns i []) → ⊥
    flippable_not_redundant g wide f r = not_redundant n (get_or ns i []) f.point w (flip_rows n g ns i) (flip_rows_wide n bs k ns i m l g wide) here_positive
        (solution_of_flippable n bs k ns i m l g f) r

-- ---- whether a normal is flippable

-- is decided
pub flippable_or_not : (n : ℕ) (g : Region) (bs : List MarkedPolynomial) (a : List ℤ) → AreRows n g.rows → AreCanonical n bs → IsNormal bs a →
    IsFlippable n g bs a ⊎ (IsFlippable n g bs a → ⊥)
flippable_or_not n g bs a wide k q = at (normals_listed bs)
  where
    at : NormalsListed bs → IsFlippable n g bs a ⊎ (IsFlippable n g bs a → ⊥)
    at ls = with_others (others_listed ls.list a)
      where
        with_others : OthersListed ls.list a → IsFlippable n g bs a ⊎ (IsFlippable n g bs a → ⊥)
        with_others r = decide (alternative.one n rows (a ∷ []) rows_wide one)
          where
            rows : List (List ℤ)
            rows = r.list ++ (g.rows ++ units n n)

            s : IsFacetSystem bs a (g.rows ++ units n n) (r.list ++ (g.rows ++ units n n))
            s = record {
              only = λ t c. elim (Contains-append_cases r.list (g.rows ++ units n n) t c) [
                | inl d ↦ (let e = r.only t d in inl (ls.only t e.0, e.1))
                | inr d ↦ inr d
              ];
              normals = λ b h e. Contains-append_left r.list (g.rows ++ units n n) b (r.all b (ls.all b h) e);
              others = λ t c. Contains-append_right r.list (g.rows ++ units n n) t c;
            }

            rows_wide : AreRows n (r.list ++ (g.rows ++ units n n))
            rows_wide = system_wide n bs a (g.rows ++ units n n) (r.list ++ (g.rows ++ units n n)) s k (region_rows_wide n g wide)

            one : AreRows n (a ∷ [])
            one = one_row (λ t. length t ≡ n) a (normal-length n bs a k q)

            decide : IsSolvable n (r.list ++ (g.rows ++ units n n)) (a ∷ []) ⊎ IsRefutable n (r.list ++ (g.rows ++ units n n)) (a ∷ []) →
                IsFlippable n g bs a ⊎ (IsFlippable n g bs a → ⊥)
            decide (inl v) = let p = point_of_solution n bs a v.0 (g.rows ++ units n n) (r.list ++ (g.rows ++ units n n)) s q v.1 in
                inl (record { point = v.0; region = region_of_rows n g v.0 v.1.width p.1; inside = p.0 })
            decide (inr f) = inr (λ h. alternative.not_both n (r.list ++ (g.rows ++ units n n)) (a ∷ []) rows_wide one (
              h.point,
              solution_of_point n bs a h.point (g.rows ++ units n n) (r.list ++ (g.rows ++ units n n)) s h.region.width h.inside
                  (rows_of_region n g h.point h.region),
            ) f)
