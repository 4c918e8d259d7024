-- All positive weights of one variable: the region without rows, which stays within all limits.
-- To cite: one_variable. The rest are steps.
use Rattle.std.proofs.Common.{◌≡◌, ℕ, ◌+◌, ◌<◌, ◌≤◌, ◌^◌, List, [], ◌∷◌, length, get_or, ℤ, pos, ◌+ℤ◌, ◌*ℤ◌, ◌<ℤ◌, ◌≤ℤ◌, unsigned_abs, arith, refl, sym, ap}
use Rattle.std.proofs.Common.{◌∙◌, subst, inl, inr, All, Contains, Err}
use Rattle.std.specs.Ordering.{int_cmp}
use Rattle.std.specs.Cmp.Lexicographic.{slice_cmp}
use Rattle.std.specs.declared.cmp.Ordering.TheVariants.{Less}
use Rattle.std.proofs.lemmas.Int.{ints}
use Rattle.std.proofs.lemmas.Nat.Gcd.{dvd_refl}
use Rattle.std.proofs.lemmas.List.Elements.{All-nil, All-contains, All-from_recursion}
use Rattle.gf_int_theory.specs.Content.{IsPrimitive, scaled}
use Rattle.gf_int_theory.proofs.ListLaws.{Contains-here}
use Rattle.gf_vec.specs.Vector.{dot, zeros, vector_sum, combined}
use Rattle.gf_vec.specs.Steps.{IsFirstWide, IsWide}
use Rattle.gf_gordan.specs.Alternative.{AreRows}
use Rattle.gf_gordan.specs.Sizes.{HaveEntriesUpTo}
use Rattle.gf_gordan.specs.declared.error.ConeOverflow.{ConeOverflow}
use Rattle.gf_gordan.specs.declared.error.GordanError.TheVariants as gordan_errors
use Rattle.gf_gordan.proofs.ThreeColumns.{not_refused}
use Rattle.gf_duality_theory.specs.Rays.{IsRays}
use Rattle.gf_duality_theory.specs.Faces.{sum_of}
use Rattle.gf_duality_theory.proofs.ListLaws.{in_tail, in_cons, none_in}
use Rattle.gf_duality_theory.proofs.Determined.{described_of}
use Rattle.gf_rays.specs.Sums.{adding_steps}
use Rattle.gf_rays.proofs.RoomLaws.{systems_with_room_stay_within_limits}
use Rattle.gf_facets_theory.proofs.SystemLaws.{all_positive-region}
use Rattle.gf_weights.specs.declared.region.RegionError.TheVariants as region_errors
use Rattle.gf_weights.specs.Roots.{IsRegionRefusal, IsRegionWithinLimits}
use Rattle.gf_weights.proofs.RegionLaws.{solved, unrefuted}

-- the rows of the closed region, and its only ray
abbrev the_row : List (List ℤ)
the_row = (pos 1 ∷ []) ∷ []

the_rows_wide : AreRows 1 the_row
the_rows_wide = All-from_recursion (λ t. length t ≡ 1) the_row (refl, tt)

the_rows_small : (b : ℕ) → 1 ≤ b → HaveEntriesUpTo b the_row
the_rows_small b l = All-from_recursion (All (λ x. unsigned_abs x ≤ b)) the_row (All-from_recursion (λ x. unsigned_abs x ≤ b) (pos 1 ∷ []) (l, tt), tt)

-- a primitive vector on which the row is positive
only_ray : (x : List ℤ) → length x ≡ 1 → pos 0 <ℤ dot (pos 1 ∷ []) x → IsPrimitive x → x ≡ pos 1 ∷ []
only_ray [] e p q = absurd (omega (arith, e))
only_ray (a ∷ (b ∷ x)) e p q = absurd (omega (arith, e))
only_ray (a ∷ []) e p q = elim (q (unsigned_abs a) (dvd_refl (unsigned_abs a), tt)) [
  | inl o ↦ let one : a ≡ pos 1 = omega (arith, ints, o, p) in ap (λ (z : ℤ). z ∷ []) one
  | inr z ↦ absurd (let none : a ≡ pos 0 = z.0 in omega (arith, ints, none, p))
]

-- without rays only zero is made
none_made : (f : ℤ) (ms ls : List ℤ) → length ms ≡ 0 → length ls ≡ 0 → pos 0 <ℤ f → scaled f (pos 1 ∷ []) ≡ vector_sum (combined 1 ms []) (combined 1 ls []) → ⊥
none_made f [] [] a b p e = (let same : f *ℤ pos 1 ≡ pos 0 +ℤ pos 0 = ap (λ (z : List ℤ). get_or z 0 (pos 0)) e in omega (arith, ints, same, p))
none_made f [] (l ∷ ls) a b p e = absurd (omega (arith, b))
none_made f (m ∷ ms) ls a b p e = absurd (omega (arith, a))

-- the rays
module _ (rays : List (List ℤ)) (h : IsRays 1 the_row [] [] rays) where
  each : (x : List ℤ) → Contains rays x → x ≡ pos 1 ∷ []
  each x c =
      let d = described_of 1 the_row [] [] rays h in
      let t = d.pointed x c in
      let up : pos 0 <ℤ dot (pos 1 ∷ []) x = elim (in_cons (pos 1 ∷ []) [] t.0 t.1.0) [
        | inl e ↦ subst (λ (z : List ℤ). pos 0 <ℤ dot z x) e t.1.1
        | inr k ↦ absurd (none_in t.0 k)
      ] in
      only_ray x (d.rays_width x c) up (All-contains IsPrimitive rays x h.primitive c)

rays_are : (rays : List (List ℤ)) → IsRays 1 the_row [] [] rays → rays ≡ the_row
rays_are [] h =
    let g = (h.generates (pos 1 ∷ []) refl).0 (record {
      not_negative = All-from_recursion (λ t. pos 0 ≤ℤ dot t (pos 1 ∷ [])) the_row (omega (arith, ints), tt);
      zero = All-nil _;
    }) in
    absurd (none_made g.factor g.rays_by g.lin_by g.rays_len g.lin_len g.positive g.is)
rays_are (x ∷ []) h = ap (λ (z : List ℤ). z ∷ []) (each (x ∷ []) h x (Contains-here x []))
rays_are (x ∷ (y ∷ ys)) h =
    let one : x ≡ pos 1 ∷ [] = each (x ∷ (y ∷ ys)) h x (Contains-here x (y ∷ ys)) in
    let two : y ≡ pos 1 ∷ [] = each (x ∷ (y ∷ ys)) h y (in_tail x (y ∷ ys) y (Contains-here y ys)) in
    let up : slice_cmp int_cmp x y ≡ Less = h.ascending 0 1 [] (omega arith) (omega arith) in
    absurd (let same : slice_cmp int_cmp (pos 1 ∷ []) (pos 1 ∷ []) ≡ Less = subst (λ (z : List ℤ). slice_cmp int_cmp (pos 1 ∷ []) z ≡ Less) two
    (subst (λ (z : List ℤ). slice_cmp int_cmp z y ≡ Less) one up) in cc)

-- no operation leaves the range
no_step : (s : ConeOverflow) → IsRegionRefusal 1 [] (region_errors.Cone s) → ⊥
no_step s (inl h) = (let m = not_refused (Err (gordan_errors.Cone s)) (length the_row + 0) 1 the_row [] the_rows_wide (All-nil _) h (omega arith)
    (the_rows_small 500 (omega arith)) (All-nil _) in cc)
no_step s (inr h) =
    systems_with_room_stay_within_limits 1 1 (record { inequalities = the_row; equations = [] }) (omega arith) (omega arith)
    (record { inequalities_width = the_rows_wide; equations_width = All-nil _; inequalities = the_rows_small 1 (omega arith); equations = All-nil _ })
    refl s h.1

pub one_variable : IsRegionWithinLimits 1 []
one_variable (region_errors.Empty ms) h = absurd (unrefuted 1 [] ms (All-nil _) (solved 1 [] (pos 1 ∷ []) (pos 1 ∷ []) (all_positive-region 1).root) h)
one_variable (region_errors.WideRoot i x) h =
    let r = h.1 in
    let is : r.0 ≡ pos 1 ∷ [] = r.1.sum ∙ ap (sum_of 1) (rays_are r.1.rays r.1.are_rays) in
    let inside : i < 1 = subst (λ (z : List ℤ). i < length z) is r.2.inside in
    let first : i ≡ 0 = omega (arith, inside) in
    let past : pos (2 ^ 63) ≤ℤ get_or (pos 1 ∷ []) i (pos 0) = subst (λ (z : List ℤ). pos (2 ^ 63) ≤ℤ get_or z i (pos 0)) is r.2.past in
    let high : pos (2 ^ 63) ≤ℤ pos 1 = subst (λ (k : ℕ). pos (2 ^ 63) ≤ℤ get_or (pos 1 ∷ []) k (pos 0)) first past in
    absurd (omega (arith, ints, high))
one_variable (region_errors.Cone s) h = absurd (no_step s h)
one_variable (region_errors.Wide w) h = absurd (at (subst (λ (z : List (List ℤ)). IsFirstWide w (adding_steps (zeros 1) z)) (rays_are h.1.0 h.1.1) h.1.2))
  where
    at : IsFirstWide w (adding_steps (zeros 1) the_row) → ⊥
    at (inl k) = absurd (let wide : 2 ^ 127 ≤ unsigned_abs (pos 0 +ℤ pos 1) = subst IsWide (sym k.0) k.1 in omega (arith, ints, wide))
    at (inr k) = k.1
one_variable region_errors.Memory h = refl
