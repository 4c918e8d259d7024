-- The rows of a cone that is given by inequalities and equations: no more than these come to, and no larger.
-- To cite: fewer_rows, given_long, IsBounded, AreBounded, given_bounded, rows_bounded, rows_positive, rows_few, units_bounded, cut_bounded, unit_one,
-- length_units, small_system. The rest are steps.
use Rattle.std.proofs.Common.{◌≡◌, ℕ, zero, suc, ◌+◌, ◌<◌, ◌≤◌, Bool, true, false, List, [], ◌∷◌, length, length-append, get_or, remove, flat_map}
use Rattle.std.proofs.Common.{◌*◌, ℤ, pos, negsuc, ◌<ℤ◌, unsigned_abs, arith, refl, sym, ap, ◌∙◌, subst, inl, inr, All, Contains}
use Rattle.std.specs.Ordering.{int_cmp}
use Rattle.std.specs.Cmp.Lexicographic.{slice_cmp}
use Rattle.std.specs.declared.cmp.Ordering.TheVariants.{Less}
use Rattle.std.proofs.lemmas.Int.{ints}
use Rattle.std.proofs.lemmas.List.{get_or_default}
use Rattle.std.proofs.lemmas.List.Edits.{length-remove}
use Rattle.std.proofs.lemmas.List.Elements.{Contains-append_cases}
use Rattle.gf_int_theory.specs.Content.{scaled}
use Rattle.gf_int_theory.proofs.ContentLaws.{IsContent-same}
use Rattle.gf_int_theory.proofs.ListLaws.{Contains-here, all_by}
use Rattle.gf_int_theory.proofs.SignLaws.{0<-cancel}
use Rattle.gf_vec.specs.Vector.{dot, opposite}
use Rattle.gf_vec.specs.Primitive.{IsPrimitivePart}
use Rattle.gf_vec.proofs.VectorLaws.{dot-times, length-times}
use Rattle.gf_vec.proofs.PrimitiveLaws.{times_cancel}
use Rattle.gf_gordan.specs.Alternative.{AreRows}
use Rattle.gf_gordan.specs.Sizes.{HaveEntriesUpTo}
use Rattle.gf_gordan.proofs.SizeLaws.{UpTo, up_weaker, up_times, up_divided, up_zeros}
use Rattle.gf_duality_theory.proofs.ListLaws.{none_in, in_tail, in_cons, in_rest}
use Rattle.gf_duality_theory.proofs.Determined.{less_never}
use Rattle.gf_rays.specs.Limits.{IsSmallSystem}
use Rattle.gf_facets_theory.specs.Systems.{unit, units}
use Rattle.gf_facets_theory.proofs.UnitLaws.{length-unit, unit_of}
use Rattle.gf_sections.specs.ConeRows.{AreAscending, AreConeRows, both_sides, given_rows}
use Rattle.gfan_fans.specs.ToPolyhedralFan.{inequalities_of}

-- ---- primitive parts

-- there is one of a vector
part_once : (x s t : List ℤ) → IsPrimitivePart x s → IsPrimitivePart x t → s ≡ t
part_once x s t p q =
    let e : unsigned_abs p.0 ≡ unsigned_abs q.0 = IsContent-same x (unsigned_abs p.0) (unsigned_abs q.0) p.1.content q.1.content in
    let a = p.1.positive in
    let b = q.1.positive in
    let same : p.0 ≡ q.0 = omega (arith, ints, e, a, b) in
    times_cancel q.0 s t b (ap (λ (c : ℤ). scaled c s) (sym same) ∙ p.1.multiple ∙ sym q.1.multiple)

-- ---- no more rows than given

pub fewer_rows : (given rows : List (List ℤ)) → AreAscending rows → ((t : List ℤ) → Contains rows t → (x : List ℤ) × Contains given x × IsPrimitivePart x t) →
    length rows ≤ length given
fewer_rows given [] up from = omega arith
fewer_rows given (t ∷ ts) up from =
    let o = from t (Contains-here t ts) in
    let i : ℕ = o.1.0 in
    let later : (s : List ℤ) → Contains ts s → slice_cmp int_cmp t s ≡ Less =
    λ s c. subst (λ (z : List ℤ). slice_cmp int_cmp t z ≡ Less) c.2 (up 0 (suc c.0) s (omega arith) (let l = c.1 in omega (arith, l))) in
    let rest : (s : List ℤ) → Contains ts s → (x : List ℤ) × Contains (remove given i) x × IsPrimitivePart x s =
    λ s c. (let p = from s (in_tail t ts s c) in (p.0, other i o.1.1 s p (λ e. apart s c (later s c) p e), p.2)) in
    let few = fewer_rows (remove given i) ts (λ j k d h l. up (suc j) (suc k) d (omega (arith, h)) (omega (arith, l))) rest in
    let long = length-remove given i o.1.1 in
    omega (arith, few, long)
  where
    -- the same vector doesn't give two rows
    apart : (s : List ℤ) → Contains ts s → slice_cmp int_cmp t s ≡ Less → (p : (x : List ℤ) × Contains given x × IsPrimitivePart x s) →
        (from t (Contains-here t ts)).1.0 ≡ p.1.0 → ⊥
    apart s c l p e =
        let o = from t (Contains-here t ts) in
        let one : o.0 ≡ p.0 =
        sym o.1.2 ∙ sym (get_or_default given o.1.0 p.0 o.0 o.1.1) ∙ ap (λ (j : ℕ). get_or given j p.0) e ∙ p.1.2 in
        let same : t ≡ s = part_once p.0 t s (subst (λ (z : List ℤ). IsPrimitivePart z t) one o.2) p.2 in
        let m : slice_cmp int_cmp s s ≡ Less = subst (λ (z : List ℤ). slice_cmp int_cmp z s ≡ Less) same l in
        less_never s s m m

    other : (i : ℕ) → i < length given → (s : List ℤ) (p : (x : List ℤ) × Contains given x × IsPrimitivePart x s) → (i ≡ p.1.0 → ⊥) →
        Contains (remove given i) p.0
    other i l s p n = subst (Contains (remove given i)) (p.1.2) (in_rest given i p.1.0 p.0 l p.1.1 n)

-- ---- how many are given

sides_long : (es : List (List ℤ)) → length (flat_map both_sides es) ≡ length es + length es
sides_long [] = refl
sides_long (e ∷ es) = let k = sides_long es in omega (arith, k)

pub given_long : (hs es : List (List ℤ)) → length (given_rows hs es) ≡ length hs + (length es + length es)
given_long hs es = length-append hs (flat_map both_sides es) ∙ ap (λ (k : ℕ). length hs + k) (sides_long es)

-- ---- how large they are

-- a vector of n entries up to b
pub record IsBounded (n b : ℕ) (x : List ℤ) : Type 0 where
  pub long : length x ≡ n
  pub up : UpTo b x

abbrev pub AreBounded : ℕ → ℕ → List (List ℤ) → Type 0
AreBounded n b xs = (x : List ℤ) → Contains xs x → IsBounded n b x

opposite_bounded : (n b : ℕ) (x : List ℤ) → IsBounded n b x → IsBounded n b (opposite x)
opposite_bounded n b x h = record {
  long = length-times (negsuc 0) x ∙ h.long;
  up = up_weaker (1 * b) b (opposite x) (omega arith) (up_times (negsuc 0) 1 b x (omega (arith, ints)) h.up);
}

sides_bounded : (n b : ℕ) (es : List (List ℤ)) → AreBounded n b es → AreBounded n b (flat_map both_sides es)
sides_bounded n b [] h x c = absurd (none_in x c)
sides_bounded n b (e ∷ es) h x c = elim (in_cons e (opposite e ∷ flat_map both_sides es) x c) [
  | inl q ↦ subst (IsBounded n b) (sym q) (h e (Contains-here e es))
  | inr k ↦ elim (in_cons (opposite e) (flat_map both_sides es) x k) [
    | inl q ↦ subst (IsBounded n b) (sym q) (opposite_bounded n b e (h e (Contains-here e es)))
    | inr m ↦ sides_bounded n b es (λ y d. h y (in_tail e es y d)) x m
  ]
]

pub given_bounded : (n b : ℕ) (hs es : List (List ℤ)) → AreBounded n b hs → AreBounded n b es → AreBounded n b (given_rows hs es)
given_bounded n b hs es h k x c = elim (Contains-append_cases hs (flat_map both_sides es) x c) [ inl i ↦ h x i | inr i ↦ sides_bounded n b es k x i ]

-- the rows of the cone
pub rows_bounded : (n b : ℕ) (given rows : List (List ℤ)) → AreConeRows given rows → AreBounded n b given → AreBounded n b rows
rows_bounded n b given rows are h t c =
    let o = are.primitive.each t c in
    let p = h o.0 o.1 in
    record {
      long = sym (length-times o.3.0 t) ∙ ap length o.3.1.multiple ∙ p.long;
      up = up_divided b o.0 t o.3.0 o.3.1 p.up;
    }

-- where a vector makes what is given positive, it makes the rows positive
pub rows_positive : (given rows : List (List ℤ)) (w : List ℤ) → AreConeRows given rows → ((x : List ℤ) → Contains given x → pos 0 <ℤ dot x w) → (t : List ℤ) →
    Contains rows t → pos 0 <ℤ dot t w
rows_positive given rows w are up t c =
    let o = are.primitive.each t c in
    0<-cancel o.3.0 (dot t w) o.3.1.positive
    (subst (λ (z : ℤ). pos 0 <ℤ z) (sym (ap (λ (v : List ℤ). dot v w) o.3.1.multiple) ∙ dot-times o.3.0 t w) (up o.0 o.1))

pub rows_few : (given rows : List (List ℤ)) → AreConeRows given rows → length rows ≤ length given
rows_few given rows are = fewer_rows given rows are.ascending (λ t c. let o = are.primitive.each t c in (o.0, o.1, o.3))

-- ---- the unit vectors

unit_up : (n i : ℕ) → UpTo 1 (unit n i)
unit_up n i = record { at = at n i }
  where
    at : (n i j : ℕ) → unsigned_abs (get_or (unit n i) j (pos 0)) ≤ 1
    at zero i j = omega arith
    at (suc n) zero zero = omega arith
    at (suc n) zero (suc j) = let p = (up_zeros 0 n).at j in omega (arith, p)
    at (suc n) (suc i) zero = omega arith
    at (suc n) (suc i) (suc j) = at n i j

pub units_bounded : (n b : ℕ) → 1 ≤ b → AreBounded n b (units n n)
units_bounded n b h x c =
    let u = unit_of n n x c in
    subst (IsBounded n b) (sym u.2) (record { long = length-unit n u.0; up = up_weaker 1 b (unit n u.0) h (unit_up n u.0) })

pub unit_one : (n i : ℕ) → i < n → get_or (unit n i) i (pos 0) ≡ pos 1
unit_one zero i l = absurd (omega (arith, l))
unit_one (suc n) zero l = refl
unit_one (suc n) (suc i) l = unit_one n i (omega (arith, l))

pub length_units : (n k : ℕ) → length (units n k) ≡ k
length_units n zero = refl
length_units n (suc k) = length-append (units n k) (unit n k ∷ []) ∙ (let p = length_units n k in omega (arith, p))

pub cut_bounded : (cut : Bool) (n b : ℕ) (hs : List (List ℤ)) → 1 ≤ b → AreBounded n b hs → AreBounded n b (inequalities_of cut n hs)
cut_bounded false n b hs h k x c = k x c
cut_bounded true n b hs h k x c = elim (Contains-append_cases hs (units n n) x c) [ inl i ↦ k x i | inr i ↦ units_bounded n b h x i ]

-- ---- as a system

pub small_system : (n b : ℕ) (rows es : List (List ℤ)) → AreBounded n b rows → AreBounded n b es →
    IsSmallSystem n b (record { inequalities = rows; equations = es })
small_system n b rows es h k = record {
  inequalities_width = wide rows h;
  equations_width = wide es k;
  inequalities = up rows h;
  equations = up es k;
}
  where
    wide : (xs : List (List ℤ)) → AreBounded n b xs → AreRows n xs
    wide xs m = all_by (λ t. length t ≡ n) xs (λ t c. (m t c).long)

    up : (xs : List (List ℤ)) → AreBounded n b xs → HaveEntriesUpTo b xs
    up xs m = all_by (All (λ x. unsigned_abs x ≤ b)) xs (λ t c i d l. subst (λ (z : ℤ). unsigned_abs z ≤ b) (get_or_default t i (pos 0) d l) ((m t c).up.at i))
