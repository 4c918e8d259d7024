-- Products with what generates a cone, and what holds on all of it.
use Rattle.std.proofs.Common.{◌≡◌, ℕ, ◌<◌, List, [], ◌++◌, length, map, get_or, ℤ, pos, negsuc, ◌≤ℤ◌, arith, sym, ap, ◌∙◌, subst, Contains, All, inl, inr}
use Rattle.std.proofs.lemmas.Int.{ints}
use Rattle.std.proofs.lemmas.List.{get_or-map, length-map}
use Rattle.std.proofs.lemmas.List.Elements.{All-contains, Contains-append_cases}
use Rattle.gf_int_theory.proofs.ListLaws.{all_by}
use Rattle.gf_vec.specs.Vector.{dot, opposite}
use Rattle.gf_vec.proofs.VectorLaws.{length-times}
use Rattle.gf_gordan.specs.Alternative.{AreRows}
use Rattle.gf_fans_theory.proofs.PartNumbers.{of_map}
use Rattle.gf_patterns_theory.specs.PatternRows.{point_at}
use Rattle.gf_rays.specs.Cones.{RowsAndRays, rows_of}
use Rattle.gf_levels_theory.specs.Parts.{AreTops}
use Rattle.gf_levels_theory.proofs.ProductLaws.{below_on}
use Rattle.gf_cuts.specs.Heights.{HasItsRays, generators_of, heights, table, IsBelow, row_at, IsThinned}

-- what generates the cone is as long as its rows
pub generators_wide : (c : RowsAndRays) → HasItsRays c → AreRows c.ambient (generators_of c)
generators_wide c r = all_by (λ t. length t ≡ c.ambient) (generators_of c) (λ x k.
    elim (Contains-append_cases c.rays (c.lineality ++ map opposite c.lineality) x k) [
      | inl i ↦ All-contains (λ t. length t ≡ c.ambient) c.rays x r.rays_width i
      | inr i ↦ elim (Contains-append_cases c.lineality (map opposite c.lineality) x i) [
        | inl j ↦ All-contains (λ t. length t ≡ c.ambient) c.lineality x r.lin_width j
        | inr j ↦
            let o = of_map opposite c.lineality x j in
            subst (λ (z : List ℤ). length z ≡ c.ambient) o.1.1
            (length-times (negsuc 0) o.0 ∙ All-contains (λ t. length t ≡ c.ambient) c.lineality o.0 r.lin_width o.1.0)
      ]
    ])

pub as_wide : (n : ℕ) (A xs : List (List ℤ)) (x : ℕ) (a : List ℤ) → a ≡ get_or A x a → x < length A → AreRows n A → AreRows n xs → AreRows (length a) xs
as_wide n A xs x a e l w g = subst (λ m. AreRows m xs) (sym (ap length e ∙ w x a l)) g

-- where the heights are
pub height_at : (xs : List (List ℤ)) (a x : List ℤ) → (k : Contains xs x) → get_or (heights xs a) k.0 (pos 0) ≡ dot a x
height_at xs a x k = get_or-map (dot a) xs k.0 x (pos 0) k.1 ∙ ap (dot a) k.2

pub height_index : (xs : List (List ℤ)) (a x : List ℤ) → (k : Contains xs x) → k.0 < length (heights xs a)
height_index xs a x k = let e = length-map xs (dot a) in let l = k.1 in omega (arith, e, l)

pub heights_below : (xs : List (List ℤ)) (a b x : List ℤ) → IsBelow (heights xs a) (heights xs b) → Contains xs x → dot a x ≤ℤ dot b x
heights_below xs a b x low k =
    let u = low.up k.0 (height_index xs a x k) in
    let p = height_at xs a x k in
    let q = height_at xs b x k in
    omega (arith, ints, u, p, q)

pub table_row : (c : RowsAndRays) (A : List (List ℤ)) (x : ℕ) → x < length A → row_at (table c A) x ≡ heights (generators_of c) (point_at A x)
table_row c A x l = get_or-map (heights (generators_of c)) A x [] [] l

pub table_long : (c : RowsAndRays) (A : List (List ℤ)) → length (table c A) ≡ length A
table_long c A = length-map A (heights (generators_of c))

pub same_width : (n : ℕ) (A : List (List ℤ)) (x y : ℕ) → AreRows n A → x < length A → y < length A → length (point_at A x) ≡ length (point_at A y)
same_width n A x y w l m = w x [] l ∙ sym (w y [] m)

-- thinned indices are those of points such that each one is nowhere above one of them
pub tops_of : (c : RowsAndRays) (A rows : List (List ℤ)) (count : ℕ) (all tops : List ℕ) → HasItsRays c → AreRows c.ambient A → rows ≡ table c A →
    count ≡ length rows → All (λ x. x < count) all → ((k : ℕ) → k < count → Contains all k) → IsThinned rows all tops → AreTops c.ambient A (rows_of c) tops
tops_of c A rows count all tops r w e m below every t x l =
    let long : length rows ≡ length A = ap length e ∙ table_long c A in
    let k = every x (omega (arith, l, long, m)) in
    let y = t.every x k in
    let b : y.0 < count = All-contains (λ x. x < count) all y.0 below (t.each y.0 y.1.0) in
    let ly : y.0 < length A = omega (arith, b, long, m) in
    let low : IsBelow (heights (generators_of c) (point_at A x)) (heights (generators_of c) (point_at A y.0)) =
    subst (λ z. IsBelow z (heights (generators_of c) (point_at A y.0))) (table_row c A x l)
    (subst (IsBelow (row_at (table c A) x)) (table_row c A y.0 ly) (subst (λ z. IsBelow (row_at z x) (row_at z y.0)) e y.1.1)) in (
      y.0,
      (
        y.1.0,
        λ v lv iv. below_on c.ambient (rows_of c) c.lineality c.rays (point_at A x) (point_at A y.0) v r (same_width c.ambient A x y.0 w l ly)
            (λ z kz. heights_below (generators_of c) (point_at A x) (point_at A y.0) z low kz) lv iv,
      ),
    )

pub tops_inside : (c : RowsAndRays) (A rows : List (List ℤ)) (count : ℕ) (all tops : List ℕ) → rows ≡ table c A → count ≡ length rows →
    All (λ x. x < count) all → IsThinned rows all tops → All (λ x. x < length A) tops
tops_inside c A rows count all tops e m below t =
    let long : length rows ≡ length A = ap length e ∙ table_long c A in
    all_by (λ x. x < length A) tops (λ y k.
    let b : y < count = All-contains (λ x. x < count) all y below (t.each y k) in
    omega (arith, b, long, m))

pub thinned_as : (read rows : List (List ℤ)) (given all tops : List ℕ) → read ≡ rows → given ≡ all → IsThinned read given tops → IsThinned rows all tops
thinned_as read rows given all tops e f t = subst (λ z. IsThinned z all tops) e (subst (λ z. IsThinned read z tops) f t)

pub same_map : (read xs : List (List ℤ)) (a out : List ℤ) → read ≡ xs → out ≡ heights read a → out ≡ heights xs a
same_map read xs a out e f = f ∙ ap (λ z. heights z a) e
