-- Which points are as high as the highest one, and where, as marks show.
use Rattle.std.proofs.Common.{◌≡◌, ◌≢◌, ℕ, ◌<◌, List, [], ◌∷◌, length, map, get_or, ℤ, pos, arith, sym, ap, ◌∙◌, subst}
use Rattle.std.proofs.Common.{Contains, All, inl, inr}
use Rattle.std.specs.List.{AllZip}
use Rattle.std.proofs.lemmas.Int.{ints}
use Rattle.std.proofs.lemmas.List.{length-map}
use Rattle.gf_int_theory.proofs.ListLaws.{Contains-here, all_by}
use Rattle.gf_vec.specs.Vector.{dot}
use Rattle.gf_gordan.specs.Alternative.{AreRows}
use Rattle.gf_duality_theory.specs.Faces.{IsInCone}
use Rattle.gf_duality_theory.proofs.ListLaws.{none_in, in_cons, zip_to, zip_from}
use Rattle.gf_fans_theory.proofs.PartNumbers.{in_map, of_map}
use Rattle.gf_patterns_theory.specs.PatternRows.{point_at}
use Rattle.gf_rays.specs.Cones.{RowsAndRays, rows_of}
use Rattle.gf_levels_theory.specs.Parts.{IsTopOn, IsTiePart, AreTieParts}
use Rattle.gf_levels_theory.proofs.ProductLaws.{below_on, tied_too}
use Rattle.gf_cuts.specs.Heights.{HasItsRays, generators_of, table, row_at, IsThinned, AreIndicesBut, AreMarks, AreMarkRows, AreZero}
use Rattle.gf_cuts.proofs.MarkLaws.{tied_where, all_tied}
use Rattle.gf_cuts.proofs.HeightLaws.{height_at, height_index, table_row, table_long, same_width, thinned_as}

-- the heights of two points at a vector that generates the cone, and what marks say of them
pub tied_at : (c : RowsAndRays) (A : List (List ℤ)) (top x : ℕ) (z : List ℤ) → top < length A → x < length A → (k : Contains (generators_of c) z) →
    dot (point_at A top) z ≡ dot (point_at A x) z → get_or (row_at (table c A) top) k.0 (pos 0) ≡ get_or (row_at (table c A) x) k.0 (pos 0)
tied_at c A top x z lt lx k e =
    ap (λ s. get_or s k.0 (pos 0)) (table_row c A top lt) ∙ height_at (generators_of c) (point_at A top) z k ∙ e
    ∙ sym (height_at (generators_of c) (point_at A x) z k) ∙ ap (λ s. get_or s k.0 (pos 0)) (sym (table_row c A x lx))

pub at_tied : (c : RowsAndRays) (A : List (List ℤ)) (top x : ℕ) (z : List ℤ) → top < length A → x < length A → (k : Contains (generators_of c) z) →
    get_or (row_at (table c A) top) k.0 (pos 0) ≡ get_or (row_at (table c A) x) k.0 (pos 0) → dot (point_at A top) z ≡ dot (point_at A x) z
at_tied c A top x z lt lx k e =
    sym (height_at (generators_of c) (point_at A top) z k) ∙ ap (λ s. get_or s k.0 (pos 0)) (sym (table_row c A top lt)) ∙ e
    ∙ ap (λ s. get_or s k.0 (pos 0)) (table_row c A x lx) ∙ height_at (generators_of c) (point_at A x) z k

at_index : (c : RowsAndRays) (A : List (List ℤ)) (top : ℕ) (z : List ℤ) → top < length A → (k : Contains (generators_of c) z) →
    k.0 < length (row_at (table c A) top)
at_index c A top z lt k = subst (λ s. k.0 < length s) (sym (table_row c A top lt)) (height_index (generators_of c) (point_at A top) z k)

-- what is known of the parts of a cone: the marks of the points against the highest one, and thinned indices
pub record AreMarked (c : RowsAndRays) (A rows marks : List (List ℤ)) (top count : ℕ) (others kept : List ℕ) : Type 0 where
  pub are_rays : HasItsRays c
  pub wide : AreRows c.ambient A
  pub inside : top < length A
  pub highest : IsTopOn c.ambient A top (rows_of c)
  pub rows_are : rows ≡ table c A
  pub marks_are : AreMarkRows rows top marks
  pub count_is : count ≡ length A
  pub others_are : AreIndicesBut count top others
  pub thinned : IsThinned marks others kept

-- as it was found
pub marked_of : (c : RowsAndRays) (A rows marks read : List (List ℤ)) (top count : ℕ) (others given kept : List ℕ) → HasItsRays c → AreRows c.ambient A →
    top < length A → IsTopOn c.ambient A top (rows_of c) → rows ≡ table c A → AreMarkRows rows top marks → count ≡ length A → AreIndicesBut count top others →
    read ≡ marks → given ≡ others → IsThinned read given kept → AreMarked c A rows marks top count others kept
marked_of c A rows marks read top count others given kept r w l highest e m q o f g t = record {
  are_rays = r;
  wide = w;
  inside = l;
  highest = highest;
  rows_are = e;
  marks_are = m;
  count_is = q;
  others_are = o;
  thinned = thinned_as read marks given others kept f g t;
}

pub kept_inside : (c : RowsAndRays) (A rows marks : List (List ℤ)) (top count : ℕ) (others kept : List ℕ) → AreMarked c A rows marks top count others kept →
    (y : ℕ) → Contains kept y → (y < length A) × (y ≢ top)
kept_inside c A rows marks top count others kept m y k =
    let o = m.others_are.each y (m.thinned.each y k) in
    let l = o.0 in let e = m.count_is in
    (omega (arith, l, e), o.1)

marked_row : (c : RowsAndRays) (A rows marks : List (List ℤ)) (top count : ℕ) (others kept : List ℕ) → AreMarked c A rows marks top count others kept →
    (x : ℕ) → x < length A → AreMarks (row_at (table c A) top) (row_at (table c A) x) (row_at marks x)
marked_row c A rows marks top count others kept m x l =
    subst (λ z. AreMarks (row_at z top) (row_at z x) (row_at marks x)) m.rows_are
    (m.marks_are.each x (let e = ap length m.rows_are ∙ table_long c A in omega (arith, l, e)))

-- for each other index one that is kept, whose point is as high as the highest one wherever that of the index is
pub kept_for : (c : RowsAndRays) (A rows marks : List (List ℤ)) (top count : ℕ) (others kept : List ℕ) → AreMarked c A rows marks top count others kept →
    (x : ℕ) → x < length A → x ≢ top → (y : ℕ) × (Contains kept y × ((v : List ℤ) → length v ≡ c.ambient → IsInCone (rows_of c) v →
    dot (point_at A x) v ≡ dot (point_at A top) v → dot (point_at A y) v ≡ dot (point_at A top) v))
kept_for c A rows marks top count others kept m x lx o =
    let k = m.thinned.every x (m.others_are.every x (let e = m.count_is in omega (arith, lx, e)) o) in
    let y : ℕ = k.0 in
    let ly = (kept_inside c A rows marks top count others kept m y k.1.0).0 in
    let mx = marked_row c A rows marks top count others kept m x lx in
    let my = marked_row c A rows marks top count others kept m y ly in (
      y,
      (
        k.1.0,
        λ v lv iv e. tied_too c.ambient (rows_of c) c.lineality c.rays A top x y v m.are_rays m.wide m.inside lx ly m.highest
            (λ z kz q. at_tied c A top y z m.inside ly kz
            (tied_where (row_at (table c A) top) (row_at (table c A) x) (row_at (table c A) y) (row_at marks x) (row_at marks y) kz.0 mx my k.1.1
            (at_index c A top z m.inside kz) (tied_at c A top x z m.inside lx kz q))) lv iv e,
      ),
    )

-- where all marks of one point are zero, it is as high as the highest one on all of the cone
pub whole_tied : (c : RowsAndRays) (A rows marks : List (List ℤ)) (top count : ℕ) (others kept : List ℕ) → AreMarked c A rows marks top count others kept →
    (y : ℕ) → Contains kept y → AreZero (row_at marks y) →
    (v : List ℤ) → length v ≡ c.ambient → IsInCone (rows_of c) v → dot (point_at A y) v ≡ dot (point_at A top) v
whole_tied c A rows marks top count others kept m y ky f v lv iv =
    let ly = (kept_inside c A rows marks top count others kept m y ky).0 in
    let my = marked_row c A rows marks top count others kept m y ly in
    let same : (z : List ℤ) → Contains (generators_of c) z → dot (point_at A top) z ≡ dot (point_at A y) z = λ z kz.
    at_tied c A top y z m.inside ly kz (all_tied (row_at (table c A) top) (row_at (table c A) y) (row_at marks y) kz.0 my f (at_index c A top z m.inside kz)) in
    let e = same_width c.ambient A top y m.wide m.inside ly in
    let p = below_on c.ambient (rows_of c) c.lineality c.rays (point_at A top) (point_at A y) v m.are_rays e
    (λ z kz. let q = same z kz in omega (arith, ints, q)) lv iv in
    let q = below_on c.ambient (rows_of c) c.lineality c.rays (point_at A y) (point_at A top) v m.are_rays (sym e)
    (λ z kz. let q = same z kz in omega (arith, ints, q)) lv iv in
    omega (arith, ints, p, q)

-- the parts at the indices that are kept
pub kept_parts : (c : RowsAndRays) (A rows marks : List (List ℤ)) (top count : ℕ) (others kept : List ℕ) (out : List RowsAndRays) →
    AreMarked c A rows marks top count others kept →
    AllZip (λ (x : ℕ) (p : RowsAndRays). IsTiePart c.ambient A top x (rows_of c) (rows_of p)) kept out →
    AreTieParts c.ambient A top (rows_of c) (map rows_of out)
kept_parts c A rows marks top count others kept out m zip =
    let Is : ℕ → RowsAndRays → Type 0 = λ x p. IsTiePart c.ambient A top x (rows_of c) (rows_of p) in
    record {
      each = λ p k.
          let o = of_map rows_of out p k in
          let x = zip_from Is kept out o.0 zip o.1.0 in
          let i = kept_inside c A rows marks top count others kept m x.0 x.1.0 in
          (x.0, (i.0, i.1, subst (IsTiePart c.ambient A top x.0 (rows_of c)) o.1.1 x.1.1));
      every = λ x lx o.
          let y = kept_for c A rows marks top count others kept m x lx o in
          let p = zip_to Is kept out y.0 zip y.1.0 in
          (rows_of p.0, (in_map rows_of out p.0 p.1.0, λ v lv iv e. (p.1.1 v lv).1 (iv, y.1.1 v lv iv e)));
    }

-- the cone itself, where one point is as high on all of it
pub whole_part : (c : RowsAndRays) (A rows marks : List (List ℤ)) (top count : ℕ) (others kept : List ℕ) (y : ℕ) (out : List RowsAndRays) →
    AreMarked c A rows marks top count others kept → Contains kept y →
    AreZero (row_at marks y) → out ≡ c ∷ [] →
    AreTieParts c.ambient A top (rows_of c) (map rows_of out)
whole_part c A rows marks top count others kept y out m ky f e =
    let i = kept_inside c A rows marks top count others kept m y ky in
    subst (λ z. AreTieParts c.ambient A top (rows_of c) (map rows_of z)) (sym e) (record {
      each = λ p k. elim (in_cons (rows_of c) [] p k) [
        | inl q ↦ (
          y,
          (
            i.0,
            i.1,
            subst (IsTiePart c.ambient A top y (rows_of c)) (sym q)
                (λ v lv. (λ s. (s, whole_tied c A rows marks top count others kept m y ky f v lv s), λ s. s.0)),
          ),
        )
        | inr o ↦ absurd (none_in p o)
      ];
      every = λ x lx o. (rows_of c, (Contains-here (rows_of c) [], λ v lv iv q. iv));
    })

-- ---- the lengths of rows and marks

-- the rows of a table have one length
pub even_rows : (c : RowsAndRays) (A rows : List (List ℤ)) (x y : ℕ) → x < length A → y < length A → rows ≡ table c A →
    length (row_at rows x) ≡ length (row_at rows y)
even_rows c A rows x y lx ly e =
    let long : (z : ℕ) → z < length A → length (row_at rows z) ≡ length (generators_of c) = λ z l.
    ap length (ap (λ s. row_at s z) e ∙ table_row c A z l) ∙ length-map (generators_of c) (dot (point_at A z)) in
    long x lx ∙ sym (long y ly)

pub rows_long : (c : RowsAndRays) (A rows : List (List ℤ)) → rows ≡ table c A → length rows ≡ length A
rows_long c A rows e = ap length e ∙ table_long c A

-- other indices are indices of marks
pub others_inside : (rows marks : List (List ℤ)) (top count : ℕ) (others : List ℕ) → AreMarkRows rows top marks → count ≡ length rows →
    AreIndicesBut count top others → All (λ x. x < length marks) others
others_inside rows marks top count others m e o = all_by (λ x. x < length marks) others (λ x k.
    let l = (o.each x k).0 in
    let q = m.long in
    omega (arith, l, e, q))

pub kept_points : (c : RowsAndRays) (A rows marks : List (List ℤ)) (top count : ℕ) (others kept : List ℕ) → AreMarked c A rows marks top count others kept →
    All (λ x. x < length A) kept
kept_points c A rows marks top count others kept m = all_by (λ x. x < length A) kept (λ x k. (kept_inside c A rows marks top count others kept m x k).0)

pub kept_marks : (c : RowsAndRays) (A rows marks : List (List ℤ)) (top count : ℕ) (others kept : List ℕ) → AreMarked c A rows marks top count others kept →
    All (λ x. x < length marks) kept
kept_marks c A rows marks top count others kept m = all_by (λ x. x < length marks) kept (λ x k.
    let l = (kept_inside c A rows marks top count others kept m x k).0 in
    let q = m.marks_are.long in
    let e = rows_long c A rows m.rows_are in
    omega (arith, l, q, e))
