-- The part of a cone on which two points are equally high, by its rays.
use Rattle.std.proofs.Common.{◌≡◌, ◌≢◌, ℕ, ◌+◌, ◌<◌, ◌≤◌, List, [], ◌∷◌, ◌++◌, length, length-append, map, get_or, ℤ, pos, ◌-ℤ◌, ◌≤ℤ◌, arith, sym}
use Rattle.std.proofs.Common.{ap, ◌∙◌, subst, Contains, All, inl, inr}
use Rattle.std.proofs.lemmas.Int.{ints}
use Rattle.std.proofs.lemmas.List.{get_or_default, get_or_append_left, length-map}
use Rattle.std.proofs.lemmas.List.Elements.{Contains-append_left, Contains-append_right, Contains-append_cases, Contains-push}
use Rattle.std.proofs.lemmas.List.Quantifiers.{all_pairs_push}
use Rattle.gf_int_theory.proofs.ListLaws.{Contains-here, Contains-last, all_by}
use Rattle.gf_vec.specs.Vector.{dot, opposite}
use Rattle.gf_gordan.specs.Alternative.{AreRows}
use Rattle.gf_duality_theory.specs.Rays.{IsRays}
use Rattle.gf_duality_theory.specs.Faces.{Rows, IsInCone, SameCone, part}
use Rattle.gf_duality_theory.proofs.ListLaws.{none_in, in_cons, first_in, index, less, at, more}
use Rattle.gf_duality_theory.proofs.Determined.{same_rays_of}
use Rattle.gf_fans_theory.specs.FaceLists.{IsPartOn, numbered}
use Rattle.gf_fans_theory.proofs.FaceLaws.{face_rays}
use Rattle.gf_fans_theory.proofs.FanLaws.{is_in, up_in, zero_in, part_in, of_part, part_zero}
use Rattle.gf_fans_theory.proofs.PartNumbers.{at_number, of_number, numbered_ascends}
use Rattle.gf_patterns_theory.specs.PatternRows.{point_at}
use Rattle.gf_rays.specs.Cones.{RowsAndRays, rows_of}
use Rattle.gf_levels_theory.specs.Parts.{IsTopOn, IsTiePart}
use Rattle.gf_cuts.specs.Heights.{HasItsRays, generators_of, heights, table, row_at, AreTiedIndices}
use Rattle.gf_cuts.proofs.AboveLaws.{IsDifference}
use Rattle.gf_cuts.proofs.HeightLaws.{table_row, table_long}
use Rattle.gf_cuts.proofs.TieLaws.{at_tied, tied_at}

-- ---- indices at which two lists have the same entry, one index further

pub tied_none : (xs ys : List ℤ) → AreTiedIndices xs ys 0 []
tied_none xs ys = record {
  ascending = λ i j d h l. absurd (omega (arith, l));
  each = λ k c. absurd (none_in k c);
  every = λ k l e. absurd (omega (arith, l));
}

pub tied_left : (xs ys : List ℤ) (k : ℕ) (out : List ℕ) → get_or xs k (pos 0) ≢ get_or ys k (pos 0) → AreTiedIndices xs ys k out →
    AreTiedIndices xs ys (k + 1) out
tied_left xs ys k out d t = record {
  ascending = t.ascending;
  each = λ j c. let r = t.each j c in let l = r.0 in (omega (arith, l), r.1);
  every = λ j l e. elim (index k j) [
    | less g ↦ t.every j g e
    | at g ↦ absurd (d (subst (λ z. get_or xs z (pos 0) ≡ get_or ys z (pos 0)) (sym g) e))
    | more g ↦ absurd (omega (arith, g, l))
  ];
}

pub tied_more : (xs ys : List ℤ) (k : ℕ) (out new : List ℕ) → get_or xs k (pos 0) ≡ get_or ys k (pos 0) → new ≡ out ++ k ∷ [] →
    AreTiedIndices xs ys k out → AreTiedIndices xs ys (k + 1) new
tied_more xs ys k out new q n t = subst (AreTiedIndices xs ys (k + 1)) (sym n) (record {
  ascending = all_pairs_push (λ i j. i < j) out k t.ascending (λ i d l. (t.each (get_or out i d) (i, l, get_or_default out i (get_or out i d) d l)).0);
  each = λ j c. elim (Contains-last out k j c) [
    | inl i ↦ let r = t.each j i in let l = r.0 in (omega (arith, l), r.1)
    | inr e ↦ (omega (arith, e), subst (λ z. get_or xs z (pos 0) ≡ get_or ys z (pos 0)) (sym e) q)
  ];
  every = λ j l e. elim (index k j) [
    | less g ↦ first_in out k j (t.every j g e)
    | at g ↦ subst (Contains (out ++ k ∷ [])) g (Contains-push out k)
    | more g ↦ absurd (omega (arith, g, l))
  ];
})

-- ---- the rays at these indices

-- a ray has its index among what generates the cone
ray_inside : (c : RowsAndRays) (i : ℕ) → i < length c.rays → i < length (generators_of c)
ray_inside c i l = let e = length-append c.rays (c.lineality ++ map opposite c.lineality) in omega (arith, e, l)

ray_at : (c : RowsAndRays) (i : ℕ) (z : List ℤ) → i < length c.rays → get_or c.rays i z ≡ z → get_or (generators_of c) i z ≡ z
ray_at c i z l e = get_or_append_left c.rays (c.lineality ++ map opposite c.lineality) z i l ∙ e

same_zero : (a b h : ℤ) → h ≡ a -ℤ b → a ≡ b → h ≡ pos 0
same_zero a b h e q = omega (arith, ints, e, q)

zero_same : (a b h : ℤ) → h ≡ a -ℤ b → h ≡ pos 0 → a ≡ b
zero_same a b h e q = omega (arith, ints, e, q)

below_up : (a b h : ℤ) → h ≡ a -ℤ b → b ≤ℤ a → pos 0 ≤ℤ h
below_up a b h e l = omega (arith, ints, e, l)

only : (h s : List ℤ) (P : List ℤ → Type 0) → P h → Contains (h ∷ []) s → P s
only h s P p k = elim (in_cons h [] s k) [ inl q ↦ subst P (sym q) p | inr o ↦ absurd (none_in s o) ]

pub one_row : (n : ℕ) (h : List ℤ) → length h ≡ n → AreRows n (h ∷ [])
one_row n h e = all_by (λ t. length t ≡ n) (h ∷ []) (λ t k. only h t (λ (t : List ℤ). length t ≡ n) e k)

tied_part : (c : RowsAndRays) (A : List (List ℤ)) (top x : ℕ) (h : List ℤ) (indices : List ℕ) → HasItsRays c → top < length A → x < length A →
    IsDifference (point_at A top) (point_at A x) h → AreTiedIndices (row_at (table c A) top) (row_at (table c A) x) (length c.rays) indices →
    IsPartOn (h ∷ []) c.rays (numbered c.rays indices)
tied_part c A top x h indices r lt lx d t = record {
  ascending = numbered_ascends c.rays indices r.ascending
      (record { ascending = t.ascending; inside = all_by (λ i. i < length c.rays) indices (λ i k. (t.each i k).0) });
  each = λ z k.
      let o = of_number c.rays indices z k in
      let e = t.each o.0 o.1.0 in
      let y : List ℤ = get_or c.rays o.0 [] in
      let at_y : get_or c.rays o.0 y ≡ y = get_or_default c.rays o.0 y [] e.0 in
      let q = at_tied c A top x y lt lx (o.0, ray_inside c o.0 e.0, ray_at c o.0 y e.0 at_y) e.1 in
      let zero : dot h y ≡ pos 0 = same_zero (dot (point_at A top) y) (dot (point_at A x) y) (dot h y) (d.value y) q in (
        subst (Contains c.rays) o.1.1 (o.0, e.0, at_y),
        λ s ks.
            only h s (λ (s : List ℤ). dot s z ≡ pos 0) (subst (λ (w : List ℤ). dot h w ≡ pos 0) o.1.1 zero) ks,
      );
  every = λ z kz f.
      let e : get_or c.rays kz.0 [] ≡ z = get_or_default c.rays kz.0 [] z kz.1 ∙ kz.2 in
      let q = zero_same (dot (point_at A top) z) (dot (point_at A x) z) (dot h z) (d.value z) (f h (Contains-here h [])) in
      subst (Contains (numbered c.rays indices)) e (at_number c.rays indices kz.0 (t.every kz.0 kz.1 (tied_at c A top x z lt lx
      (kz.0, ray_inside c kz.0 kz.1, ray_at c kz.0 z kz.1 kz.2) q)));
}

-- the cone with a row more that is negative nowhere on it
abbrev with_row : RowsAndRays → List ℤ → Rows
with_row c h = record { inequalities = c.inequalities ++ h ∷ []; equations = c.equations }

row_up : (c : RowsAndRays) (A : List (List ℤ)) (top x : ℕ) (h v : List ℤ) → x < length A → IsTopOn c.ambient A top (rows_of c) →
    IsDifference (point_at A top) (point_at A x) h → length v ≡ c.ambient → IsInCone (rows_of c) v → pos 0 ≤ℤ dot h v
row_up c A top x h v lx highest d lv iv = below_up (dot (point_at A top) v) (dot (point_at A x) v) (dot h v) (d.value v)
    (highest v lv iv (point_at A x) (x, lx, get_or_default A x (point_at A x) [] lx))

into_row : (c : RowsAndRays) (h v : List ℤ) → IsInCone (rows_of c) v → pos 0 ≤ℤ dot h v → IsInCone (with_row c h) v
into_row c h v iv u = is_in (with_row c h) v
    (λ g k. elim (Contains-append_cases c.inequalities (h ∷ []) g k) [
      | inl i ↦ up_in (rows_of c) v g iv i
      | inr i ↦ only h g (λ (g : List ℤ). pos 0 ≤ℤ dot g v) u i
    ])
    (λ g k. zero_in (rows_of c) v g iv k)

out_of_row : (c : RowsAndRays) (h v : List ℤ) → IsInCone (with_row c h) v → IsInCone (rows_of c) v
out_of_row c h v iv = is_in (rows_of c) v (λ g k. up_in (with_row c h) v g iv (Contains-append_left c.inequalities (h ∷ []) g k))
    (λ g k. zero_in (with_row c h) v g iv k)

-- the part of a cone on which another point is as high as the highest one has the rays on which it is
pub tied_rays : (c : RowsAndRays) (A : List (List ℤ)) (top x : ℕ) (h : List ℤ) (indices : List ℕ) → HasItsRays c → top < length A → x < length A →
    IsTopOn c.ambient A top (rows_of c) → IsDifference (point_at A top) (point_at A x) h →
    AreTiedIndices (row_at (table c A) top) (row_at (table c A) x) (length c.rays) indices →
    IsRays c.ambient c.inequalities (c.equations ++ h ∷ []) c.lineality (numbered c.rays indices)
tied_rays c A top x h indices r lt lx highest d t =
    let n : ℕ = c.ambient in
    let e : Rows = with_row c h in
    let zero : List (List ℤ) = h ∷ [] in
    let whole : SameCone n (rows_of c) e = λ v lv. ((λ s. into_row c h v s (row_up c A top x h v lx highest d lv s)), λ s. out_of_row c h v s) in
    let face : IsRays n e.inequalities (c.equations ++ zero) c.lineality (numbered c.rays indices) =
    face_rays n e.inequalities c.equations c.lineality c.rays zero (numbered c.rays indices) (same_rays_of n (rows_of c) e c.lineality c.rays whole r)
    (λ s k. Contains-append_right c.inequalities zero s k) (tied_part c A top x h indices r lt lx d t) in
    let same : SameCone n (part e zero) (part (rows_of c) zero) = λ v lv. (
      (λ s. part_in (rows_of c) zero v (out_of_row c h v (of_part e zero v s)) (λ g k. part_zero e zero v g s k)),
      (λ s.
          let s_in = of_part (rows_of c) zero v s in
          part_in e zero v (into_row c h v s_in (row_up c A top x h v lx highest d lv s_in)) (λ g k. part_zero (rows_of c) zero v g s k)),
    ) in
    same_rays_of n (part e zero) (part (rows_of c) zero) c.lineality (numbered c.rays indices) same face

pub tied_inside : (xs ys : List ℤ) (count : ℕ) (indices : List ℕ) → AreTiedIndices xs ys count indices → All (λ i. i < count) indices
tied_inside xs ys count indices t = all_by (λ i. i < count) indices (λ i k. (t.each i k).0)

-- rows as they are read: at least as many entries as rays
pub rays_fit : (c : RowsAndRays) (A rows : List (List ℤ)) (x : ℕ) (a : List ℤ) → x < length A → rows ≡ table c A → a ≡ get_or rows x a →
    length c.rays ≤ length a
rays_fit c A rows x a l e f =
    let xs : List (List ℤ) = generators_of c in
    let long : length rows ≡ length A = ap length e ∙ table_long c A in
    let same : a ≡ heights xs (point_at A x) = f ∙ get_or_default rows x a [] (omega (arith, l, long)) ∙ ap (λ z. row_at z x) e ∙ table_row c A x l in
    let width : length a ≡ length xs = ap length same ∙ length-map xs (dot (point_at A x)) in
    let parts : length xs ≡ length c.rays + length (c.lineality ++ map opposite c.lineality) = length-append c.rays (c.lineality ++ map opposite c.lineality) in
    omega (arith, width, parts)

-- as they were found
pub tied_as : (c : RowsAndRays) (A rows : List (List ℤ)) (top x : ℕ) (a b : List ℤ) (count : ℕ) (indices : List ℕ) → top < length A → x < length A →
    rows ≡ table c A → a ≡ get_or rows top a → b ≡ get_or rows x b → count ≡ length c.rays → AreTiedIndices a b count indices →
    AreTiedIndices (row_at (table c A) top) (row_at (table c A) x) (length c.rays) indices
tied_as c A rows top x a b count indices lt lx e f g q t =
    let long : length rows ≡ length A = ap length e ∙ table_long c A in
    let first : a ≡ row_at (table c A) top = f ∙ get_or_default rows top a [] (omega (arith, lt, long)) ∙ ap (λ z. row_at z top) e in
    let second : b ≡ row_at (table c A) x = g ∙ get_or_default rows x b [] (omega (arith, lx, long)) ∙ ap (λ z. row_at z x) e in
    subst (λ z. AreTiedIndices z (row_at (table c A) x) (length c.rays) indices) first
    (subst (λ z. AreTiedIndices a z (length c.rays) indices) second (subst (λ k. AreTiedIndices a b k indices) q t))

-- ---- the part itself

pub tie_by : (n : ℕ) (A : List (List ℤ)) (top x : ℕ) (c p : Rows) (h : List ℤ) (zero : List (List ℤ)) → IsDifference (point_at A top) (point_at A x) h →
    zero ≡ h ∷ [] → p.inequalities ≡ c.inequalities → p.equations ≡ c.equations ++ zero → IsTiePart n A top x c p
tie_by n A top x c p h zero d s e f v lv =
    let q : p.equations ≡ c.equations ++ h ∷ [] = f ∙ ap (λ z. c.equations ++ z) s in (
      (λ i. (
        is_in c v (λ g k. up_in p v g i (subst (λ (z : List (List ℤ)). Contains z g) (sym e) k))
            (λ g k. zero_in p v g i (subst (λ (z : List (List ℤ)). Contains z g) (sym q) (Contains-append_left c.equations (h ∷ []) g k))),
        sym (zero_same (dot (point_at A top) v) (dot (point_at A x) v) (dot h v) (d.value v)
            (zero_in p v h i (subst (λ (z : List (List ℤ)). Contains z h) (sym q) (Contains-append_right c.equations (h ∷ []) h (Contains-here h []))))),
      )),
      (λ i. is_in p v (λ g k. up_in c v g i.0 (subst (λ (z : List (List ℤ)). Contains z g) e k))
          (λ g k. elim (Contains-append_cases c.equations (h ∷ []) g (subst (λ (z : List (List ℤ)). Contains z g) q k)) [
            | inl j ↦ zero_in c v g i.0 j
            | inr j ↦ only h g (λ (g : List ℤ). dot g v ≡ pos 0)
                (same_zero (dot (point_at A top) v) (dot (point_at A x) v) (dot h v) (d.value v) (sym i.1)) j
          ])),
    )
