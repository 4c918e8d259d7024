-- The points of vertices alone, and the cones of one or two of them.
use Rattle.std.proofs.Common.{◌≡◌, ◌≢◌, ℕ, zero, suc, ◌<◌, List, [], ◌∷◌, ◌++◌, length, get_or, ℤ, ◌≤ℤ◌, AllPairs, arith, sym, refl, ap, ◌∙◌, subst}
use Rattle.std.proofs.Common.{Contains, inl, inr}
use Rattle.std.proofs.lemmas.Int.{ints}
use Rattle.std.proofs.lemmas.List.{get_or-map, length-map, get_or_default}
use Rattle.std.proofs.lemmas.List.Elements.{Contains-append_left, Contains-append_right, Contains-append_cases, Contains-push}
use Rattle.gf_int_theory.proofs.ListLaws.{Contains-here, Contains-last, all_by}
use Rattle.gf_vec.specs.Vector.{dot}
use Rattle.gf_gordan.specs.Alternative.{AreRows, GordansAlternative}
use Rattle.gf_duality_theory.specs.Faces.{Rows, IsInCone, SameCone}
use Rattle.gf_duality_theory.proofs.ListLaws.{none_in, first_in, index, less, at, more}
use Rattle.gf_fans_theory.proofs.FanLaws.{of_part}
use Rattle.gf_fans_theory.proofs.PartNumbers.{of_map}
use Rattle.gf_patterns_theory.specs.Patterns.{HasPattern}
use Rattle.gf_patterns_theory.specs.PatternRows.{point_at, single_rows, pair_rows}
use Rattle.gf_patterns_theory.specs.PatternFans.{IsPrevarietyList, IsMinkowskiList}
use Rattle.gf_patterns_theory.specs.Vertices.{AreVertexCones, AreVertexPairCones}
use Rattle.gf_patterns_theory.proofs.ConeLaws.{single_is, pair_is}
use Rattle.gf_patterns_theory.proofs.PatternFanLaws.{hypersurface_list, minkowski_list}
use Rattle.gf_levels_theory.specs.declared.members.Members.{Members}
use Rattle.gf_levels_theory.specs.declared.members.Members.TheVariants.{One, Two}
use Rattle.gf_levels_theory.specs.Levels.{IsConeOf}
use Rattle.gf_levels_theory.specs.VertexPoints.{AreVertexPoints}

-- ---- lists of cones by numbers

record IsListOf (t : ℕ) (f : ℕ → Rows) : Type 0 where
  rows : List Rows
  each : (d : Rows) → Contains rows d → (i : ℕ) × ((i < t) × (d ≡ f i))
  every : (i : ℕ) → i < t → Contains rows (f i)

list_of : (t : ℕ) (f : ℕ → Rows) → IsListOf t f
list_of zero f = record { rows = []; each = λ d k. absurd (none_in d k); every = λ i l. absurd (omega (arith, l)) }
list_of (suc t) f =
    let r = list_of t f in
    record {
      rows = r.rows ++ f t ∷ [];
      each = λ d k. elim (Contains-last r.rows (f t) d k) [
        | inl j ↦ let x = r.each d j in let l = x.1.0 in (x.0, (omega (arith, l), x.1.1))
        | inr e ↦ (t, (omega arith, e))
      ];
      every = λ i l. elim (index t i) [
        | less g ↦ first_in r.rows (f t) (f i) (r.every i g)
        | at g ↦ subst (λ z. Contains (r.rows ++ f t ∷ []) (f z)) g (Contains-push r.rows (f t))
        | more g ↦ absurd (omega (arith, g, l))
      ];
    }

record IsPairListOf (t : ℕ) (f : ℕ → ℕ → Rows) : Type 0 where
  rows : List Rows
  each : (d : Rows) → Contains rows d → (i : ℕ) × (j : ℕ) × ((i < j) × (j < t) × (d ≡ f i j))
  every : (i j : ℕ) → i < j → j < t → Contains rows (f i j)

pairs_of : (t : ℕ) (f : ℕ → ℕ → Rows) → IsPairListOf t f
pairs_of zero f = record { rows = []; each = λ d k. absurd (none_in d k); every = λ i j l m. absurd (omega (arith, m)) }
pairs_of (suc t) f =
    let r = pairs_of t f in
    let s = list_of t (λ i. f i t) in
    record {
      rows = r.rows ++ s.rows;
      each = λ d k. elim (Contains-append_cases r.rows s.rows d k) [
        | inl j ↦ let x = r.each d j in let m = x.2.1 in (x.0, x.1, (x.2.0, omega (arith, m), x.2.2))
        | inr j ↦ let x = s.each d j in (x.0, t, (x.1.0, omega arith, x.1.1))
      ];
      every = λ i j l m. elim (index t j) [
        | less g ↦ Contains-append_left r.rows s.rows (f i j) (r.every i j l g)
        | at g ↦ subst (λ z. Contains (r.rows ++ s.rows) (f i z)) g (Contains-append_right r.rows s.rows (f i t) (s.every i (omega (arith, l, g))))
        | more g ↦ absurd (omega (arith, g, m))
      ];
    }

-- ---- some of the points

point_in : (A : List (List ℤ)) (x : ℕ) → x < length A → Contains A (point_at A x)
point_in A x l = (x, l, get_or_default A x (point_at A x) [] l)

of_all : (n : ℕ) (A B : List (List ℤ)) (b : List ℤ) → AreVertexPoints n A B → Contains B b → Contains A b
of_all n A B b p k =
    let o = of_map (point_at A) p.indices b (subst (λ z. Contains z b) p.are k) in
    subst (Contains A) o.1.1 (point_in A o.0 (p.inside o.0 o.1.0))

pub vertices_wide : (n : ℕ) (A B : List (List ℤ)) → AreRows n A → AreVertexPoints n A B → AreRows n B
vertices_wide n A B w p = all_by (λ t. length t ≡ n) B (λ t k. let c = of_all n A B t p k in ap length (sym c.2) ∙ w c.0 t c.1)

-- ---- the indices of the points

abbrev index_of : (n : ℕ) (A B : List (List ℤ)) → AreVertexPoints n A B → ℕ → ℕ
index_of n A B p i = get_or p.indices i 0

long_of : (n : ℕ) (A B : List (List ℤ)) (p : AreVertexPoints n A B) → length B ≡ length p.indices
long_of n A B p = ap length p.are ∙ length-map p.indices (point_at A)

index_in : (n : ℕ) (A B : List (List ℤ)) (p : AreVertexPoints n A B) (i : ℕ) → i < length B → Contains p.indices (index_of n A B p i)
index_in n A B p i l = let e = long_of n A B p in (i, omega (arith, l, e), get_or_default p.indices i (index_of n A B p i) 0 (omega (arith, l, e)))

at_index : (n : ℕ) (A B : List (List ℤ)) (p : AreVertexPoints n A B) (i : ℕ) → i < length B → point_at B i ≡ point_at A (index_of n A B p i)
at_index n A B p i l = let e = long_of n A B p in ap (λ z. point_at z i) p.are ∙ get_or-map (point_at A) p.indices i 0 [] (omega (arith, l, e))

index_below : (n : ℕ) (A B : List (List ℤ)) (p : AreVertexPoints n A B) (i : ℕ) → i < length B → index_of n A B p i < length A
index_below n A B p i l = p.inside (index_of n A B p i) (index_in n A B p i l)

indices_rise : (n : ℕ) (A B : List (List ℤ)) (p : AreVertexPoints n A B) (i j : ℕ) → i < j → j < length B → index_of n A B p i < index_of n A B p j
indices_rise n A B p i j l m = let e = long_of n A B p in p.ascending i j 0 l (omega (arith, m, e))

-- ---- they have the patterns of all points

pattern_down : (n : ℕ) (A B S : List (List ℤ)) (v : List ℤ) → AreVertexPoints n A B → HasPattern A S v → HasPattern B S v
pattern_down n A B S v p h s b ks kb = h s b ks (of_all n A B b p kb)

-- at each vector one of them is nowhere below any point: the cones of these points fill the space
abbrev AreReached : ℕ → List (List ℤ) → List (List ℤ) → Type 0
AreReached n A B = (v b : List ℤ) → length v ≡ n → Contains A b → (m : List ℤ) × (Contains B m × (dot b v ≤ℤ dot m v))

vertex_list : (n : ℕ) (A B : List (List ℤ)) (p : AreVertexPoints n A B) →
    AreVertexCones n A (list_of (length B) (λ i. single_rows A (index_of n A B p i))).rows
vertex_list n A B p =
    let r = list_of (length B) (λ i. single_rows A (index_of n A B p i)) in
    record {
      each = λ c k. let x = r.each c k in (index_of n A B p x.0, (index_below n A B p x.0 x.1.0, x.1.1));
      every = λ i l vi.
          let x = p.every i l vi in
          let long = long_of n A B p in
          let lx = x.1 in
          subst (λ z. Contains r.rows (single_rows A z)) (get_or_default p.indices x.0 0 i x.1 ∙ x.2) (r.every x.0 (omega (arith, lx, long)));
    }

reached : (n : ℕ) (A B : List (List ℤ)) → GordansAlternative → AreRows n A → AreVertexPoints n A B → AreReached n A B
reached n A B gordan w p v b lv kb =
    let r = list_of (length B) (λ i. single_rows A (index_of n A B p i)) in
    let fan = minkowski_list n A b r.rows gordan w kb (vertex_list n A B p) in
    let f = fan.patterns.every v lv tt in
    let face = f.1.0 in
    let iv : IsInCone f.0 v = (f.1.1 v lv).1 (λ C k s h. h) in
    let ic : IsInCone face.cone v = of_part face.cone face.face.0 v ((face.face.1.1 v lv).0 iv) in
    let x = r.each face.cone face.listed in
    let i : ℕ = x.0 in
    let own : IsInCone (single_rows A (index_of n A B p i)) v = subst (λ (z : Rows). IsInCone z v) x.1.1 ic in
    let a : List ℤ = point_at A (index_of n A B p i) in
    let has : HasPattern A (a ∷ []) v = ((single_is n A (index_of n A B p i) w (index_below n A B p i x.1.0)).same_as v lv).0 own in
    (a, (subst (Contains B) (at_index n A B p i x.1.0) (point_in B i x.1.0), has a b (Contains-here a []) kb))

pattern_up : (n : ℕ) (A B S : List (List ℤ)) (v : List ℤ) → AreReached n A B → length v ≡ n → HasPattern B S v → HasPattern A S v
pattern_up n A B S v top lv h s b ks kb =
    let m = top v b lv kb in
    let low = m.1.1 in
    let up = h s m.0 ks m.1.0 in
    omega (arith, ints, low, up)

single_same : (n : ℕ) (A B : List (List ℤ)) (p : AreVertexPoints n A B) (i : ℕ) → AreReached n A B → AreRows n A → i < length B →
    SameCone n (single_rows A (index_of n A B p i)) (single_rows B i)
single_same n A B p i top w l v lv =
    let k = index_of n A B p i in
    let e = at_index n A B p i l in
    let x = (single_is n A k w (index_below n A B p i l)).same_as v lv in
    let y = (single_is n B i (vertices_wide n A B w p) l).same_as v lv in (
      (λ s. y.1 (subst (λ (z : List ℤ). HasPattern B (z ∷ []) v) (sym e) (pattern_down n A B (point_at A k ∷ []) v p (x.0 s)))),
      (λ s. x.1 (pattern_up n A B (point_at A k ∷ []) v top lv (subst (λ (z : List ℤ). HasPattern B (z ∷ []) v) e (y.0 s)))),
    )

pair_same : (n : ℕ) (A B : List (List ℤ)) (p : AreVertexPoints n A B) (i j : ℕ) → AreReached n A B → AreRows n A → i < j → j < length B →
    SameCone n (pair_rows A (index_of n A B p i) (index_of n A B p j)) (pair_rows B i j)
pair_same n A B p i j top w l m v lv =
    let h = index_of n A B p i in
    let k = index_of n A B p j in
    let e = at_index n A B p i (omega (arith, l, m)) in
    let f = at_index n A B p j m in
    let x = (pair_is n A h k w (indices_rise n A B p i j l m) (index_below n A B p j m)).same_as v lv in
    let y = (pair_is n B i j (vertices_wide n A B w p) l m).same_as v lv in
    let S : List (List ℤ) = point_at A h ∷ point_at A k ∷ [] in (
      (λ s. y.1 (subst (λ (z : List ℤ). HasPattern B (z ∷ point_at B j ∷ []) v) (sym e)
          (subst (λ (z : List ℤ). HasPattern B (point_at A h ∷ z ∷ []) v) (sym f) (pattern_down n A B S v p (x.0 s))))),
      (λ s. x.1 (pattern_up n A B S v top lv (subst (λ (z : List ℤ). HasPattern B (point_at A h ∷ z ∷ []) v) f
          (subst (λ (z : List ℤ). HasPattern B (z ∷ point_at B j ∷ []) v) e (y.0 s))))),
    )

-- cones of all points, each of them the same as one of the cones of these points
pub record AreConesOver (members : Members) (n : ℕ) (B : List (List ℤ)) (cones : List Rows) : Type 0 where
  pub to : (d : Rows) → Contains cones d → (e : Rows) × (IsConeOf members B e × SameCone n d e)
  pub from : (e : Rows) → IsConeOf members B e → (d : Rows) × (Contains cones d × SameCone n d e)

pub pairs_over : (n : ℕ) (A B : List (List ℤ)) → GordansAlternative → AreRows n A → AllPairs (λ x y. x ≢ y) A → AreVertexPoints n A B →
    (cones : List Rows) × (IsPrevarietyList n (A ∷ []) cones × AreConesOver Two n B cones)
pairs_over n A B gordan w different p =
    let at_ : ℕ → ℕ = index_of n A B p in
    let r = pairs_of (length B) (λ i j. pair_rows A (at_ i) (at_ j)) in
    let vertices : AreVertexPairCones n A r.rows = record {
      each = λ c k. let x = r.each c k in (at_ x.0, at_ x.1, (indices_rise n A B p x.0 x.1 x.2.0 x.2.1, index_below n A B p x.1 x.2.1, x.2.2));
      every = λ i j l m vi vj.
          let x = p.every i (omega (arith, l, m)) vi in
          let y = p.every j m vj in
          let long = long_of n A B p in
          let lx = x.1 in
          let ly = y.1 in
          let ei : at_ x.0 ≡ i = get_or_default p.indices x.0 0 i x.1 ∙ x.2 in
          let ej : at_ y.0 ≡ j = get_or_default p.indices y.0 0 j y.1 ∙ y.2 in
          let rise : x.0 < y.0 = (elim (index x.0 y.0) [
            | more g ↦ g
            | at g ↦ let same : at_ x.0 ≡ at_ y.0 = ap at_ g in absurd (omega (arith, same, ei, ej, l))
            | less g ↦ let up = indices_rise n A B p y.0 x.0 g (omega (arith, lx, long)) in absurd (omega (arith, up, ei, ej, l))
          ]) in
          subst (λ z. Contains r.rows (pair_rows A z j)) ei (subst (λ z. Contains r.rows (pair_rows A (at_ x.0) z)) ej
          (r.every x.0 y.0 rise (omega (arith, ly, long))));
    } in (
      r.rows,
      (
        hypersurface_list n A r.rows gordan w different vertices,
        record {
          to = λ d k.
              let x = r.each d k in (
                pair_rows B x.0 x.1,
                (
                  record { i = x.0; j = x.1; ordered = x.2.0; inside = x.2.1; rows = refl },
                  subst (λ z. SameCone n z (pair_rows B x.0 x.1)) (sym x.2.2) (pair_same n A B p x.0 x.1 (reached n A B gordan w p) w x.2.0 x.2.1),
                ),
              );
          from = λ e is. (
            pair_rows A (at_ is.i) (at_ is.j),
            (
              r.every is.i is.j is.ordered is.inside,
              subst (SameCone n (pair_rows A (at_ is.i) (at_ is.j))) (sym is.rows)
                  (pair_same n A B p is.i is.j (reached n A B gordan w p) w is.ordered is.inside),
            ),
          );
        },
      ),
    )

pub singles_over : (n : ℕ) (A B : List (List ℤ)) (b : List ℤ) → GordansAlternative → AreRows n A → Contains A b → AreVertexPoints n A B →
    (cones : List Rows) × (IsMinkowskiList n (A ∷ []) cones × AreConesOver One n B cones)
singles_over n A B b gordan w kb p =
    let at_ : ℕ → ℕ = index_of n A B p in
    let r = list_of (length B) (λ i. single_rows A (at_ i)) in (
      r.rows,
      (
        minkowski_list n A b r.rows gordan w kb (vertex_list n A B p),
        record {
          to = λ d k.
              let x = r.each d k in (
                single_rows B x.0,
                (
                  record { i = x.0; inside = x.1.0; rows = refl },
                  subst (λ z. SameCone n z (single_rows B x.0)) (sym x.1.1) (single_same n A B p x.0 (reached n A B gordan w p) w x.1.0),
                ),
              );
          from = λ e is. (
            single_rows A (at_ is.i),
            (
              r.every is.i is.inside,
              subst (SameCone n (single_rows A (at_ is.i))) (sym is.rows) (single_same n A B p is.i (reached n A B gordan w p) w is.inside),
            ),
          );
        },
      ),
    )
