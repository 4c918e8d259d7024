-- The cones of single points and of pairs of points: the Minkowski fan and the hypersurface of one polynomial.
use Rattle.std.proofs.Common.{◌≡◌, ◌≢◌, ℕ, ◌<◌, List, [], ◌∷◌, length, ℤ, pos, ◌-ℤ◌, arith, sym, ap, ◌∙◌, subst, Contains, ◌⊎◌, inl, inr, AllPairs, remove}
use Rattle.std.proofs.Common.{get_or}
use Rattle.std.proofs.lemmas.Int.{ints}
use Rattle.std.proofs.lemmas.List.{get_or_default}
use Rattle.std.proofs.lemmas.List.Elements.{All-contains, Contains-get_or}
use Rattle.std.proofs.lemmas.List.Edits.{get_or-remove_below, length-remove}
use Rattle.gf_int_theory.proofs.ListLaws.{Contains-here}
use Rattle.gf_vec.specs.Vector.{dot}
use Rattle.gf_gordan.specs.Alternative.{AreRows}
use Rattle.gf_duality_theory.specs.Faces.{Rows, IsInCone, IsFaceOf}
use Rattle.gf_duality_theory.proofs.ListLaws.{none_in, in_tail, in_cons, of_rest, rest_cover, less, at, more, index}
use Rattle.gf_fans_theory.specs.Fans.{MeetInFaces, MeetPairwise}
use Rattle.gf_fans_theory.proofs.FanLaws.{is_in, up_in, zero_in, of_part}
use Rattle.gf_patterns_theory.specs.Refinements.{IsFaceOfSome}
use Rattle.gf_patterns_theory.specs.Interiors.{HaveInteriors}
use Rattle.gf_patterns_theory.specs.Patterns.{IsHighest, IsClosedCone, IsOnHypersurface, IsPrevariety, IsMinkowskiFan}
use Rattle.gf_patterns_theory.specs.PatternRows.{vector_difference, point_at, single_rows, pair_rows}
use Rattle.gf_patterns_theory.specs.Vertices.{IsVertex, AreVertexCones, AreVertexPairCones}
use Rattle.gf_patterns_theory.proofs.RefinementLaws.{fan_of}
use Rattle.gf_patterns_theory.proofs.VertexLaws.{vertex_of, two_vertices}
use Rattle.gf_patterns_theory.proofs.RowLaws.{dot_minus, IsRowsOf, top, rows_meet, face_closed, closed_face, one_list}
use Rattle.gf_duality_theory.proofs.Equations.{in_map, map_in}

wide_at : (n : ℕ) (A : List (List ℤ)) → AreRows n A → (b : List ℤ) → Contains A b → length b ≡ n
wide_at n A w b k = All-contains (λ t. length t ≡ n) A b w k

point_in : (A : List (List ℤ)) (i : ℕ) → i < length A → Contains A (point_at A i)
point_in A i l = Contains-get_or A i [] l

difference_up : (n : ℕ) (A : List (List ℤ)) (a g u : List ℤ) → AreRows n A → Contains A a → Contains A g → dot (vector_difference a g) u ≡ dot a u -ℤ dot g u
difference_up n A a g u w ka kg = dot_minus a g u (wide_at n A w a ka ∙ sym (wide_at n A w g kg))

pub single_is : (n : ℕ) (A : List (List ℤ)) (i : ℕ) → AreRows n A → i < length A → IsRowsOf n A (point_at A i ∷ []) (point_at A i) (single_rows A i)
single_is n A i w li =
    let a : List ℤ = point_at A i in let rest : List (List ℤ) = remove A i in let ka = point_in A i li in
    record {
      first = Contains-here a [];
      inside = λ s k. subst (Contains A) (sym (elim (in_cons a [] s k) [ inl e ↦ e | inr j ↦ absurd (none_in s j) ])) ka;
      wide = wide_at n A w;
      same_as = λ u lu. (
        (λ c s b ks kb. elim (in_cons a [] s ks) [
          | inr j ↦ absurd (none_in s j)
          | inl e ↦ let q : dot s u ≡ dot a u = ap (λ z. dot z u) e in elim (rest_cover A i [] b li kb) [
            | inr j ↦ elim (in_cons a [] b j) [
              | inl t ↦ let p : dot b u ≡ dot a u = ap (λ z. dot z u) t in omega (arith, ints, q, p)
              | inr x ↦ absurd (none_in b x)
            ]
            | inl j ↦ let v = difference_up n A a b u w ka kb in let g =
                up_in (single_rows A i) u (vector_difference a b) c (map_in (vector_difference a) rest b j) in omega (arith, ints, q, v, g)
          ]
        ]),
        (λ p. is_in (single_rows A i) u
            (λ h k. let o = in_map (vector_difference a) rest h k in let kg = of_rest A i o.0 li o.1.0 in let v = difference_up n A a o.0 u w ka kg in let g =
            p a o.0 (Contains-here a []) kg in let e : dot h u ≡ dot (vector_difference a o.0) u = ap (λ z. dot z u) o.1.1 in omega (arith, ints, v, g, e))
            (λ h k. absurd (none_in h k))),
      );
      each = λ h k. let o = in_map (vector_difference a) rest h k in (o.0, (of_rest A i o.0 li o.1.0, o.1.1));
      every = λ g k. elim (rest_cover A i [] g li k) [ inl j ↦ inr (map_in (vector_difference a) rest g j) | inr j ↦ inl j ];
    }

-- the members of two indices, or of the rest
rest_of_two : (A : List (List ℤ)) (i j : ℕ) (g : List ℤ) → i < j → j < length A → Contains A g →
    Contains (point_at A i ∷ point_at A j ∷ []) g ⊎ Contains (remove (remove A j) i) g
rest_of_two A i j g l lj k =
    let a : List ℤ = point_at A i in let b : List ℤ = point_at A j in
    let li : i < length (remove A j) = omega (arith, length-remove A j lj, l, lj) in
    elim (rest_cover A j [] g lj k) [
      | inr x ↦ inl (in_tail a (b ∷ []) g x)
      | inl x ↦ elim (rest_cover (remove A j) i [] g li x) [
        | inl y ↦ inr y
        | inr y ↦ inl (elim (in_cons (get_or (remove A j) i []) [] g y) [
          | inl e ↦ subst (Contains (a ∷ b ∷ [])) (sym (e ∙ get_or-remove_below A j [] i l lj)) (Contains-here a (b ∷ []))
          | inr z ↦ absurd (none_in g z)
        ])
      ]
    ]

of_rest_of_two : (A : List (List ℤ)) (i j : ℕ) (g : List ℤ) → i < j → j < length A → Contains (remove (remove A j) i) g → Contains A g
of_rest_of_two A i j g l lj k =
    let li : i < length (remove A j) = omega (arith, length-remove A j lj, l, lj) in of_rest A j g lj (of_rest (remove A j) i g li k)

pub pair_is : (n : ℕ) (A : List (List ℤ)) (i j : ℕ) → AreRows n A → i < j → j < length A →
    IsRowsOf n A (point_at A i ∷ point_at A j ∷ []) (point_at A i) (pair_rows A i j)
pair_is n A i j w l lj =
    let a : List ℤ = point_at A i in let b : List ℤ = point_at A j in let rest : List (List ℤ) = remove (remove A j) i in
    let ka = point_in A i (omega (arith, l, lj)) in let kb = point_in A j lj in
    let two : List (List ℤ) = a ∷ b ∷ [] in
    record {
      first = Contains-here a (b ∷ []);
      inside = λ s k. elim (in_cons a (b ∷ []) s k) [
        | inl e ↦ subst (Contains A) (sym e) ka
        | inr x ↦ elim (in_cons b [] s x) [ inl e ↦ subst (Contains A) (sym e) kb | inr y ↦ absurd (none_in s y) ]
      ];
      wide = wide_at n A w;
      same_as = λ u lu. (
        (λ c s g ks kg.
            let vb = difference_up n A a b u w ka kb in
            let zb : dot (vector_difference a b) u ≡ pos 0 = zero_in (pair_rows A i j) u (vector_difference a b) c (Contains-here (vector_difference a b) []) in
            let level_of : (x : List ℤ) → Contains two x → dot x u ≡ dot a u = λ x kx. elim (in_cons a (b ∷ []) x kx) [
              | inl e ↦ ap (λ z. dot z u) e
              | inr y ↦ elim (in_cons b [] x y) [
                | inl e ↦ let q : dot x u ≡ dot b u = ap (λ z. dot z u) e in omega (arith, ints, q, vb, zb)
                | inr z ↦ absurd (none_in x z)
              ]
            ] in
            let q = level_of s ks in
            elim (rest_of_two A i j g l lj kg) [
              | inl x ↦ let p = level_of g x in omega (arith, ints, p, q)
              | inr x ↦ let v = difference_up n A a g u w ka kg in let t =
                  up_in (pair_rows A i j) u (vector_difference a g) c (map_in (vector_difference a) rest g x) in omega (arith, ints, q, v, t)
            ]),
        (λ p. is_in (pair_rows A i j) u
            (λ h k.
            let o = in_map (vector_difference a) rest h k in let kg = of_rest_of_two A i j o.0 l lj o.1.0 in
            let v = difference_up n A a o.0 u w ka kg in let g = p a o.0 (Contains-here a (b ∷ [])) kg in let e : dot h u ≡ dot (vector_difference a o.0) u =
            ap (λ z. dot z u) o.1.1 in
            omega (arith, ints, v, g, e))
            (λ h k. elim (in_cons (vector_difference a b) [] h k) [
              | inr y ↦ absurd (none_in h y)
              | inl e ↦
                  let v = difference_up n A a b u w ka kb in let f = p a b (Contains-here a (b ∷ [])) kb in let g =
                  p b a (in_tail a (b ∷ []) b (Contains-here b [])) ka in
                  let q : dot h u ≡ dot (vector_difference a b) u = ap (λ z. dot z u) e in
                  omega (arith, ints, v, f, g, q)
            ])),
      );
      each = λ h k. let o = in_map (vector_difference a) rest h k in (o.0, (of_rest_of_two A i j o.0 l lj o.1.0, o.1.1));
      every = λ g k. elim (rest_of_two A i j g l lj k) [ inl x ↦ inl x | inr x ↦ inr (map_in (vector_difference a) rest g x) ];
    }

-- ---- fans

pub singles_fan : (n : ℕ) (A : List (List ℤ)) (cones : List Rows) → AreRows n A → AreVertexCones n A cones → MeetPairwise n cones
singles_fan n A cones w s = fan_of n cones (λ c d k l.
    let p = s.each c k in let q = s.each d l in
    subst (λ z. MeetInFaces n z d) (sym p.1.1) (subst (λ z. MeetInFaces n (single_rows A p.0) z) (sym q.1.1)
    (rows_meet n A (point_at A p.0 ∷ []) (point_at A q.0 ∷ []) (point_at A p.0) (point_at A q.0) (single_rows A p.0) (single_rows A q.0)
    (single_is n A p.0 w p.1.0) (single_is n A q.0 w q.1.0))))

pub pairs_fan : (n : ℕ) (A : List (List ℤ)) (cones : List Rows) → AreRows n A → AreVertexPairCones n A cones → MeetPairwise n cones
pairs_fan n A cones w s = fan_of n cones (λ c d k l.
    let p = s.each c k in let q = s.each d l in
    subst (λ z. MeetInFaces n z d) (sym p.2.2) (subst (λ z. MeetInFaces n (pair_rows A p.0 p.1) z) (sym q.2.2)
    (rows_meet n A (point_at A p.0 ∷ point_at A p.1 ∷ []) (point_at A q.0 ∷ point_at A q.1 ∷ []) (point_at A p.0) (point_at A q.0) (pair_rows A p.0 p.1)
    (pair_rows A q.0 q.1) (pair_is n A p.0 p.1 w p.2.0 p.2.1) (pair_is n A q.0 q.1 w q.2.0 q.2.1))))

-- ---- what the cones are

-- the faces of the cones of single points are the Minkowski fan of one polynomial
pub singles_minkowski : (n : ℕ) (A : List (List ℤ)) (b : List ℤ) (cones : List Rows) → AreRows n A → Contains A b → AreVertexCones n A cones →
    HaveInteriors n cones → IsMinkowskiFan n (A ∷ []) cones
singles_minkowski n A b cones w kb s inner = record {
  each = λ f k.
      let p = s.each k.cone k.listed in let i = inner f k in
      record {
        vector = i.0;
        width = i.1.width;
        admitted = tt;
        closed = face_closed n A (point_at A p.0 ∷ []) (point_at A p.0) i.0 (single_rows A p.0) f (single_is n A p.0 w p.1.0)
            (subst (IsFaceOf n f) p.1.1 k.face) i.1;
      };
  every = λ v lv ad.
      let h = vertex_of n A v b (wide_at n A w) lv kb in let k : ℕ = h.1.0.listed.0 in let lk = h.1.0.listed.1 in
      let a : List ℤ = point_at A k in
      let e : a ≡ h.0 = get_or_default A k [] h.0 lk ∙ h.1.0.listed.2 in
      let f = closed_face n A (a ∷ []) a v (single_rows A k) (single_is n A k w lk)
      (λ x kx. elim (in_cons a [] x kx) [ inl q ↦ subst (IsHighest A v) (sym (q ∙ e)) h.1.0 | inr y ↦ absurd (none_in x y) ]) in
      (f.0, (record { cone = single_rows A k; listed = s.every k lk (subst (IsVertex n A) (sym e) h.1.1); face = f.1.0 }, f.1.1));
}

-- a pair of indices, the lesser first
pair_at : (n : ℕ) (A : List (List ℤ)) (cones : List Rows) (v : List ℤ) (i j : ℕ) → AreRows n A → AreVertexPairCones n A cones → i < j → j < length A →
    IsHighest A v (point_at A i) → IsHighest A v (point_at A j) → IsVertex n A (point_at A i) → IsVertex n A (point_at A j) →
    (f : Rows) × (IsFaceOfSome n cones f × IsClosedCone n (A ∷ []) v f)
pair_at n A cones v i j w s l lj hi hj vi vj =
    let a : List ℤ = point_at A i in let b : List ℤ = point_at A j in
    let f = closed_face n A (a ∷ b ∷ []) a v (pair_rows A i j) (pair_is n A i j w l lj) (λ x kx. elim (in_cons a (b ∷ []) x kx) [
      | inl q ↦ subst (IsHighest A v) (sym q) hi
      | inr y ↦ elim (in_cons b [] x y) [ inl q ↦ subst (IsHighest A v) (sym q) hj | inr z ↦ absurd (none_in x z) ]
    ]) in
    (f.0, (record { cone = pair_rows A i j; listed = s.every i j l lj vi vj; face = f.1.0 }, f.1.1))

-- the faces of the cones of pairs of points are the hypersurface
pub pairs_hypersurface : (n : ℕ) (A : List (List ℤ)) (cones : List Rows) → AreRows n A → AllPairs (λ x y. x ≢ y) A → AreVertexPairCones n A cones →
    HaveInteriors n cones → IsPrevariety n (A ∷ []) cones
pairs_hypersurface n A cones w different s inner = record {
  each = λ f k.
      let p = s.each k.cone k.listed in let i = inner f k in
      let a : List ℤ = point_at A p.0 in let b : List ℤ = point_at A p.1 in
      let is = pair_is n A p.0 p.1 w p.2.0 p.2.1 in
      let fk : IsFaceOf n f (pair_rows A p.0 p.1) = subst (IsFaceOf n f) p.2.2 k.face in
      let iw : IsInCone (pair_rows A p.0 p.1) i.0 = of_part (pair_rows A p.0 p.1) fk.0 i.0 ((fk.1.1 i.0 i.1.width).0 i.1.inside) in
      record {
        vector = i.0;
        width = i.1.width;
        admitted = λ B kB. subst (λ z. IsOnHypersurface z i.0) (sym (one_list A B kB)) (record {
          one = a;
          two = b;
          other = different p.0 p.1 [] p.2.0 p.2.1;
          first = top n A (a ∷ b ∷ []) a (pair_rows A p.0 p.1) a i.0 is (Contains-here a (b ∷ [])) i.1.width iw;
          second = top n A (a ∷ b ∷ []) a (pair_rows A p.0 p.1) b i.0 is (in_tail a (b ∷ []) b (Contains-here b [])) i.1.width iw;
        });
        closed = face_closed n A (a ∷ b ∷ []) a i.0 (pair_rows A p.0 p.1) f is fk i.1;
      };
  every = λ v lv on.
      let h = two_vertices n A v (wide_at n A w) lv (on A (Contains-here A [])) in
      let i : ℕ = h.first.listed.0 in let li = h.first.listed.1 in let j : ℕ = h.second.listed.0 in let lj = h.second.listed.1 in
      let ei : point_at A i ≡ h.one = get_or_default A i [] h.one li ∙ h.first.listed.2 in
      let ej : point_at A j ≡ h.two = get_or_default A j [] h.two lj ∙ h.second.listed.2 in
      let hi = subst (IsHighest A v) (sym ei) h.first in let hj = subst (IsHighest A v) (sym ej) h.second in
      let vi = subst (IsVertex n A) (sym ei) h.first_vertex in let vj = subst (IsVertex n A) (sym ej) h.second_vertex in
      elim (index j i) [
        | less g ↦ pair_at n A cones v i j w s g lj hi hj vi vj
        | more g ↦ pair_at n A cones v j i w s g li hj hi vj vi
        | at g ↦ absurd (h.other (sym ei ∙ ap (point_at A) (sym g) ∙ ej))
      ];
}
